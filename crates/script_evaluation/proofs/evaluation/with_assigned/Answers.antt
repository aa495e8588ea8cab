use Rattle.std.proofs.Common.{◌≡◌, ◌∷◌, [], ◌++◌, ◌+◌, drop, subst, sym, ap, ◌∙◌}
use Rattle.std.proofs.Math.ListN.{drop_of_length-le}
use Rattle.std.proofs.lemmas.Result.{err_from_is_err_and}
use Rattle.script_evaluation.specs.Working.{StageScope, IsScopeOf}
use Rattle.script_evaluation.proofs.Staged.{NamesGoOn, assign_refused, names_go_on, names_end}
use Rattle.script_evaluation.proofs.evaluation.with_assigned.Goals as goal

pub returns-in_err-stage : goal.returns-in_err-stage
returns-in_err-stage c tables names is =
    let p = err_from_is_err_and c.from_residual.result c.from_residual.ensures.1 in
    rw (p.1, p.2)
    (assign_refused tables names c.args.assigns.now c.loop-name.name-index c.loop-name-item.result c.loop-name.scope.items c.loop-name.scope.items c.in_err-stage.field-0.0 c.loop-name-test.true c.loop-name-item.is
    (c.loop-name.invariant tables names is) (λ now stand. c.in_err-stage.ensures tables now (subst (IsScopeOf tables now) (sym c.deref.ensures.value) stand)))

pub loop-name-preserved : goal.loop-name-preserved
loop-name-preserved c tables names is =
    let stages : StageScope = c.loop-name.scope.items ++ (c.loop-name-item.result.0, c.in_ok-stage.stage) ∷ [] in
    let same : c.push.new.self.items ≡ stages = c.in_ok-push.ensures.items ∙ ap (λ n. c.loop-name.scope.items ++ (n, c.in_ok-stage.stage) ∷ []) c.in_ok-copy.ensures in
    subst (NamesGoOn tables names c.args.assigns.now (drop (c.loop-name.name-index + 1) c.args.assigns.now)) (sym same)
    (names_go_on tables names c.args.assigns.now c.loop-name.name-index c.loop-name-item.result c.loop-name.scope.items c.in_ok-stage.stage c.loop-name-test.true c.loop-name-item.is
    (c.loop-name.invariant tables names is) (λ now stand. c.in_ok-stage.ensures tables now (subst (IsScopeOf tables now) (sym c.deref.ensures.value) stand)))

pub returns : goal.returns
returns c tables names is =
    names_end tables names c.args.assigns.now (drop c.loop-name.name-index c.args.assigns.now) c.loop-name.scope.items (drop_of_length-le c.args.assigns.now c.loop-name-test.false) (c.loop-name.invariant tables names is)
