use Rattle.std.proofs.Common.{◌≡◌, ◌∷◌, [], ◌++◌, ◌+◌, take, subst, sym, ap, ◌∙◌}
use Rattle.script_evaluation.specs.Evaluation.{opening}
use Rattle.script_evaluation.specs.Working.{StageScope, IsScopeOf, table_stage}
use Rattle.script_evaluation.proofs.Scopes.{words_more}
use Rattle.script_evaluation.proofs.evaluation.opening.Goals as goal

pub loop-source-preserved : goal.loop-source-preserved
loop-source-preserved c =
    let t = c.index-tables-source.result in
    let stages : StageScope = c.loop-source.scope.items ++ (t.0, table_stage t c.loop-source.source) ∷ [] in
    let same : c.push.new.self.items ≡ stages =
    c.in_ok-push.ensures.items
    ∙ (ap (λ n. c.loop-source.scope.items ++ (n, c.in_ok-stage_of.field-0) ∷ []) c.in_ok-copy.ensures ∙ ap (λ s. c.loop-source.scope.items ++ (t.0, s) ∷ []) c.in_ok-stage_of.ensures) in
    subst (IsScopeOf c.args.tables.now (opening (take (c.loop-source.source + 1) c.args.tables.now))) (sym same)
    (words_more c.args.tables.now c.loop-source.source t c.loop-source.scope.items c.loop-source-test.true c.index-tables-source.is c.loop-source.invariant)
