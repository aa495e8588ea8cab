use Rattle.std.proofs.Common.{List, ℕ, Ok, Err, subst, sym}
use Rattle.std.proofs.lemmas.Result.{err_from_is_err_and}
use Rattle.syntax_tree.specs.declared.tree.Pipe.{Pipe}
use Rattle.script_evaluation.specs.Evaluation.{opening, with_assigned}
use Rattle.script_evaluation.specs.Working.{IsScopeOf, GivesScope}
use Rattle.script_evaluation.proofs.Staged.{script_refused, script_given}
use Rattle.script_evaluation.proofs.evaluation.evaluate.Goals as goal

pub returns-in_err-with_assigned : goal.returns-in_err-with_assigned
returns-in_err-with_assigned c =
    let p = err_from_is_err_and c.from_residual-in_err-with_assigned.result c.from_residual-in_err-with_assigned.ensures.1 in
    rw (p.1, p.2)
    (script_refused c.args.tables.now c.args.script.now c.with_assigned.new.scope.items c.in_err-with_assigned.field-0.0
    (subst (λ (assigns : List (List ℕ × Pipe)). GivesScope c.args.tables.now c.with_assigned.new.scope.items (Err c.in_err-with_assigned.field-0.0) (with_assigned (opening c.args.tables.now) assigns)) c.as_slice.ensures
    (c.in_err-with_assigned.ensures c.args.tables.now (opening c.args.tables.now) c.in_ok-scope.ensures)))

pub returns : goal.returns
returns c =
    script_given c.args.tables.now c.args.script.now c.with_assigned.new.scope.items c.piped.result
    (subst (λ (assigns : List (List ℕ × Pipe)). GivesScope c.args.tables.now c.with_assigned.new.scope.items (Ok tt) (with_assigned (opening c.args.tables.now) assigns)) c.as_slice.ensures
    (c.in_ok-with_assigned.ensures c.args.tables.now (opening c.args.tables.now) c.in_ok-scope.ensures))
    (λ names stand. c.piped.ensures c.args.tables.now names (subst (IsScopeOf c.args.tables.now names) (sym c.deref.ensures.value) stand))
