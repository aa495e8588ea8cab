use Rattle.std.proofs.Common.{Bool, Some, if◌then◌else◌, sym, ap, ◌∙◌}
use Rattle.std.specs.Slice.Iter.{iter_rest}
use Rattle.std.specs.Iterator.Adapters.{rev_source}
use Rattle.script_evaluation.specs.Working.{found_stage}
use Rattle.script_evaluation.proofs.Scopes.{found_turn}
use Rattle.script_evaluation.proofs.evaluation.found.Goals as goal

pub returns-then-eq : goal.returns-then-eq
returns-then-eq c =
    let turn = found_turn c.args.name.now c.args.scope.now (iter_rest (rev_source c.loop-own.own-iterator)) (iter_rest (rev_source c.next.new.self)) c.in-Some.field-0.now c.loop-own.invariant c.in-Some.ensures.steps in
    sym (turn ∙ ap (λ (b : Bool). if b then Some c.in-Some.field-0.now.1 else found_stage c.args.name.now (iter_rest (rev_source c.next.new.self))) (sym c.if-eq.ensures))

pub loop-own-preserved : goal.loop-own-preserved
loop-own-preserved c =
    let turn = found_turn c.args.name.now c.args.scope.now (iter_rest (rev_source c.loop-own.own-iterator)) (iter_rest (rev_source c.next.new.self)) c.in-Some.field-0.now c.loop-own.invariant c.in-Some.ensures.steps in
    turn ∙ ap (λ (b : Bool). if b then Some c.in-Some.field-0.now.1 else found_stage c.args.name.now (iter_rest (rev_source c.next.new.self))) (sym c.if-eq.ensures)
