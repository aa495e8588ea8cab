use Rattle.std.proofs.Common.{ℕ, sym, ap, ◌∙◌, arith}
use Rattle.plan_machine.specs.Lists.{at_or}
use Rattle.plan_bounds.specs.Bounds.{nothing}
use Rattle.plan_bounds.proofs.NodeByNode.{at_index}
use Rattle.plan_bounds.proofs.computed.input_bound.Goals as goal

pub returns-in-Some : goal.returns-in-Some
returns-in-Some c =
    let n = c.input_number.result in
    c.in-Some.ensures.lookup.3.1 nothing ∙ (sym (at_index nothing n c.args.bounds.now) ∙ ap (λ (k : ℕ). at_or nothing k c.args.bounds.now) c.input_number.ensures)

pub returns-in-None : goal.returns-in-None
returns-in-None c =
    let n = c.input_number.result in
    c.in-None.ensures.lookup.4 (omega arith) nothing ∙ (sym (at_index nothing n c.args.bounds.now) ∙ ap (λ (k : ℕ). at_or nothing k c.args.bounds.now) c.input_number.ensures)
