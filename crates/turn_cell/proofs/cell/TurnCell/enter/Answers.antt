-- A seat outside the turn may try to take it; what it then takes out of the slot is what the step handed out.
use Rattle.std.proofs.Common.{◌∙◌, sym, ap, arith, box_value, Some}
use Rattle.turn_cell.specs.Seats.{emptied_slots}
use Rattle.turn_cell.proofs.Models.{same_table, same_cell, same_knows, same_in_turn}
use Rattle.turn_cell.proofs.Turn.{may_take, held_first, taken_out}
use Rattle.turn_cell.proofs.Owning.{own_of_seat}
use Rattle.turn_cell.proofs.cell.TurnCell.enter.Goals as goal

pub compare_exchange-requires : goal.compare_exchange-requires
compare_exchange-requires g c = (
  c.loop.invariant.0 ∙ same_table (same_cell c.seat.view_is ∙ c.requires.cell ∙ sym c.self.view_is),
  omega (arith, c.self.invariant.0),
  may_take g.M.Machine.owner (λ b. g.M.Machine.history (box_value b)) (λ b. g.M.Machine.job (box_value b)) g.M.Machine.job _ _ _ _ _
      c.self.invariant.1
      (ap (λ me. me.0.is_live) c.loop.invariant.1 ∙ c.seat.invariant.0)
      (ap (λ me. me.1) c.loop.invariant.1 ∙ c.seat.invariant.1 ∙ ap emptied_slots (same_in_turn (same_knows c.seat.view_is) ∙ c.requires.outside)),
)

pub exchange-requires : goal.exchange-requires
exchange-requires g c =
    let step = c.compare_exchange.ensures in let taken = step.2.taken c.if-compare_exchange-eq0.true in
    (step.0 ∙ c.loop.invariant.0 ∙ same_table (same_cell c.seat.view_is ∙ c.requires.cell ∙ sym c.self.view_is), (Some taken.0, held_first _ _ taken.1))

pub returns-then-compare_exchange-eq0-clause-own :
    goal.returns-then-compare_exchange-eq0-clause-own
returns-then-compare_exchange-eq0-clause-own g c =
    let step = c.compare_exchange.ensures in let taken = step.2.taken c.if-compare_exchange-eq0.true in
    (own_of_seat g.M.Machine.owner g.M.Machine.own _
    ((g.met.M.Machine g.world.𝓛 g.world.𝓜 g.world.𝓡 ((λ s x. x), (λ x. x), (λ x. x), λ x. x)).keeps_others _)
    (λ b. g.M.Machine.history (box_value b)) (λ b. g.M.Machine.job (box_value b)) g.M.Machine.job _ _ _ _ _
    (ap (λ me. me.0.knows) c.loop.invariant.1 ∙ same_knows c.seat.view_is)
    (taken_out _ _ _ _ _ taken.1 c.exchange.ensures.2 c.unwrap-machine.ensures)
    taken.3).0

pub returns-then-compare_exchange-eq0-clause-none_left :
    goal.returns-then-compare_exchange-eq0-clause-none_left
returns-then-compare_exchange-eq0-clause-none_left g c =
    let step = c.compare_exchange.ensures in let taken = step.2.taken c.if-compare_exchange-eq0.true in
    (own_of_seat g.M.Machine.owner g.M.Machine.own _
    ((g.met.M.Machine g.world.𝓛 g.world.𝓜 g.world.𝓡 ((λ s x. x), (λ x. x), (λ x. x), λ x. x)).keeps_others _)
    (λ b. g.M.Machine.history (box_value b)) (λ b. g.M.Machine.job (box_value b)) g.M.Machine.job _ _ _ _ _
    (ap (λ me. me.0.knows) c.loop.invariant.1 ∙ same_knows c.seat.view_is)
    (taken_out _ _ _ _ _ taken.1 c.exchange.ensures.2 c.unwrap-machine.ensures)
    taken.3).1
