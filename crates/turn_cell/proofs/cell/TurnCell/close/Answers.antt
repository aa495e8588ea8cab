-- What the closed table has in its slot, and what is known of it.
use Rattle.std.proofs.Common.{◌∙◌, sym, ap, subst, refl, box_value, option_map, Some}
use Rattle.std.specs.Option.{IsSome}
use Rattle.turn_cell.proofs.Models.{same_start, same_knows, same_in_turn, same_is_first, same_unjoined}
use Rattle.turn_cell.proofs.Ends.{Ending, Found, ends, ending_of}
use Rattle.turn_cell.proofs.cell.TurnCell.close.Given.{Over}
use Rattle.turn_cell.proofs.cell.TurnCell.close.Goals.{After-free, After-unwrap}
use Rattle.turn_cell.proofs.cell.TurnCell.close.Goals as goal

-- what was in the slot
found : (g : Over) (c : After-free g)
    → Found g.M.Machine.owner (λ b. g.M.Machine.history (box_value b)) (λ b. g.M.Machine.job (box_value b)) g.M.Machine.job c.self.inside.table.shared.key.0.value c.seat.inside.inner.me.0.knows c.take-slot.result
found g c =
    ends g.M.Machine.owner (λ b. g.M.Machine.history (box_value b)) (λ b. g.M.Machine.job (box_value b)) g.M.Machine.job _ _ _ _ _
    c.seat.invariant.0
    (same_is_first (same_knows c.seat.view_is) ∙ c.requires.first)
    (same_in_turn (same_knows c.seat.view_is) ∙ c.requires.outside)
    (same_unjoined (same_knows c.seat.view_is) ∙ c.requires.all_joined)
    c.close_with-closed.ensures.values.2
    _
    c.take-slot.ensures.value

pub unwrap-requires : goal.unwrap-requires
unwrap-requires g c = subst IsSome (sym (found g c).is) refl

-- what is known of the machine that comes back
returned : (g : Over) (c : After-unwrap g)
    → Found g.M.Machine.owner (λ b. g.M.Machine.history (box_value b)) (λ b. g.M.Machine.job (box_value b)) g.M.Machine.job c.self.inside.table.shared.key.0.value c.seat.inside.inner.me.0.knows c.take-slot.result
    → Ending g.M.Machine.owner (λ b. g.M.Machine.history (box_value b)) (λ b. g.M.Machine.job (box_value b)) g.M.Machine.job c.self.inside.table.shared.key.0.value c.args.seat.knows c.unwrap.result
returned g c f =
    ending_of g.M.Machine.owner (λ b. g.M.Machine.history (box_value b)) (λ b. g.M.Machine.job (box_value b)) g.M.Machine.job _ _ _ _ _
    (same_knows c.seat.view_is)
    c.unwrap.ensures
    f

pub returns-clause-job : goal.returns-clause-job
returns-clause-job g c = ap (option_map g.M.Machine.job) (sym (same_start c.self.view_is)) ∙ ap Some (sym (returned g c (found g (goal.at.returns-clause-job g c).After-free)).same_job)

pub returns-clause-history : goal.returns-clause-history
returns-clause-history g c = (returned g c (found g (goal.at.returns-clause-history g c).After-free)).whole

pub returns-clause-every_number : goal.returns-clause-every_number
returns-clause-every_number g c = (returned g c (found g (goal.at.returns-clause-every_number g c).After-free)).every_number

pub returns-clause-own : goal.returns-clause-own
returns-clause-own g c = (returned g c (found g (goal.at.returns-clause-own g c).After-free)).own

pub returns-clause-joined : goal.returns-clause-joined
returns-clause-joined g c = (returned g c (found g (goal.at.returns-clause-joined g c).After-free)).joined

pub returns-clause-not_given : goal.returns-clause-not_given
returns-clause-not_given g c = (returned g c (found g (goal.at.returns-clause-not_given g c).After-free)).not_given
