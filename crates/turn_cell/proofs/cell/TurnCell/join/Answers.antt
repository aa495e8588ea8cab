-- The first seat may take the other in.
use Rattle.std.proofs.Common.{◌∙◌, sym, ap, arith, box_value}
use Rattle.turn_cell.specs.Seats.{emptied_slots}
use Rattle.turn_cell.proofs.Models.{same_table, same_cell, same_knows, same_in_turn, same_is_first}
use Rattle.turn_cell.proofs.Sharing.{may_join}
use Rattle.turn_cell.proofs.cell.TurnCell.join.Goals as goal

pub join_seat-requires : goal.join_seat-requires
join_seat-requires g c =
    let knows = same_knows c.seat.view_is in let other_knows = same_knows c.other.view_is in (
      same_table (same_cell c.seat.view_is ∙ c.requires.cell ∙ sym c.self.view_is),
      same_table (same_cell c.other.view_is ∙ c.requires.other_cell ∙ sym c.self.view_is),
      c.other.invariant.1 ∙ ap emptied_slots (same_in_turn other_knows ∙ c.requires.other_outside),
      omega (arith, c.self.invariant.0),
      may_join g.M.Machine.owner (λ b. g.M.Machine.history (box_value b)) (λ b. g.M.Machine.job (box_value b)) g.M.Machine.job _ _ _ _ _
          c.seat.invariant.0
          c.other.invariant.0
          (same_is_first knows ∙ c.requires.first)
          (same_in_turn knows ∙ c.requires.outside)
          (same_in_turn other_knows ∙ c.requires.other_outside),
    )
