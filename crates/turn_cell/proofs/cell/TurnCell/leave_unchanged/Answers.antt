-- The turn may be given back.
use Rattle.std.proofs.Common.{◌∙◌, sym, ap, arith, ◌∷◌, box_value, option_map, Some}
use Rattle.atomic_table.specs.Table.{rest}
use Rattle.turn_cell.specs.Seats.{emptied_slots}
use Rattle.turn_cell.proofs.Models.{same_table, same_start, same_cell, same_knows, same_in_turn, same_seen}
use Rattle.turn_cell.proofs.Turn.{may_give, job_of_start}
use Rattle.turn_cell.proofs.cell.TurnCell.leave_unchanged.Goals as goal

pub store-requires : goal.store-requires
store-requires g c =
    let knows = same_knows c.seat.view_is in let inside = same_in_turn knows ∙ c.requires.in_turn in let after = c.exchange.ensures.3 in (
      c.exchange.ensures.0 ∙ same_table (same_cell c.seat.view_is ∙ c.requires.cell ∙ sym c.self.view_is),
      omega (arith, c.self.invariant.0),
      may_give g.M.Machine.owner (λ b. g.M.Machine.history (box_value b)) (λ b. g.M.Machine.job (box_value b)) g.M.Machine.job _ _ _ _ c.args.machine
          c.self.invariant.1
          (ap (λ me. me.0.is_live) after ∙ c.seat.invariant.0)
          (ap (λ me. me.0.knows.in_turn) after ∙ inside)
          (ap (λ me. me.1) after ∙ ap (λ held. (0, Some c.args.machine) ∷ rest held) (c.seat.invariant.1 ∙ ap emptied_slots inside))
          (c.requires.history ∙ sym (ap (λ me. me.0.knows.seen) after ∙ same_seen knows))
          (job_of_start g.M.Machine.job _ _ (ap (option_map g.M.Machine.job) (ap (λ me. me.0.start) after ∙ same_start (same_cell c.seat.view_is ∙ c.requires.cell)) ∙ c.requires.job)),
    )
