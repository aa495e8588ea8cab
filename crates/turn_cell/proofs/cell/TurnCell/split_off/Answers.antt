-- The first seat may be split.
use Rattle.std.proofs.Common.{◌∙◌, sym, ap, arith, box_value}
use Rattle.turn_cell.specs.Knowledge.{is_one_of}
use Rattle.turn_cell.proofs.Models.{same_table, same_cell, same_knows, same_in_turn, same_is_first, same_given}
use Rattle.turn_cell.proofs.Sharing.{may_split}
use Rattle.turn_cell.proofs.cell.TurnCell.split_off.Goals as goal

pub split_seat-inner-requires : goal.split_seat-inner-requires
split_seat-inner-requires g c =
    let knows = same_knows c.seat.view_is in (
      same_table (same_cell c.seat.view_is ∙ c.requires.cell ∙ sym c.self.view_is),
      omega (arith, c.self.invariant.0),
      may_split g.M.Machine.owner (λ b. g.M.Machine.history (box_value b)) (λ b. g.M.Machine.job (box_value b)) g.M.Machine.job _ _ _ _
          c.seat.invariant.0
          (same_is_first knows ∙ c.requires.first)
          (same_in_turn knows ∙ c.requires.outside)
          (ap (λ given. is_one_of given g.N.Number.number) (same_given knows) ∙ sym (ap (is_one_of c.args.seat.now.knows.given) c.requires.number) ∙ c.requires.fresh),
    )
