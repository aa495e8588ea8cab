-- The rule holds at the beginning.
use Rattle.std.proofs.Common.{◌∙◌, sym, ap, [], ◌∷◌, ◌++◌, box_value, Some}
use Rattle.turn_cell.proofs.Turn.{begins_with}
use Rattle.turn_cell.proofs.cell.TurnCell.new.Goals as goal

pub new-requires : goal.new-requires
new-requires g c =
    begins_with g.M.Machine.owner (λ b. g.M.Machine.history (box_value b)) (λ b. g.M.Machine.job (box_value b)) g.M.Machine.job _ c.args.start _ _
    (c.in_ok-push.ensures.items ∙ ap (λ slots. slots ++ Some c.args.start ∷ []) c.new-slots.ensures.items)
    c.requires
    (ap g.M.Machine.job (sym (c.of.ensures ∙ c.deref.ensures)))
