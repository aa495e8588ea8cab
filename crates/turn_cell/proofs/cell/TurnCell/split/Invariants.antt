-- The new seat's number is the one that was asked for.
use Rattle.turn_cell.proofs.cell.TurnCell.split.Given as goal

abbrev pub ghosts-split_off : goal.ghosts-split_off
ghosts-split_off g a = record { number = a.number }
