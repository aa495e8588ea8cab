use Rattle.row_table.proofs.Same.{same_shown, shown_equal}
use Rattle.row_table.proofs.laws.tables_shown.Goals as goal

pub returns : goal.returns
returns c = record { the_same = same_shown; equal = shown_equal }
