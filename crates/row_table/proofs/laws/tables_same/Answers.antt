use Rattle.row_table.proofs.Same.{same_itself, same_turned, same_chained}
use Rattle.row_table.proofs.laws.tables_same.Goals as goal

pub returns : goal.returns
returns c = record { itself = same_itself; turned = same_turned; chained = same_chained }
