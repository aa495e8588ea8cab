use Rattle.row_table.proofs.Different.{times-different}
use Rattle.row_table.proofs.laws.keys_different.Goals as goal

pub returns : goal.returns
returns c = times-different
