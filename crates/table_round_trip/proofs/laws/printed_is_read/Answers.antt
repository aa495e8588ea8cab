use Rattle.table_round_trip.proofs.Tables.{printed}
use Rattle.table_round_trip.proofs.laws.printed_is_read.Goals as goal

pub returns : goal.returns
returns c = printed
