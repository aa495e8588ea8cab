use Rattle.token_scan.proofs.ReadAs.{are-read}
use Rattle.token_scan.proofs.laws.tokens_are_read.Goals as goal

pub returns : goal.returns
returns c = are-read
