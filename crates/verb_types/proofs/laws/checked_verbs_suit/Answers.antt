use Rattle.verb_types.proofs.Suiting.{checked_verbs_suit}
use Rattle.verb_types.proofs.laws.checked_verbs_suit.Goals as goal

pub returns : goal.returns
returns c = checked_verbs_suit
