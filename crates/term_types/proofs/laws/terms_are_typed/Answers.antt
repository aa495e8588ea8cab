use Rattle.term_types.proofs.TypedTerms.{terms_are_typed}
use Rattle.term_types.proofs.laws.terms_are_typed.Goals as goal

pub returns : goal.returns
returns c = terms_are_typed
