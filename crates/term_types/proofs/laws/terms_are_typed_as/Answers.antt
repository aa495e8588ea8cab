use Rattle.term_types.proofs.TypedTerms.{terms_are_typed_as}
use Rattle.term_types.proofs.laws.terms_are_typed_as.Goals as goal

pub returns : goal.returns
returns c = terms_are_typed_as
