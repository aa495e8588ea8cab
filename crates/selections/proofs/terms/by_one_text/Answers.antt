use Rattle.std.proofs.Common.{List, ℕ, true, sym, ap, ◌∙◌, Option, None, Ok}
use Rattle.selections.specs.Columns.{lowered, passes, places_that}
use Rattle.selections.specs.Selectors.{of_columns, by_one_text}
use Rattle.selections.proofs.terms.by_one_text.Goals as goal

pub returns-in_ok-places-in-Some : goal.returns-in_ok-places-in-Some
returns-in_ok-places-in-Some c =
    let found = λ (text : List ℕ). places_that (λ name. passes c.args.test (lowered text) (lowered name)) c.args.schema.now in
    let read = λ (text : Option (List ℕ)). by_one_text c.args.schema.now (passes c.args.test) None text in
    c.of_columns.ensures ∙ ap (λ (places : List ℕ). of_columns true (Ok places)) (c.in_ok-places-in-Some.ensures ∙ ap found c.as_str.ensures.value) ∙ ap read (sym c.in-Some.is)
