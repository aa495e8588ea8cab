-- What the parts of a full join hold after each of its calls.
use Rattle.std.proofs.Common.{◌≡◌, ℕ, zero, suc, ◌<◌, arith, add-one, ◌+◌, ◌&&◌, List, [], ◌∷◌, ◌++◌, length, take, Result, Ok, Err, IfOk, OnOk, refl, sym, ◌∙◌, ap, ap₂, subst, IsTrue}
use Rattle.scalar_value.specs.declared.value.Value.{Value}
use Rattle.scalar_value.specs.declared.value.Value.TheVariants.{Missing}
use Rattle.scalar_value.specs.declared.value.ColType.{ColType}
use Rattle.plan_machine.specs.Batch.{Batch, rows_of, gathered}
use Rattle.column_batch.specs.Batches.{BatchValue, fit_kinds}
use Rattle.plan_nodes.specs.Operators.{Each, flat, first_of, second_of}
use Rattle.plan_nodes.specs.Kinds.{missing_row, joined_rows, unmatched_rows, same_kinds, keys_fit}
use Rattle.plan_nodes.specs.Examples.{by_first, bare, first_join, Keeps, Holds}
use Rattle.plan_nodes.proofs.Parts.{left-true, right-true, keeps-flat, keeps-rows, keeps-gathered, keeps-fit}
use Rattle.plan_nodes.proofs.JoinFits.{fit-joined, fit-unmatched, kinds-same}

pub if-ok : {A E : Type 0} {P Q : A → Type 0} (r : Result A E) → ((a : A) → P a → Q a) → IfOk r P → IfOk r Q
if-ok (Ok a) f p = f a p
if-ok (Err e) f p = p

pub on-ok : {A E P Q : Type 0} (r : Result A E) → (P → Q) → OnOk r P → OnOk r Q
on-ok (Ok a) f p = f p
on-ok (Err e) f p = p

pub missing-more : (kinds : List ColType) (i : ℕ) → i < length kinds → missing_row (take (i + 1) kinds) ≡ missing_row (take i kinds) ++ Missing ∷ []
missing-more [] i h = absurd (omega arith)
missing-more (k ∷ kinds) zero h = refl
missing-more (k ∷ kinds) (suc i) h =
    let rest = missing-more kinds i (omega arith) in
    let rest' = rw add-one at rest in
    rw add-one (ap (λ zs. Missing ∷ zs) rest')

module _ (left right : List ColType) (size : ℕ) (inputs : List (List ColType)) (fits : IsTrue ((first_join left right size).fits inputs)) where
  pub left-is : left ≡ first_of inputs
  left-is = kinds-same left (first_of inputs) (left-true (same_kinds left (first_of inputs)) (same_kinds right (second_of inputs) && keys_fit left right (0 ∷ []) (0 ∷ [])) fits)

  pub right-is : right ≡ second_of inputs
  right-is =
      kinds-same right (second_of inputs) (left-true (same_kinds right (second_of inputs)) (keys_fit left right (0 ∷ []) (0 ∷ []))
      (right-true (same_kinds left (first_of inputs)) (same_kinds right (second_of inputs) && keys_fit left right (0 ∷ []) (0 ∷ [])) fits))

  fit-ends : (built streamed : List (List Value)) → IsTrue (fit_kinds (second_of inputs) built) → IsTrue (fit_kinds (left ++ right) (unmatched_rows by_first left built streamed))
  fit-ends built streamed fit = fit-unmatched left right built streamed (subst (λ ks. IsTrue (fit_kinds ks built)) (sym right-is) fit)

  pub sealed-holds : (locals : List (List BatchValue)) (lists : List (List (Batch (List Value)))) (rows ends : List (List Value))
      → rows ≡ gathered (bare (flat locals)) → ends ≡ unmatched_rows by_first left rows [] → Each (Keeps (second_of inputs)) locals lists
      → Holds (first_join left right size) inputs rows ends (gathered (flat lists)) []
  sealed-holds locals lists rows ends made last each =
      let keeps = keeps-flat (second_of inputs) locals lists each in
      let same : rows ≡ gathered (flat lists) = made ∙ keeps-gathered (second_of inputs) (flat locals) (flat lists) keeps in
      let fit : IsTrue (fit_kinds (second_of inputs) (gathered (flat lists))) =
      ap (fit_kinds (second_of inputs)) (sym same ∙ made) ∙ keeps-fit (second_of inputs) (flat locals) keeps.1 in (
        same,
        last ∙ ap (λ xs. unmatched_rows by_first left xs []) same,
        fit,
        ap (fit_kinds (left ++ right)) (last ∙ ap (λ xs. unmatched_rows by_first left xs []) same) ∙ fit-ends (gathered (flat lists)) [] fit,
      )

  pub closed-holds : (locals : List (List BatchValue)) (lists : List (List (Batch (List Value)))) (built before last rows streamed ends : List (List Value))
      → rows ≡ before → streamed ≡ rows_of (bare (flat locals)) → ends ≡ unmatched_rows by_first left rows streamed
      → Holds (first_join left right size) inputs before last built [] → Each (Keeps (first_of inputs)) locals lists
      → Holds (first_join left right size) inputs rows ends built (flat lists)
  closed-holds locals lists built before last rows streamed ends copied all made holds each =
      let keeps = keeps-flat (first_of inputs) locals lists each in
      let same : rows ≡ built = copied ∙ holds.0 in
      let took : streamed ≡ rows_of (flat lists) = all ∙ keeps-rows (first_of inputs) (flat locals) (flat lists) keeps in
      let is : ends ≡ unmatched_rows by_first left built (rows_of (flat lists)) = made ∙ ap₂ (λ xs ys. unmatched_rows by_first left xs ys) same took in
      (same, is, holds.2, ap (fit_kinds (left ++ right)) is ∙ fit-ends built (rows_of (flat lists)) holds.2)

  -- the rows that a streamed batch gives fit
  pub streamed-fit : (rows built before last streamed : List (List Value)) (kinds : List ColType) → rows ≡ joined_rows by_first right before streamed → Holds (first_join left right size) inputs before last built []
      → IsTrue (fit_kinds kinds streamed) → kinds ≡ first_of inputs → IsTrue (fit_kinds (left ++ right) rows)
  streamed-fit rows built before last streamed kinds made holds fit same =
      ap (fit_kinds (left ++ right)) (made ∙ ap (λ xs. joined_rows by_first right xs streamed) holds.0)
      ∙ fit-joined left right built streamed (subst (λ ks. IsTrue (fit_kinds ks streamed)) (same ∙ sym left-is) fit) (subst (λ ks. IsTrue (fit_kinds ks built)) (sym right-is) holds.2)
