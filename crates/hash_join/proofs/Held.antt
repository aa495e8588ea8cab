-- What the parts of a hashjoin hold after each of its calls.
use Rattle.std.proofs.Common.{◌≡◌, ℕ, true, false, ◌&&◌, cond, not, List, [], ◌∷◌, ◌++◌, map, take, drop, inl, inr, Option, Some, None, refl, sym, ◌∙◌, ap, ap₂, subst, IsTrue}
use Rattle.std.specs.List.{list_any}
use Rattle.std.proofs.lemmas.List.{take-map, drop-map}
use Rattle.scalar_value.specs.declared.value.Value.{Value}
use Rattle.scalar_value.specs.declared.value.ColType.{ColType}
use Rattle.row_table.specs.Keys.{rows_match}
use Rattle.row_table.specs.declared.join.JoinKind.{JoinKind}
use Rattle.row_table.specs.declared.join.JoinKind.TheVariants.{Inner, Left, Right, Full, Semi, Anti}
use Rattle.plan_machine.specs.Batch.{Batch, rows_of, gathered}
use Rattle.column_batch.specs.Batches.{BatchValue, fit_kinds}
use Rattle.column_batch.proofs.Fitting.{fit_kinds-filter, fit_kinds-take, fit_kinds-drop}
use Rattle.plan_nodes.specs.declared.options.JoinSpec.{JoinSpec}
use Rattle.plan_nodes.specs.Operators.{OpMeaning, Ends, Each, flat, first_of, second_of}
use Rattle.plan_nodes.specs.Kinds.{join_meaning, matching, missing_row, joined_rows, unmatched, unmatched_rows, has_unmatched, keeps_left, same_kinds, keys_fit}
use Rattle.plan_nodes.specs.Examples.{bare, Keeps}
use Rattle.plan_nodes.proofs.Parts.{left-true, right-true, keeps-flat, keeps-rows, keeps-gathered, keeps-fit}
use Rattle.plan_nodes.proofs.JoinFits.{kinds-same, fits-missing}
use Rattle.hash_join.specs.Parts.{HoldsRight}
use Rattle.hash_join.proofs.Fitted.{columns_of, fit-joined, fits-pairs}

-- where nothing was streamed, all right rows are left over
none-matched : (j : JoinSpec) (rows : List (List Value)) → unmatched j rows [] ≡ rows
none-matched j [] = refl
none-matched j (y ∷ rows) = ap (λ ys. y ∷ ys) (none-matched j rows)

-- a join that gives rows at its end keeps the columns of both inputs
ends-with-both : (kind : JoinKind) → has_unmatched kind ≡ true → keeps_left kind ≡ false
ends-with-both Inner e = refl
ends-with-both Left e = refl
ends-with-both Right e = refl
ends-with-both Full e = refl
ends-with-both Semi e = absurd (cc)
ends-with-both Anti e = absurd (cc)

rest-is : (j : JoinSpec) (left : List ColType) (built streamed ends : List (List Value)) → has_unmatched j.kind ≡ true → ends ≡ unmatched j built streamed
    → unmatched_rows j left built streamed ≡ map (λ y. missing_row left ++ y) ends
rest-is j left built streamed ends tails is =
    ap (λ b. cond b (map (λ y. missing_row left ++ y) (unmatched j built streamed)) []) tails
    ∙ ap (λ ys. map (λ y. missing_row left ++ y) ys) (sym is)

module _ (j : JoinSpec) (left right : List ColType) (size : ℕ) where
  abbrev m : OpMeaning
  m = join_meaning j left right size

  pub begins : (inputs : List (List ColType)) → HoldsRight m inputs [] None [] []
  begins inputs = (refl, refl, refl, λ tails. rest-is j left [] [] [] tails refl)

  module _ (inputs : List (List ColType)) (fits : IsTrue (m.fits inputs)) where
    pub left-is : left ≡ first_of inputs
    left-is = kinds-same left (first_of inputs) (left-true (same_kinds left (first_of inputs)) (same_kinds right (second_of inputs) && keys_fit left right j.left_keys j.right_keys) fits)

    pub right-is : right ≡ second_of inputs
    right-is =
        kinds-same right (second_of inputs) (left-true (same_kinds right (second_of inputs)) (keys_fit left right j.left_keys j.right_keys)
        (right-true (same_kinds left (first_of inputs)) (same_kinds right (second_of inputs) && keys_fit left right j.left_keys j.right_keys) fits))

    with-left : (rows ends : List (List Value)) → rows ≡ map (λ y. missing_row left ++ y) ends → rows ≡ map (λ y. missing_row (first_of inputs) ++ y) ends
    with-left rows ends e = e ∙ ap (λ ks. map (λ y. missing_row ks ++ y) ends) left-is

    pub sealed : (locals : List (List BatchValue)) (lists : List (List (Batch (List Value)))) (all : List BatchValue) (rows : List (List Value))
        → all ≡ flat locals → rows ≡ gathered (bare all) → Each (Keeps (second_of inputs)) locals lists
        → HoldsRight m inputs rows None (gathered (flat lists)) []
    sealed locals lists all rows same made each =
        let keeps = keeps-flat (second_of inputs) locals lists each in
        let whole : rows ≡ gathered (bare (flat locals)) = made ∙ ap (λ bs. gathered (bare bs)) same in
        let is : rows ≡ gathered (flat lists) = whole ∙ keeps-gathered (second_of inputs) (flat locals) (flat lists) keeps in
        let fit : IsTrue (fit_kinds (second_of inputs) rows) = ap (fit_kinds (second_of inputs)) whole ∙ keeps-fit (second_of inputs) (flat locals) keeps.1 in (
          is,
          ap (fit_kinds (second_of inputs)) (sym is) ∙ fit,
          fit,
          λ tails. with-left (unmatched_rows j left (gathered (flat lists)) []) rows (rest-is j left (gathered (flat lists)) [] rows tails (is ∙ sym (none-matched j (gathered (flat lists))))),
        )

    pub closed : (locals : List (List BatchValue)) (lists : List (List (Batch (List Value)))) (built before rows streamed ends : List (List Value)) (last : Option (List (List Value))) (all : List BatchValue)
        → rows ≡ before → all ≡ flat locals → streamed ≡ rows_of (bare all) → ends ≡ unmatched j before streamed
        → HoldsRight m inputs before last built [] → Each (Keeps (first_of inputs)) locals lists
        → HoldsRight m inputs rows (Some ends) built (flat lists)
    closed locals lists built before rows streamed ends last all shared same took made holds each =
        let keeps = keeps-flat (first_of inputs) locals lists each in
        let whole : streamed ≡ rows_of (flat lists) = took ∙ ap (λ bs. rows_of (bare bs)) same ∙ keeps-rows (first_of inputs) (flat locals) (flat lists) keeps in
        let is : ends ≡ unmatched j built (rows_of (flat lists)) = made ∙ ap₂ (λ xs ys. unmatched j xs ys) holds.0 whole in (
          shared ∙ holds.0,
          holds.1,
          ap (fit_kinds (second_of inputs)) is ∙ fit_kinds-filter (second_of inputs) (λ y. not (list_any (λ x. rows_match (matching j) x y) (rows_of (flat lists)))) built holds.1,
          λ tails. with-left (unmatched_rows j left built (rows_of (flat lists))) ends (rest-is j left built (rows_of (flat lists)) ends tails is),
        )

    -- the rows that a streamed batch gives fit
    pub streamed-fit : (built before rows : List (List Value)) (last : Option (List (List Value))) (kinds : List ColType)
        → HoldsRight m inputs before last built [] → IsTrue (fit_kinds kinds rows) → kinds ≡ first_of inputs
        → IsTrue (fit_kinds (columns_of j.kind left right) (joined_rows j right before rows))
    streamed-fit built before rows last kinds holds fit same =
        fit-joined j left right before rows
        (subst (λ ks. IsTrue (fit_kinds ks rows)) (same ∙ sym left-is) fit)
        (subst (λ ks. IsTrue (fit_kinds ks before)) (sym right-is) (ap (fit_kinds (second_of inputs)) holds.0 ∙ holds.1))

    -- and so does each part of those that come at the end
    pub part-fits : (rows part : List (List Value)) (n k : ℕ) → IsTrue (fit_kinds (second_of inputs) rows) → part ≡ take n (drop k rows)
        → IsTrue (fit_kinds (left ++ right) (map (λ y. missing_row left ++ y) part))
    part-fits rows part n k fit is =
        let cut : IsTrue (fit_kinds (second_of inputs) part) = ap (fit_kinds (second_of inputs)) is ∙ fit_kinds-take (second_of inputs) n (drop k rows) (fit_kinds-drop (second_of inputs) k rows fit) in
        fits-pairs left right (missing_row left) part (fits-missing left) (subst (λ ks. IsTrue (fit_kinds ks part)) (sym right-is) cut)

    -- a part of the rows that come at the end
    pub part-is : (rows rest part made : List (List Value)) (n k : ℕ) → rest ≡ map (λ y. missing_row (first_of inputs) ++ y) rows → part ≡ take n (drop k rows)
        → made ≡ map (λ y. missing_row left ++ y) part → made ≡ take n (drop k rest)
    part-is rows rest part made n k all is behind =
        let f : List Value → List Value = λ y. missing_row (first_of inputs) ++ y in
        with-left made part behind
        ∙ ap (map f) is
        ∙ sym (take-map f n (drop k rows))
        ∙ ap (take n) (sym (drop-map f k rows))
        ∙ ap (λ xs. take n (drop k xs)) (sym all)

-- an operator that streams ends only where it gives rows there
pub ends-tails : (j : JoinSpec) (left right : List ColType) (size : ℕ) → Ends (join_meaning j left right size) → has_unmatched j.kind ≡ true
ends-tails j left right size (inl e) = e
ends-tails j left right size (inr e) = absurd (cc e.1)

pub both-columns : (kind : JoinKind) (left right : List ColType) → has_unmatched kind ≡ true → left ++ right ≡ columns_of kind left right
both-columns kind left right tails = ap (λ b. cond b left (left ++ right)) (sym (ends-with-both kind tails))
