-- The rows of a full join fit the columns of both inputs.
use Rattle.std.proofs.Common.{◌≡◌, true, not, List, [], ◌∷◌, ◌++◌, map, refl, ◌∙◌, IsTrue}
use Rattle.std.specs.List.{filter, list_any}
use Rattle.scalar_value.specs.declared.value.Value.{Value}
use Rattle.scalar_value.specs.declared.value.ColType.{ColType}
use Rattle.scalar_value.specs.declared.value.ColType.TheVariants as type
use Rattle.scalar_value.specs.Order.{is_of_type}
use Rattle.row_table.specs.declared.join.JoinKind.TheVariants.{Full}
use Rattle.row_table.specs.Keys.{rows_match}
use Rattle.column_batch.specs.Batches.{fits_kinds, fit_kinds}
use Rattle.column_batch.proofs.Fitting.{fit_kinds-append, fit_kinds-filter}
use Rattle.plan_nodes.specs.Kinds.{matching, missing_row, joined_row, joined_rows, unmatched, unmatched_rows, same_kind, same_kinds}
use Rattle.plan_nodes.specs.Examples.{by_first}
use Rattle.plan_nodes.proofs.Parts.{both-true, left-true, right-true}

pub fits-append : (ls rs : List ColType) (x y : List Value) → fits_kinds ls x ≡ true → fits_kinds rs y ≡ true → fits_kinds (ls ++ rs) (x ++ y) ≡ true
fits-append [] rs [] y p q = q
fits-append [] rs (v ∷ x) y p q = absurd (cc)
fits-append (l ∷ ls) rs [] y p q = absurd (cc)
fits-append (l ∷ ls) rs (v ∷ x) y p q =
    both-true (is_of_type l v) (fits_kinds (ls ++ rs) (x ++ y)) (left-true (is_of_type l v) (fits_kinds ls x) p)
    (fits-append ls rs x y (right-true (is_of_type l v) (fits_kinds ls x) p) q)

pub fits-missing : (kinds : List ColType) → fits_kinds kinds (missing_row kinds) ≡ true
fits-missing [] = refl
fits-missing (k ∷ kinds) = fits-missing kinds

-- a left row before each of these right rows
fits-pairs : (ls rs : List ColType) (x : List Value) (ys : List (List Value)) → fits_kinds ls x ≡ true → fit_kinds rs ys ≡ true → fit_kinds (ls ++ rs) (map (λ y. x ++ y) ys) ≡ true
fits-pairs ls rs x [] p q = refl
fits-pairs ls rs x (y ∷ ys) p q =
    both-true (fits_kinds (ls ++ rs) (x ++ y)) (fit_kinds (ls ++ rs) (map (λ y. x ++ y) ys))
    (fits-append ls rs x y p (left-true (fits_kinds rs y) (fit_kinds rs ys) q))
    (fits-pairs ls rs x ys p (right-true (fits_kinds rs y) (fit_kinds rs ys) q))

fits-row : (ls rs : List ColType) (x : List Value) (ys : List (List Value)) → fits_kinds ls x ≡ true → fit_kinds rs ys ≡ true → fit_kinds (ls ++ rs) (joined_row Full rs x ys) ≡ true
fits-row ls rs x [] p q = both-true (fits_kinds (ls ++ rs) (x ++ missing_row rs)) true (fits-append ls rs x (missing_row rs) p (fits-missing rs)) refl
fits-row ls rs x (y ∷ ys) p q = fits-pairs ls rs x (y ∷ ys) p q

pub fit-joined : (ls rs : List ColType) (built rows : List (List Value)) → IsTrue (fit_kinds ls rows) → IsTrue (fit_kinds rs built) → IsTrue (fit_kinds (ls ++ rs) (joined_rows by_first rs built rows))
fit-joined ls rs built [] p q = refl
fit-joined ls rs built (x ∷ rows) p q =
    let here = filter (rows_match (matching by_first) x) built in
    fit_kinds-append (ls ++ rs) (joined_row Full rs x here) (joined_rows by_first rs built rows)
    ∙ both-true (fit_kinds (ls ++ rs) (joined_row Full rs x here)) (fit_kinds (ls ++ rs) (joined_rows by_first rs built rows))
    (fits-row ls rs x here (left-true (fits_kinds ls x) (fit_kinds ls rows) p) (fit_kinds-filter rs (rows_match (matching by_first) x) built q))
    (fit-joined ls rs built rows (right-true (fits_kinds ls x) (fit_kinds ls rows) p) q)

pub fit-unmatched : (ls rs : List ColType) (built streamed : List (List Value)) → IsTrue (fit_kinds rs built) → IsTrue (fit_kinds (ls ++ rs) (unmatched_rows by_first ls built streamed))
fit-unmatched ls rs built streamed q =
    fits-pairs ls rs (missing_row ls) (unmatched by_first built streamed) (fits-missing ls)
    (fit_kinds-filter rs (λ y. not (list_any (λ x. rows_match (matching by_first) x y) streamed)) built q)

kind-same : (s t : ColType) → same_kind s t ≡ true → s ≡ t
kind-same type.Int type.Int e = refl
kind-same type.Int type.Dec e = absurd (cc)
kind-same type.Int type.Chr e = absurd (cc)
kind-same type.Int type.Date e = absurd (cc)
kind-same type.Int type.Lgl e = absurd (cc)
kind-same type.Dec type.Int e = absurd (cc)
kind-same type.Dec type.Dec e = refl
kind-same type.Dec type.Chr e = absurd (cc)
kind-same type.Dec type.Date e = absurd (cc)
kind-same type.Dec type.Lgl e = absurd (cc)
kind-same type.Chr type.Int e = absurd (cc)
kind-same type.Chr type.Dec e = absurd (cc)
kind-same type.Chr type.Chr e = refl
kind-same type.Chr type.Date e = absurd (cc)
kind-same type.Chr type.Lgl e = absurd (cc)
kind-same type.Date type.Int e = absurd (cc)
kind-same type.Date type.Dec e = absurd (cc)
kind-same type.Date type.Chr e = absurd (cc)
kind-same type.Date type.Date e = refl
kind-same type.Date type.Lgl e = absurd (cc)
kind-same type.Lgl type.Int e = absurd (cc)
kind-same type.Lgl type.Dec e = absurd (cc)
kind-same type.Lgl type.Chr e = absurd (cc)
kind-same type.Lgl type.Date e = absurd (cc)
kind-same type.Lgl type.Lgl e = refl

pub kinds-same : (ss ts : List ColType) → IsTrue (same_kinds ss ts) → ss ≡ ts
kinds-same [] [] e = refl
kinds-same [] (t ∷ ts) e = absurd (cc)
kinds-same (s ∷ ss) [] e = absurd (cc)
kinds-same (s ∷ ss) (t ∷ ts) e =
    let a = kind-same s t (left-true (same_kind s t) (same_kinds ss ts) e) in
    let b = kinds-same ss ts (right-true (same_kind s t) (same_kinds ss ts) e) in
    cc
