-- The rows that a join gives fit its columns.
use Rattle.std.proofs.Common.{◌≡◌, true, cond, List, [], ◌∷◌, ◌++◌, map, filter, refl, ◌∙◌, IsTrue}
use Rattle.scalar_value.specs.declared.value.Value.{Value}
use Rattle.scalar_value.specs.declared.value.ColType.{ColType}
use Rattle.row_table.specs.declared.join.JoinKind.{JoinKind}
use Rattle.row_table.specs.declared.join.JoinKind.TheVariants.{Inner, Left, Right, Full, Semi, Anti}
use Rattle.row_table.specs.Keys.{rows_match}
use Rattle.column_batch.specs.Batches.{fits_kinds, fit_kinds}
use Rattle.column_batch.proofs.Fitting.{fit_kinds-append, fit_kinds-filter}
use Rattle.plan_nodes.specs.declared.options.JoinSpec.{JoinSpec}
use Rattle.plan_nodes.specs.Kinds.{matching, missing_row, joined_row, joined_rows, keeps_left}
use Rattle.plan_nodes.proofs.Parts.{both-true, left-true, right-true}
use Rattle.plan_nodes.proofs.JoinFits.{fits-append, fits-missing}

-- one row before each of these
pub fits-pairs : (ls rs : List ColType) (x : List Value) (ys : List (List Value)) → fits_kinds ls x ≡ true → fit_kinds rs ys ≡ true → fit_kinds (ls ++ rs) (map (λ y. x ++ y) ys) ≡ true
fits-pairs ls rs x [] p q = refl
fits-pairs ls rs x (y ∷ ys) p q =
    both-true (fits_kinds (ls ++ rs) (x ++ y)) (fit_kinds (ls ++ rs) (map (λ y. x ++ y) ys))
    (fits-append ls rs x y p (left-true (fits_kinds rs y) (fit_kinds rs ys) q))
    (fits-pairs ls rs x ys p (right-true (fits_kinds rs y) (fit_kinds rs ys) q))

fits-one : (ks : List ColType) (x : List Value) → fits_kinds ks x ≡ true → fit_kinds ks (x ∷ []) ≡ true
fits-one ks x p = both-true (fits_kinds ks x) true p refl

fits-alone : (ls rs : List ColType) (x : List Value) → fits_kinds ls x ≡ true → fit_kinds (ls ++ rs) ((x ++ missing_row rs) ∷ []) ≡ true
fits-alone ls rs x p = fits-one (ls ++ rs) (x ++ missing_row rs) (fits-append ls rs x (missing_row rs) p (fits-missing rs))

abbrev pub columns_of : JoinKind → List ColType → List ColType → List ColType
columns_of kind ls rs = cond (keeps_left kind) ls (ls ++ rs)

fits-row : (kind : JoinKind) (ls rs : List ColType) (x : List Value) (ys : List (List Value)) → fits_kinds ls x ≡ true → fit_kinds rs ys ≡ true → fit_kinds (columns_of kind ls rs) (joined_row kind rs x ys) ≡ true
fits-row Inner ls rs x ys p q = fits-pairs ls rs x ys p q
fits-row Left ls rs x [] p q = fits-alone ls rs x p
fits-row Left ls rs x (y ∷ ys) p q = fits-pairs ls rs x (y ∷ ys) p q
fits-row Right ls rs x ys p q = fits-pairs ls rs x ys p q
fits-row Full ls rs x [] p q = fits-alone ls rs x p
fits-row Full ls rs x (y ∷ ys) p q = fits-pairs ls rs x (y ∷ ys) p q
fits-row Semi ls rs x [] p q = refl
fits-row Semi ls rs x (y ∷ ys) p q = fits-one ls x p
fits-row Anti ls rs x [] p q = fits-one ls x p
fits-row Anti ls rs x (y ∷ ys) p q = refl

pub fit-joined : (j : JoinSpec) (ls rs : List ColType) (built rows : List (List Value)) → IsTrue (fit_kinds ls rows) → IsTrue (fit_kinds rs built) → IsTrue (fit_kinds (columns_of j.kind ls rs) (joined_rows j rs built rows))
fit-joined j ls rs built [] p q = refl
fit-joined j ls rs built (x ∷ rows) p q =
    let ks = columns_of j.kind ls rs in
    let here = filter (rows_match (matching j) x) built in
    fit_kinds-append ks (joined_row j.kind rs x here) (joined_rows j rs built rows)
    ∙ both-true (fit_kinds ks (joined_row j.kind rs x here)) (fit_kinds ks (joined_rows j rs built rows))
    (fits-row j.kind ls rs x here (left-true (fits_kinds ls x) (fit_kinds ls rows) p) (fit_kinds-filter rs (rows_match (matching j) x) built q))
    (fit-joined j ls rs built rows (right-true (fits_kinds ls x) (fit_kinds ls rows) p) q)
