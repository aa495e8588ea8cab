-- How many rows a join gives.
use Rattle.std.proofs.Common.{ℕ, ◌+◌, ◌*◌, ◌≤◌, Bool, true, false, cond, List, [], ◌∷◌, ◌++◌, length, map, arith, length-append}
use Rattle.std.specs.List.{filter, flat_map}
use Rattle.std.proofs.lemmas.List.{length-map}
use Rattle.std.proofs.Math.Nat.{mul-le-mul}
use Rattle.scalar_value.specs.declared.value.Value.{Value}
use Rattle.scalar_value.specs.declared.value.ColType.{ColType}
use Rattle.row_table.specs.declared.join.JoinKind.{JoinKind}
use Rattle.row_table.specs.declared.join.JoinKind.TheVariants.{Inner, Left, Right, Full, Semi, Anti}
use Rattle.row_table.specs.Keys.{rows_match}
use Rattle.plan_nodes.specs.declared.options.JoinSpec.{JoinSpec}
use Rattle.plan_nodes.specs.Kinds.{matching, missing_row, joined_row, joined_rows, unmatched, unmatched_rows, has_unmatched}

-- a filter keeps no more than there is
pub fewer-filter : {A : Type 0} (p : A → Bool) (xs : List A) → length (filter p xs) ≤ length xs
fewer-filter p [] = omega arith
fewer-filter p (x ∷ xs) =
    let e = fewer-filter p xs in
    elim (p x) as (λ b. length (cond b (x ∷ filter p xs) (filter p xs)) ≤ length (x ∷ xs)) [ true ↦ omega arith | false ↦ omega arith ]

-- a left row gives a row for each right row that matches it, or one
fewer-row : (kind : JoinKind) (right : List ColType) (x : List Value) (ys : List (List Value)) → length (joined_row kind right x ys) ≤ length ys + 1
fewer-row Inner right x ys = let e = length-map ys (λ y. x ++ y) in omega arith
fewer-row Left right x [] = omega arith
fewer-row Left right x (y ∷ ys) = let e = length-map (y ∷ ys) (λ z. x ++ z) in omega arith
fewer-row Right right x ys = let e = length-map ys (λ y. x ++ y) in omega arith
fewer-row Full right x [] = omega arith
fewer-row Full right x (y ∷ ys) = let e = length-map (y ∷ ys) (λ z. x ++ z) in omega arith
fewer-row Semi right x [] = omega arith
fewer-row Semi right x (y ∷ ys) = omega arith
fewer-row Anti right x [] = omega arith
fewer-row Anti right x (y ∷ ys) = omega arith

pub fewer-flat : {A B : Type 0} (f : A → List B) (n : ℕ) → ((x : A) → length (f x) ≤ n) → (xs : List A) → length (flat_map f xs) ≤ length xs * n
fewer-flat f n small [] = omega arith
fewer-flat f n small (x ∷ xs) =
    let e = fewer-flat f n small xs in let a = length-append (f x) (flat_map f xs) in let h = small x in omega arith

fewer-joined : (j : JoinSpec) (right : List ColType) (built rows : List (List Value)) → length (joined_rows j right built rows) ≤ length rows * (length built + 1)
fewer-joined j right built rows =
    fewer-flat (λ x. joined_row j.kind right x (filter (rows_match (matching j) x) built)) (length built + 1)
    (λ x. let a = fewer-row j.kind right x (filter (rows_match (matching j) x) built) in let b = fewer-filter (rows_match (matching j) x) built in omega arith)
    rows

fewer-unmatched : (j : JoinSpec) (left : List ColType) (built streamed : List (List Value)) → length (cond (has_unmatched j.kind) (unmatched_rows j left built streamed) []) ≤ length built
fewer-unmatched j left built streamed =
    let e = length-map (unmatched j built streamed) (λ y. missing_row left ++ y) in
    let some : length (unmatched j built streamed) ≤ length built = fewer-filter _ built in
    elim (has_unmatched j.kind) as (λ b. length (cond b (cond b (map (λ y. missing_row left ++ y) (unmatched j built streamed)) []) []) ≤ length built) [ true ↦ omega arith | false ↦ omega arith ]

-- what a join gives in all
pub fewer-all : (j : JoinSpec) (left right : List ColType) (x y : List (List Value)) (m n : ℕ) → length x ≤ m → length y ≤ n → length (joined_rows j right y x ++ cond (has_unmatched j.kind) (unmatched_rows j left y x) []) ≤ m * (n + 1) + n
fewer-all j left right x y m n p q =
    let a = length-append (joined_rows j right y x) (cond (has_unmatched j.kind) (unmatched_rows j left y x) []) in
    let b = fewer-joined j right y x in
    let c = fewer-unmatched j left y x in
    let q' : length y + 1 ≤ n + 1 = omega arith in
    let d : length x * (length y + 1) ≤ m * (n + 1) = mul-le-mul p q' in
    omega arith
