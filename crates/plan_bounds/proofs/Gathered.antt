-- How many rows a longer gives, and the kinds of nodes that gather their one input.
use Rattle.std.proofs.Common.{◌≡◌, ℕ, suc, ◌+◌, ◌*◌, ◌≤◌, true, false, cond, not, List, [], ◌∷◌, ◌++◌, length, map, drop, refl, arith, length-drop}
use Rattle.std.specs.declared.cmp.Ordering.{Ordering}
use Rattle.std.specs.Ordering.{is_gt}
use Rattle.std.proofs.lemmas.List.{length-map, length-take}
use Rattle.std.proofs.lemmas.List.FromFn.{length-map-range_with_len}
use Rattle.scalar_value.specs.declared.value.Value.{Value}
use Rattle.scalar_value.specs.declared.value.Value.TheVariants.{Chr}
use Rattle.row_table.specs.declared.field.Field.{Field}
use Rattle.row_table.specs.SameTables.{row_same}
use Rattle.row_table.specs.Keys.{key_of, different, keys}
use Rattle.row_table.specs.Sorting.{insert_by, sorted_by, sorted_rows}
use Rattle.plan_nodes.specs.declared.options.LongerSpec.{LongerSpec}
use Rattle.plan_nodes.specs.declared.options.AggSpec.{AggSpec}
use Rattle.plan_nodes.specs.declared.options.SortKey.{SortKey}
use Rattle.plan_nodes.specs.declared.options.WindowSpec.{WindowSpec}
use Rattle.plan_nodes.specs.KindRows.{cell, name_at, longer_rows, group_row, aggregated, key_order, ordered_rows, fetched, windowed}
use Rattle.plan_bounds.proofs.Joined.{fewer-filter, fewer-flat}

-- a longer gives a row for each chosen column of each row
pub fewer-longer : (schema : List Field) (s : LongerSpec) (rows : List (List Value)) → length (longer_rows schema s rows) ≤ length rows * length s.chosen
fewer-longer schema s rows =
    fewer-flat (λ row. map (λ column. key_of s.kept row ++ Chr (name_at schema column) ∷ cell column row ∷ []) s.chosen) (length s.chosen)
    (λ row. let e = length-map s.chosen (λ column. key_of s.kept row ++ Chr (name_at schema column) ∷ cell column row ∷ []) in omega arith)
    rows

-- an order_by gives as many rows as it gathers
length-insert : {X : Type 0} (order : X → X → Ordering) (x : X) (ys : List X) → length (insert_by order x ys) ≡ suc (length ys)
unfolding insert_by
length-insert order x [] = refl
length-insert order x (y ∷ ys) =
    let e = length-insert order x ys in
    elim (is_gt (order x y)) as (λ b. length (cond b (y ∷ insert_by order x ys) (x ∷ y ∷ ys)) ≡ suc (length (y ∷ ys))) [ true ↦ omega arith | false ↦ refl ]

pub length-sorted : {X : Type 0} (order : X → X → Ordering) (xs : List X) → length (sorted_by order xs) ≡ length xs
unfolding sorted_by
length-sorted order [] = refl
length-sorted order (x ∷ xs) = let e = length-insert order x (sorted_by order xs) in let h = length-sorted order xs in omega arith

pub length-ordered : (ks : List SortKey) (rows : List (List Value)) → length (ordered_rows ks rows) ≡ length rows
length-ordered ks rows = length-sorted (key_order ks) rows

-- an aggregate gives a row for each key
fewer-different : (xs : List (List Value)) → length (different xs) ≤ length xs
fewer-different [] = omega arith
fewer-different (x ∷ xs) =
    let a = fewer-filter (λ other. not (row_same x other)) (different xs) in let b = fewer-different xs in omega arith

fewer-keys : (columns : List ℕ) (rows : List (List Value)) → length (keys columns rows) ≤ length rows + 1
fewer-keys [] rows = omega arith
fewer-keys (column ∷ columns) rows =
    let a = fewer-different (map (key_of (column ∷ columns)) rows) in let b = length-map rows (key_of (column ∷ columns)) in omega arith

pub fewer-aggregated : (s : AggSpec) (rows : List (List Value)) → length (aggregated s rows) ≤ length rows + 1
fewer-aggregated s rows =
    let a = length-map (sorted_rows (keys s.keys rows)) (group_row s rows) in
    let b : length (sorted_rows (keys s.keys rows)) ≡ length (keys s.keys rows) = length-sorted _ (keys s.keys rows) in
    let c = fewer-keys s.keys rows in
    omega arith

-- a fetch gives no more rows than it gathers, and a window as many
pub fewer-fetched : (offset count : ℕ) (rows : List (List Value)) → length (fetched offset count rows) ≤ length rows
fewer-fetched offset count rows =
    let a = length-take count (drop offset rows) in let b = length-drop offset rows in omega arith

pub length-windowed : (s : WindowSpec) (rows : List (List Value)) → length (windowed s rows) ≡ length rows
length-windowed s rows = length-map-range_with_len _ 0 (length rows)
