-- The canonical order of rows, and a list sorted by any order.
use Rattle.std.specs.Prelude.{cond, List, [], ◌∷◌}
use Rattle.std.specs.declared.cmp.Ordering.{Ordering}
use Rattle.std.specs.Ordering.{is_gt}
use Rattle.std.specs.Cmp.Lexicographic.{slice_cmp}
use Rattle.scalar_value.specs.declared.value.Value.{Value}
use Rattle.scalar_value.specs.Order.{value_cmp}

-- x before the first of the list that it is not greater than
unfoldable pub insert_by : {X : Type 0} → (X → X → Ordering) → X → List X → List X
insert_by order x [] = x ∷ []
insert_by order x (y ∷ ys) = cond (is_gt (order x y)) (y ∷ insert_by order x ys) (x ∷ y ∷ ys)

-- the list sorted by the order, where those that tie keep their places
unfoldable pub sorted_by : {X : Type 0} → (X → X → Ordering) → List X → List X
sorted_by order [] = []
sorted_by order (x ∷ xs) = insert_by order x (sorted_by order xs)

-- by the first column, then by the next, and so on
abbrev pub row_order : List Value → List Value → Ordering
row_order = slice_cmp value_cmp

abbrev pub sorted_rows : List (List Value) → List (List Value)
sorted_rows rows = sorted_by row_order rows
