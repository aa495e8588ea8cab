-- What left rows give, where the values that stand for a right row are made once.
use Rattle.std.specs.Prelude.{List, [], ◌∷◌, ◌++◌, map}
use Rattle.std.specs.List.{filter, flat_map}
use Rattle.scalar_value.specs.declared.value.Value.{Value}
use Rattle.row_table.specs.declared.join.JoinKind.{JoinKind}
use Rattle.row_table.specs.declared.join.JoinKind.TheVariants.{Inner, Left, Right, Full, Semi, Anti}
use Rattle.row_table.specs.Keys.{rows_match}
use Rattle.plan_nodes.specs.declared.options.JoinSpec.{JoinSpec}
use Rattle.plan_nodes.specs.Kinds.{matching}

-- what a left row gives with the right rows that match it, and where there are none with these values
abbrev pub given_row : JoinKind → List Value → List Value → List (List Value) → List (List Value)
given_row Inner missing x ys = map (λ y. x ++ y) ys
given_row Left missing x [] = (x ++ missing) ∷ []
given_row Left missing x (y ∷ ys) = map (λ y. x ++ y) (y ∷ ys)
given_row Right missing x ys = map (λ y. x ++ y) ys
given_row Full missing x [] = (x ++ missing) ∷ []
given_row Full missing x (y ∷ ys) = map (λ y. x ++ y) (y ∷ ys)
given_row Semi missing x [] = []
given_row Semi missing x (y ∷ ys) = x ∷ []
given_row Anti missing x [] = x ∷ []
given_row Anti missing x (y ∷ ys) = []

abbrev pub given_rows : JoinSpec → List Value → List (List Value) → List (List Value) → List (List Value)
given_rows j missing built rows = flat_map (λ x. given_row j.kind missing x (filter (rows_match (matching j) x) built)) rows
