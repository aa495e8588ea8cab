-- When two values of keys match, where a row may not have the column.
use Rattle.std.specs.Prelude.{Bool, ◌&&◌, ◌||◌, not, Option, Some, None}
use Rattle.scalar_value.specs.declared.value.Value.{Value}
use Rattle.scalar_value.specs.Order.{value_same}
use Rattle.row_table.specs.Keys.{is_missing}

-- they are equal, and not missing unless missing values match; a value that isn't there counts as missing
abbrev pub found_match : Bool → Option Value → Option Value → Bool
found_match na_match None None = na_match
found_match na_match None (Some w) = na_match && is_missing w
found_match na_match (Some v) None = na_match && is_missing v
found_match na_match (Some v) (Some w) = value_same v w && (na_match || not (is_missing v))
