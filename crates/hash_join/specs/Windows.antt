-- Rows that are offered one by one to a window over all of them.
use Rattle.std.specs.Prelude.{◌-◌, true, cond, nat_lt, List, [], ◌∷◌, ◌++◌, length}
use Rattle.scalar_value.specs.declared.value.Value.{Value}
use Rattle.hash_join.specs.declared.window.Window.{Window}

-- rows are passed over, then kept while there is room, and of the others it is known that there are some
abbrev pub offered : Window → List Value → Window
offered w row =
    cond w.more w (cond (nat_lt 0 w.skip) (record w { skip = w.skip - 1 }) (cond (nat_lt (length w.rows) w.size) (record w { rows = w.rows ++ row ∷ [] }) (record w { more = true })))

abbrev pub offers : Window → List (List Value) → Window
offers w [] = w
offers w (row ∷ rows) = offers (offered w row) rows
