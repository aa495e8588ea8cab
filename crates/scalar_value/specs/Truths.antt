-- Which values are missing, TRUE and FALSE.
use Rattle.std.specs.Prelude.{Bool, true, false, not}
use Rattle.scalar_value.specs.declared.value.Value.{Value}
use Rattle.scalar_value.specs.declared.value.Value.TheVariants.{Missing, Int, Dec, Chr, Day, Lgl}

abbrev pub is_missing : Value → Bool
is_missing (Int z) = false
is_missing (Dec m) = false
is_missing (Chr t) = false
is_missing (Day d) = false
is_missing (Lgl b) = false
is_missing Missing = true

abbrev pub is_there : Value → Bool
is_there v = not (is_missing v)

abbrev pub is_true : Value → Bool
is_true (Int z) = false
is_true (Dec m) = false
is_true (Chr t) = false
is_true (Day d) = false
is_true (Lgl b) = b
is_true Missing = false

abbrev pub is_false : Value → Bool
is_false (Int z) = false
is_false (Dec m) = false
is_false (Chr t) = false
is_false (Day d) = false
is_false (Lgl true) = false
is_false (Lgl false) = true
is_false Missing = false
