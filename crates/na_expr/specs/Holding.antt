-- The value that stands in a row or an expression, or that was made; no clause of a public function cites it.
use Rattle.scalar_value.specs.declared.value.Value.{Value}
use Rattle.na_expr.specs.declared.held.Held.{Held}
use Rattle.na_expr.specs.declared.held.Held.TheVariants.{There, Made}

abbrev pub held_value : Held → Value
held_value (There v) = v.now
held_value (Made v) = v
