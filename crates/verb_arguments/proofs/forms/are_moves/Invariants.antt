use Rattle.std.proofs.Common.{◌≡◌, ◌&&◌, ◌||◌, drop}
use Rattle.std.specs.List.{list_all}
use Rattle.verb_arguments.specs.Arguments.{value_of, is_column}
use Rattle.verb_arguments.specs.Forms.{is_anchor, is_selector}
use Rattle.verb_arguments.proofs.forms.are_moves.Given as goal

abbrev pub invariant-loop-arg : goal.invariant-loop-arg
invariant-loop-arg l = list_all (λ a. (is_anchor a && is_column (value_of a)) || is_selector l.schema a) l.args ≡ list_all (λ a. (is_anchor a && is_column (value_of a)) || is_selector l.schema a) (drop l.arg-index l.args)
