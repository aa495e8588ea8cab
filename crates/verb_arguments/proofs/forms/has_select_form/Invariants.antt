use Rattle.std.proofs.Common.{◌≡◌, ◌||◌, drop}
use Rattle.std.specs.List.{list_all}
use Rattle.verb_arguments.specs.Forms.{is_selector, is_renaming}
use Rattle.verb_arguments.proofs.forms.has_select_form.Given as goal

abbrev pub invariant-loop-arg : goal.invariant-loop-arg
invariant-loop-arg l = list_all (λ a. is_selector l.schema a || is_renaming a) l.args ≡ list_all (λ a. is_selector l.schema a || is_renaming a) (drop l.arg-index l.args)
