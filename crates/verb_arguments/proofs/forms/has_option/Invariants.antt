use Rattle.std.proofs.Common.{◌≡◌, drop, false}
use Rattle.verb_arguments.specs.Working.{option_form, option_left}
use Rattle.verb_arguments.proofs.forms.has_option.Given as goal

abbrev pub invariant-loop-arg : goal.invariant-loop-arg
invariant-loop-arg l = option_left false l.name (option_form l.form) l.args ≡ option_left l.had l.name (option_form l.form) (drop l.arg-index l.args)
