use Rattle.std.proofs.Common.{◌≡◌, drop, false}
use Rattle.verb_arguments.specs.Working.{anchors_left}
use Rattle.verb_arguments.proofs.forms.has_few_anchors.Given as goal

abbrev pub invariant-loop-arg : goal.invariant-loop-arg
invariant-loop-arg l = anchors_left false l.args ≡ anchors_left l.had (drop l.arg-index l.args)
