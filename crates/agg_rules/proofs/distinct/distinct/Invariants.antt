use Rattle.std.proofs.Common.{◌≡◌, take, Bor}
use Rattle.std.specs.HashSet.{contains}
use Rattle.std.specs.List.{list_any}
use Rattle.scalar_value.specs.declared.value.Value.{Value}
use Rattle.scalar_value.specs.Order.{value_same}
use Rattle.agg_rules.specs.Aggregates.{looked_at}
use Rattle.agg_rules.proofs.DifferentSteps.{same_key}
use Rattle.agg_rules.proofs.distinct.distinct.Given as goal

abbrev pub invariant-loop-v : goal.invariant-loop-v
invariant-loop-v l =
    (q : Bor Value) → contains same_key l.seen q ≡ list_any (value_same q.now) (looked_at l.na_rm (take l.v-index l.values))
