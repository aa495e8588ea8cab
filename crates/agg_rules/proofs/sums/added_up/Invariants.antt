use Rattle.std.proofs.Common.{◌≡◌, ◌≤◌, ◌*◌, ◌^◌, length, unsigned_abs}
use Rattle.agg_rules.proofs.SumSteps.{there_before, sum_before}
use Rattle.agg_rules.proofs.sums.added_up.Given as goal

abbrev pub invariant-loop-v : goal.invariant-loop-v
invariant-loop-v l = record {
  sum : l.sum ≡ sum_before l.values l.v-index;
  count : l.count ≡ length (there_before l.values l.v-index);
  small : unsigned_abs l.sum ≤ l.count * 2 ^ 63;
  within : l.count ≤ l.v-index;
}
