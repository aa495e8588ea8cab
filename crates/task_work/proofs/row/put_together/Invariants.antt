use Rattle.std.proofs.Common.{◌≡◌, ◌++◌}
use Rattle.std.specs.Arc.{arc_value}
use Rattle.plan_nodes.specs.Operators.{Each}
use Rattle.task_work.specs.Rows.{IsNewOf}
use Rattle.task_work.proofs.row.put_together.Given as goal

abbrev pub invariant-loop-old : goal.invariant-loop-old
invariant-loop-old g l = record {
  all : l.fn.shares.items ≡ l.yielded ++ l.old-iterator.rest.items;
  each : Each (IsNewOf g.O.Operator.meaning g.O.Operator.local_is (arc_value l.made)) l.yielded l.row.items;
}
