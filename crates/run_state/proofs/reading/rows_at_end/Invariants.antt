use Rattle.std.proofs.Common.{◌≡◌, ◌≤◌, List, IsTrue, take, ◌*◌}
use Rattle.scalar_value.specs.declared.value.Value.{Value}
use Rattle.scalar_value.specs.declared.value.ColType.{ColType}
use Rattle.plan_machine.specs.Batch.{Batch as Item}
use Rattle.plan_nodes.specs.Operators.{end_rows, end_count, size_of}
use Rattle.run_state.proofs.reading.rows_at_end.Given as goal

abbrev pub invariant-loop-k : goal.invariant-loop-k
invariant-loop-k g l =
    (inputs : List (List ColType)) (built : List (List Value)) (streamed : List (Item (List Value)))
    → IsTrue ((g.O.Operator.meaning l.fn.op).fits inputs)
    → g.O.Operator.shared_is (g.O.Operator.meaning l.fn.op) inputs l.fn.shared built streamed
    → (l.k ≤ end_count (g.O.Operator.meaning l.fn.op) built streamed)
    × (l.rows.items ≡ take (l.k * size_of (g.O.Operator.meaning l.fn.op)) (end_rows (g.O.Operator.meaning l.fn.op) built streamed))
