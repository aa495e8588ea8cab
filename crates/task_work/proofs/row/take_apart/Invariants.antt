use Rattle.std.proofs.Common.{◌≡◌, ◌++◌}
use Rattle.task_work.specs.Rows.{AreParts, shares_of, locals_of}
use Rattle.task_work.proofs.row.take_apart.Given as goal

abbrev pub invariant-loop-slot : goal.invariant-loop-slot
invariant-loop-slot g l = record {
  are_parts : AreParts l.slot-iterator.rest.items;
  shares_so_far : shares_of l.fn.row.items ≡ l.shares.items ++ shares_of l.slot-iterator.rest.items;
  locals_so_far : locals_of l.fn.row.items ≡ l.locals ++ locals_of l.slot-iterator.rest.items;
}
