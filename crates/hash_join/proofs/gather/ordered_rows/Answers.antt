use Rattle.std.proofs.Common.{◌≡◌, sym, ap}
use Rattle.plan_machine.specs.Batch.{gathered, sort_batches, rows_of}
use Rattle.plan_nodes.specs.Examples.{bare}
use Rattle.hash_join.proofs.gather.ordered_rows.Goals as goal

pub returns : goal.returns
unfolding gathered
returns c =
    let e : rows_of (sort_batches (bare c.args.all.items)) ≡ rows_of (bare c.in_ok-ordered.ordered.items) = ap rows_of (sym c.in_ok-ordered.ensures) in
    rw e c.all_rows.ensures
