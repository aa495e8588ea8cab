use Rattle.std.proofs.Common.{◌∙◌, sym, ap, ap₂, length, take}
use Rattle.stream_ops.specs.Columns.{lengthened}
use Rattle.stream_ops.proofs.Transposed.{projected-more, length-evaluated}
use Rattle.stream_ops.proofs.project.push_columns.Goals as goal

pub loop-e-preserved : goal.loop-e-preserved
loop-e-preserved c =
    c.in_ok-push_column.ensures
    ∙ ap₂ lengthened c.loop-e.invariant c.in_ok-eval_batch.ensures
    ∙ sym (projected-more c.args.list.now c.args.batch.now.rows c.loop-e.e-index c.e-item.result c.loop-e-test.true c.e-item.is)

pub push_column-requires : goal.push_column-requires
push_column-requires c =
    ap length c.in_ok-eval_batch.ensures
    ∙ length-evaluated (take c.loop-e.e-index c.args.list.now) c.e-item.result c.args.batch.now.rows
    ∙ ap length (sym c.loop-e.invariant)
