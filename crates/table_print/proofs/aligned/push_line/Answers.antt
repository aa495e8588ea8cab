use Rattle.std.proofs.Common.{◌++◌}
use Rattle.std.specs.Prelude.{string_bytes}
use Rattle.csv.specs.Records.{fields_of}
use Rattle.table_print.specs.Aligned.{cells_from}
use Rattle.table_print.proofs.Lines.{line-step}
use Rattle.table_print.proofs.aligned.push_line.Goals as goal

pub loop-place-preserved : goal.loop-place-preserved
loop-place-preserved c =
    line-step c.loop-place.place c.args.columns.now (fields_of c.args.line.now) _ c.cell_at.result.now (string_bytes c.loop-place.out) (string_bytes c.push_gap.new.out) (string_bytes c.push_cell.new.out)
    (string_bytes c.args.out.now ++ cells_from 0 c.args.columns.now (fields_of c.args.line.now)) c.loop-place-test.true c.requires c.cell_at.ensures c.loop-place.invariant c.in_ok-push_gap.ensures c.in_ok-push_cell.ensures
