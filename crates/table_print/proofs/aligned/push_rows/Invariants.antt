use Rattle.std.proofs.Common.{◌≡◌, ◌++◌, map, take}
use Rattle.std.specs.Prelude.{string_bytes}
use Rattle.std.specs.List.{flat_map}
use Rattle.table_print.specs.Cells.{written_row}
use Rattle.table_print.specs.Aligned.{line_text}
use Rattle.table_print.proofs.aligned.push_rows.Given as goal

abbrev pub invariant-loop-row : goal.invariant-loop-row
invariant-loop-row l =
    string_bytes l.out ≡ string_bytes l.fn.out ++ flat_map (line_text l.columns) (map written_row (take l.row-index l.rows))
