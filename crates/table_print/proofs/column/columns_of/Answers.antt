use Rattle.std.proofs.Common.{◌≡◌, ◌++◌, ℕ, List, length, map, take, drop, ◌∙◌, ap, subst, arith, IsTrue}
use Rattle.std.proofs.Math.Seq.{take-append_seam}
use Rattle.row_table.specs.Tables.{TableValue, fit_rows}
use Rattle.table_print.specs.declared.column.Column.{Column}
use Rattle.table_print.specs.Aligned.{cell_lines}
use Rattle.table_print.specs.Widths.{narrow, widened_by}
use Rattle.table_print.proofs.Columns.{columns-law}
use Rattle.table_print.proofs.column.columns_of.Goals as goal

pub returns : goal.returns
returns c =
    let t = c.args.t.now in
    let made = c.widen_to_table.new.columns in
    let rest = drop (length made) c.in_ok-columns.columns.items in
    let fits : c.in_ok-columns.columns.len ≡ length made = let a = c.widen_to_table.auto.columns in let b = c.deref_mut.ensures.len in omega arith in
    let first = c.deref_mut.ensures.value ∙ c.in_ok-columns.ensures ∙ ap (map narrow) (c.as_slice.ensures ∙ ap (λ (v : TableValue). v.schema) c.t.view_is) in
    let filled = subst (λ (v : TableValue). IsTrue (fit_rows v.schema v.rows)) c.t.view_is c.t.invariant.filled in
    ap (λ (n : ℕ). take n (made ++ rest)) fits ∙ take-append_seam made rest ∙ c.in_ok-widen_to_table.ensures
    ∙ ap (λ (cs : List Column). widened_by cs (cell_lines t)) first ∙ columns-law t filled
