use Rattle.std.proofs.Common.{◌≡◌, ◌++◌, ℕ, List, length, ◌∙◌, ap, ap₂}
use Rattle.std.specs.Prelude.{string_bytes}
use Rattle.std.specs.List.{flat_map}
use Rattle.row_table.specs.Tables.{TableValue}
use Rattle.table_print.specs.declared.column.Column.{Column}
use Rattle.table_print.specs.Aligned.{aligned_text, cell_lines, columns_of, groups_line, line_text, size_line}
use Rattle.table_print.proofs.Columns.{length-columns}
use Rattle.table_print.proofs.aligned.write_aligned.Goals as goal

pub push_table-requires : goal.push_table-requires
push_table-requires c = ap length (c.deref.ensures.value ∙ c.in_ok-columns.ensures) ∙ length-columns 0 c.args.t.now.schema (cell_lines c.args.t.now)

pub returns : goal.returns
unfolding aligned_text
returns c =
    let t = c.args.t.now in
    let rows : c.len.result ≡ length t.rows = c.len.ensures ∙ ap (λ (v : TableValue). length v.rows) c.t.view_is in
    let columns : c.len-2.result ≡ length t.schema = c.len-2.ensures ∙ ap (λ (v : TableValue). length v.schema) c.t.view_is in
    let groups : c.as_slice.result.now ≡ t.groups = c.as_slice.ensures ∙ ap (λ (v : TableValue). v.groups) c.t.view_is in
    let wide : c.deref.result.now ≡ columns_of t = c.deref.ensures.value ∙ c.in_ok-columns.ensures in
    let first : string_bytes c.push_sizes.new.out ≡ size_line (length t.rows) (length t.schema) =
    c.in_ok-push_sizes.ensures ∙ ap (λ (b : List ℕ). b ++ size_line c.len.result c.len-2.result) c.new-out.ensures.bytes ∙ ap₂ size_line rows columns in
    let second : string_bytes c.push_groups.new.out ≡ size_line (length t.rows) (length t.schema) ++ groups_line t.groups =
    c.in_ok-push_groups.ensures ∙ ap₂ (λ (b : List ℕ) (g : List (List ℕ)). b ++ groups_line g) first groups in
    c.of_string.ensures ∙ c.in_ok-push_table.ensures ∙ ap₂ (λ (b : List ℕ) (cs : List Column). b ++ flat_map (line_text cs) (cell_lines t)) second wide
