-- A sort by the order of rows leaves the sorted rows, which fit the columns as the rows did.
use Rattle.std.proofs.Common.{rules, ◌≡◌, IsSorted, is_lt, ap, ◌∙◌}
use Rattle.std.proofs.lemmas.List.Sorted.{answers_always, ranks_by}
use Rattle.row_table.specs.Sorting.{row_order, sorted_rows}
use Rattle.row_table.specs.Tables.{TableValue, fit_rows}
use Rattle.row_table.proofs.Rows.{row_order-total, sorted_rows_from_sort, fit_rows-sorted}
use Rattle.row_table.proofs.order.canonical.Goals as goal
use Rattle.row_table.proofs.order.canonical.Goals.{After-drop-t-inside}

rows_are : (c : After-drop-t-inside) → c.of.result ≡ sorted_rows c.t.inside.rows
rows_are c =
    let sorted : IsSorted row_order c.sort_unstable_by.new.self.items =
    c.sort_unstable_by.ensures.sorted (λ x y. is_lt (row_order x y)) (ranks_by row_order-total (λ x. x)) (answers_always _ _ _ (λ f a r g h. search rules)) in
    c.of.ensures ∙ sorted_rows_from_sort c.into_vec-rows.result.items c.sort_unstable_by.new.self.items c.sort_unstable_by.ensures.permutation sorted
    ∙ ap (λ rows. sorted_rows rows) (c.into_vec-rows.ensures ∙ c.replace.ensures.value)

pub invariant_of-t : goal.invariant_of-t
invariant_of-t c = record {
  named = c.t.invariant.named;
  filled = ap (λ rows. fit_rows c.t.inside.schema rows) (rows_are c) ∙ fit_rows-sorted c.t.inside.schema row_order c.t.inside.rows c.t.invariant.filled;
  grouped = c.t.invariant.grouped;
}

pub returns : goal.returns
returns c =
    let given : TableValue = record { schema = c.t.inside.schema; groups = c.t.inside.groups; mark = c.t.inside.mark; rows = c.t.inside.rows } in
    ap (λ rows. record given { rows = rows }) (rows_are c) ∙ ap (λ (t : TableValue). record t { rows = sorted_rows t.rows }) c.t.view_is
