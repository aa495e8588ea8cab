use Rattle.std.proofs.Common.{rules, ◌≡◌, drop, length, true, ap, sym, ◌∙◌}
use Rattle.plan_store.specs.Told.{rows_of_tables}
use Rattle.plan_store.specs.Openings.{next_table}
use Rattle.plan_store.proofs.Tables.{next_there, next_past}
use Rattle.plan_store.proofs.stages.row_count.Goals as goal

pub returns-in-Some : goal.returns-in-Some
returns-in-Some c =
    let source : c.args.is_source ≡ true = search rules in
    let got = next_there c.args.taken c.args.sources.now c.in-Some.table.now (sym c.in-Some.ensures.value) in
    let here = ap (λ t. t.rows) (c.behind-table.view_is ∙ c.deref.ensures) in
    c.len.ensures ∙ (ap (λ rs. length rs) (here ∙ sym got) ∙ ap (λ b. length (next_table b (drop c.args.taken (rows_of_tables c.args.sources.now)))) (sym source))

pub returns-in-None : goal.returns-in-None
returns-in-None c =
    let source : c.args.is_source ≡ true = search rules in
    let got = next_past c.args.taken c.args.sources.now (sym c.in-None.ensures.value) in
    ap (λ rs. length rs) (sym got) ∙ ap (λ b. length (next_table b (drop c.args.taken (rows_of_tables c.args.sources.now)))) (sym source)
