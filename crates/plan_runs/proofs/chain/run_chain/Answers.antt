use Rattle.std.proofs.Common.{◌≡◌, ◌≤◌, false, IsTrue, [], ◌∷◌, ◌++◌, length, refl, sym, ap, subst, ◌∙◌, arith}
use Rattle.std.specs.Arc.{arc_value}
use Rattle.row_table.specs.Tables.{TableValue, fit_rows}
use Rattle.plan_nodes.specs.Plans.{IsPlan, node_at}
use Rattle.plan_store.specs.Beginning.{AreTables}
use Rattle.chain_plans.specs.Chains.{AreSteps, chain_nodes}
use Rattle.plan_runs.proofs.Chained.{chain_length, one_table, rows_are}
use Rattle.plan_runs.proofs.chain.run_chain.Goals as goal

pub run_plan-requires-clause-planned : goal.run_plan-requires-clause-planned
run_plan-requires-clause-planned g c κs within =
    let columns = sym (c.in_ok-schema.ensures.head.0 ∙ ap (λ (t : TableValue). t.schema) c.deref.ensures) in
    subst (λ ns. IsPlan ns) (sym c.in_ok-plan.ensures) (c.chains_are_plans.ensures c.args.name c.in_ok-schema.mark c.in_ok-schema.schema c.args.steps (subst (λ f. AreSteps f c.args.steps) columns c.requires.steps))

pub run_plan-requires-clause-nodes : goal.run_plan-requires-clause-nodes
run_plan-requires-clause-nodes g c κs within =
    let columns = sym (c.in_ok-schema.ensures.head.0 ∙ ap (λ (t : TableValue). t.schema) c.deref.ensures) in
    let few = c.requires.few in
    let long = ap length c.in_ok-plan.ensures ∙ chain_length c.args.name c.in_ok-schema.mark c.in_ok-schema.schema c.args.steps (subst (λ f. AreSteps f c.args.steps) columns c.requires.steps) in
    omega arith

pub run_plan-requires-clause-tables : goal.run_plan-requires-clause-tables
run_plan-requires-clause-tables g c κs within =
    let columns = sym (c.in_ok-schema.ensures.head.0 ∙ ap (λ (t : TableValue). t.schema) c.deref.ensures) in
    let kept = sym (c.in_ok-schema.ensures.head.1 ∙ ap (λ (t : TableValue). t.mark) c.deref.ensures) in
    let fits = subst (λ (t : TableValue). IsTrue (fit_rows t.schema t.rows)) c.deref.ensures c.in_ok-schema.ensures.fits in
    let sources : c.push.new.self ≡ c.args.table ∷ [] = c.in_ok-push.ensures.appended ∙ ap (λ ts. ts ++ c.args.table ∷ []) c.new-sources.ensures in
    subst (λ ns. AreTables ns c.push.new.self) (sym c.in_ok-plan.ensures)
    (subst (λ ts. AreTables (chain_nodes c.args.name c.in_ok-schema.mark c.in_ok-schema.schema c.args.steps) ts) (sym sources)
    (one_table c.args.name c.in_ok-schema.mark c.in_ok-schema.schema c.args.steps (subst (λ f. AreSteps f c.args.steps) columns c.requires.steps) c.args.table columns kept fits))

pub returns-clause-rows : goal.returns-clause-rows
returns-clause-rows g c order =
    let columns = sym (c.in_ok-schema.ensures.head.0 ∙ ap (λ (t : TableValue). t.schema) c.deref.ensures) in
    let kept = c.in_ok-schema.ensures.head.1 ∙ (ap (λ (t : TableValue). t.mark) c.deref.ensures ∙ order) in
    let sources : c.push.new.self ≡ c.args.table ∷ [] = c.in_ok-push.ensures.appended ∙ ap (λ ts. ts ++ c.args.table ∷ []) c.new-sources.ensures in
    rows_are c.chains_mean.ensures c.args.name c.in_ok-schema.mark c.in_ok-schema.schema c.args.steps (subst (λ f. AreSteps f c.args.steps) columns c.requires.steps) c.args.table c.args.setting c.requires.setting
    c.in_ok-plan.plan.nodes c.push.new.self c.in_ok-plan.ensures sources kept c.in_ok-finished.finished c.in_ok-finished.ensures.finished
