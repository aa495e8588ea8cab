-- What a run asks of a plan holds of a chain.
use Rattle.std.proofs.Common.{◌≡◌, ℕ, zero, suc, ◌+◌, ◌-◌, ◌<◌, ◌≤◌, Bool, true, false, IsTrue, List, [], ◌∷◌, length, Result, Ok, Err, IfOk, refl, sym, ap, subst, ◌∙◌, arith}
use Rattle.std.specs.declared.alloc.Global.{Global}
use Rattle.std.specs.declared.sync.Arc.{Arc}
use Rattle.std.specs.Arc.{arc_value}
use Rattle.scalar_value.specs.declared.value.Value.{Value}
use Rattle.row_table.specs.declared.field.Field.{Field}
use Rattle.row_table.specs.declared.table.Mark.{Mark}
use Rattle.row_table.specs.declared.table.Mark.TheVariants.{Kept}
use Rattle.row_table.specs.Tables.{TableValue, fit_rows}
use Rattle.plan_machine.specs.Lists.{at_or}
use Rattle.plan_machine.specs.Meaning.{SameRows, meaning}
use Rattle.plan_nodes.specs.declared.node.Node.{Node}
use Rattle.plan_nodes.specs.declared.node.NodeKind.{NodeKind}
use Rattle.plan_nodes.specs.declared.node.NodeKind.TheVariants.{Source, Filter, Project, Longer, Aggregate, HashJoin, OrderBy, Fetch, Window, Sink}
use Rattle.plan_nodes.specs.Kinds.{is_source}
use Rattle.column_batch.specs.Batches.{kinds_of}
use Rattle.plan_nodes.specs.Operators.{Each}
use Rattle.plan_nodes.specs.Plans.{IsSourceTable, node_at, no_node, IsPace, machine_plan, machine_node_at, is_kept}
use Rattle.plan_store.specs.declared.setting.Setting.{Setting}
use Rattle.plan_store.specs.Told.{plan_of, given_by, pace_of}
use Rattle.plan_store.specs.Beginning.{AreTables, IsSetting, numbers_of}
use Rattle.run_state.specs.declared.result.Finished.{Finished}
use Rattle.run_state.specs.Opening.{IsFinished}
use Rattle.chain_plans.specs.declared.nodes.Step.{Step}
use Rattle.chain_plans.specs.Chains.{is_streaming, IsStep, AreSteps, nodes_behind, chain_nodes, chain_rows}
use Rattle.chain_plans.specs.ChainLaws.{ChainsMean}
use Rattle.chain_plans.proofs.Chains.{length_behind}

no_source_step : (k : NodeKind) → is_streaming k ≡ true → is_source k ≡ false
no_source_step (Source name) e = cc
no_source_step (Filter x) e = refl
no_source_step (Project xs) e = refl
no_source_step (Longer s) e = refl
no_source_step (Aggregate s) e = refl
no_source_step (HashJoin j) e = refl
no_source_step (OrderBy ks) e = refl
no_source_step (Fetch offset count) e = refl
no_source_step (Window s) e = refl
no_source_step Sink e = refl

no_source_behind : (mark : Mark) (k n : ℕ) (schema : List Field) (steps : List Step) → AreSteps schema steps → numbers_of true n (nodes_behind mark k schema steps) ≡ []
no_source_behind mark k n schema [] h = refl
no_source_behind mark k n schema (s ∷ steps) h = rw (no_source_step s.kind h.0.streams) (no_source_behind mark (suc k) (suc n) s.schema steps h.1)

module _ (name : List ℕ) (mark : Mark) (schema : List Field) (steps : List Step) (h : AreSteps schema steps) where
  pub one_source : numbers_of true 1 (chain_nodes name mark schema steps) ≡ 1 ∷ []
  one_source = ap (λ ns. 1 ∷ ns) (no_source_behind mark 1 2 schema steps h)

  pub chain_length : length (chain_nodes name mark schema steps) ≡ 2 + length steps
  chain_length = let a = length_behind mark 1 schema steps in omega arith

  pub one_table : (t : Arc TableValue Global) → (arc_value t).schema ≡ schema → (arc_value t).mark ≡ mark → IsTrue (fit_rows (arc_value t).schema (arc_value t).rows) → AreTables (chain_nodes name mark schema steps) (t ∷ [])
  one_table t columns kept fits =
      subst (λ ns. Each (λ x n. IsSourceTable (node_at (chain_nodes name mark schema steps) n) (arc_value x)) (t ∷ []) ns) (sym one_source)
      ((subst (λ f. IsTrue (fit_rows f (arc_value t).rows)) columns fits, ap kinds_of (sym columns), sym kept), tt)

marks_behind : (mark : Mark) (k : ℕ) (schema : List Field) (steps : List Step) (i : ℕ) → i < length (nodes_behind mark k schema steps) → (at_or no_node i (nodes_behind mark k schema steps)).mark ≡ mark
marks_behind mark k schema [] zero l = refl
marks_behind mark k schema [] (suc i) l = absurd (omega arith)
marks_behind mark k schema (s ∷ steps) zero l = refl
marks_behind mark k schema (s ∷ steps) (suc i) l = marks_behind mark (suc k) s.schema steps i (omega arith)

marks_all : (name : List ℕ) (mark : Mark) (schema : List Field) (steps : List Step) (n : ℕ) → n < length (chain_nodes name mark schema steps) → (at_or no_node n (chain_nodes name mark schema steps)).mark ≡ mark
marks_all name mark schema steps zero l = refl
marks_all name mark schema steps (suc i) l = marks_behind mark 1 schema steps i (omega arith)

last_mark : (name : List ℕ) (mark : Mark) (schema : List Field) (steps : List Step) → (node_at (chain_nodes name mark schema steps) (length (chain_nodes name mark schema steps))).mark ≡ mark
last_mark name mark schema steps = marks_all name mark schema steps (length (nodes_behind mark 1 schema steps)) (omega arith)

sink_keeps : (nodes : List Node) (tables : List (List (List Value))) (batch n : ℕ) → (machine_node_at nodes tables batch n).kept ≡ is_kept (node_at nodes n).mark
unfolding machine_node_at
sink_keeps nodes tables batch n = refl

rows_kept_are : ChainsMean → (name : List ℕ) (schema : List Field) (steps : List Step) → AreSteps schema steps → (t : Arc TableValue Global) (setting : Setting) → IsSetting setting
    → (f : Finished) → IsFinished (given_by (chain_nodes name Kept schema steps) (t ∷ []) setting) f → f.rows ≡ chain_rows steps (arc_value t).rows
rows_kept_are mean name schema steps h t setting within f done =
    let nodes : List Node = chain_nodes name Kept schema steps in
    let on : IsPace (pace_of setting) = record { batch = within.batch.0; workers = within.workers.0; resume = (let r = within.resume in omega arith) } in
    let kept = sink_keeps nodes ((arc_value t).rows ∷ []) setting.batch (length nodes) ∙ ap is_kept (last_mark name Kept schema steps) in
    subst (λ b. SameRows b f.rows (meaning (machine_plan nodes ((arc_value t).rows ∷ []) (pace_of setting)) (length nodes))) kept done.same
    ∙ mean name Kept schema steps (arc_value t).rows (pace_of setting) h on

pub rows_are : ChainsMean → (name : List ℕ) (mark : Mark) (schema : List Field) (steps : List Step) → AreSteps schema steps → (t : Arc TableValue Global) (setting : Setting) → IsSetting setting
    → (nodes : List Node) (sources : List (Arc TableValue Global)) → nodes ≡ chain_nodes name mark schema steps → sources ≡ t ∷ [] → mark ≡ Kept
    → (f : Finished) → IsFinished (given_by nodes sources setting) f → f.rows ≡ chain_rows steps (arc_value t).rows
rows_are mean name mark schema steps h t setting within nodes sources is those kept f done =
    rows_kept_are mean name schema steps h t setting within f
    (subst (λ m. IsFinished (given_by (chain_nodes name m schema steps) (t ∷ []) setting) f) kept
    (subst (λ ns. IsFinished (given_by ns (t ∷ []) setting) f) is
    (subst (λ ts. IsFinished (given_by nodes ts setting) f) those done)))
