-- The run of a stage's chain is the run of the plan of what the script means.
use Rattle.std.proofs.Common.{◌≡◌, ◌≤◌, ◌+◌, ℕ, List, [], ◌∷◌, length, Option, Some, None, refl, sym, ap, ap₂, subst, ◌∙◌, arith, map, Result, Ok, Err}
use Rattle.std.specs.Prelude.{slice_get, option_map, if◌then◌else◌}
use Rattle.std.specs.declared.alloc.Global.{Global}
use Rattle.std.specs.declared.sync.Arc.{Arc}
use Rattle.std.specs.Arc.{arc_value}
use Rattle.scalar_value.specs.declared.value.Value.{Value}
use Rattle.row_table.specs.declared.field.Field.{Field}
use Rattle.row_table.specs.declared.table.Mark.{Mark}
use Rattle.row_table.specs.Tables.{TableValue, IsTable}
use Rattle.plan_machine.specs.Driver.{IsDriven}
use Rattle.plan_machine.specs.Meaning.{SameRows, meaning}
use Rattle.plan_nodes.specs.declared.node.Node.{Node}
use Rattle.plan_nodes.specs.declared.node.Plan.{Plan}
use Rattle.plan_store.specs.declared.setting.Setting.{Setting}
use Rattle.plan_store.specs.Told.{Given, plan_of, given_by}
use Rattle.run_state.specs.declared.result.Finished.{Finished}
use Rattle.run_state.specs.Opening.{IsFinished}
use Rattle.chain_plans.specs.declared.nodes.Step.{Step}
use Rattle.chain_plans.specs.Chains.{AreSteps, chain_nodes, chain_rows}
use Rattle.verb_forms.specs.Shapes.{shape_of}
use Rattle.verb_meaning.specs.Meaning.{table_with}
use Rattle.script_evaluation.specs.declared.stage.Stage.{Stage}
use Rattle.script_evaluation.specs.Evaluation.{Named, Evaluated}
use Rattle.script_evaluation.specs.EvaluationLaws.{IsEvaluated, IsStageOf}
use Rattle.script_evaluation.specs.declared.fault.EvaluationFault.{EvaluationFault}
use Rattle.script_evaluation.specs.Evaluation.{evaluated}
use Rattle.syntax_tree.specs.declared.tree.Script.{Script}
use Rattle.command_words.specs.declared.words.Words.{Words}
use Rattle.run_report.specs.declared.record.PlanRun.{PlanRun}
use Rattle.run_report.specs.PlanTexts.{plans_text}
use Rattle.run_report.specs.Reports.{report_text}
use Rattle.script_session.specs.declared.stage.Ran.{Ran}
use Rattle.script_session.specs.declared.status.Answered.{Answered}
use Rattle.script_session.specs.ReadScript.{fault_at, on_fault, evaluation_kind, script_meaning}
use Rattle.script_session.specs.Answer.{◌>>=◌, planned_at, lone, plan_over, or_refused, bad_script, table_text}
use Rattle.script_session.specs.RunRecord.{Planned, given, run_of, IsRunOf, AreRuns}
use Rattle.script_session.specs.Outcome.{planned_run, IsRan, IsPrintedOf, IsAnswered}

with_rows : (g : Given) (f : Finished) (rows : List (List Value)) → f.rows ≡ rows → IsFinished g f → IsFinished g (record { rows = rows; history = f.history; peaks = f.peaks })
with_rows g f rows e fin =
    record {
      legal = fin.legal;
      ended = fin.ended;
      result = sym e ∙ fin.result;
      same = subst (λ rs. SameRows ((plan_of g).node (plan_of g).sink).kept rs (meaning (plan_of g) (plan_of g).sink)) e fin.same;
      within = fin.within;
      most = fin.most;
    }

module _ (setting : Setting) (stage : Stage) (source : TableValue) where
  pub run_stands : (held : Arc TableValue Global) (plan : Plan) (f : Finished) → arc_value held ≡ source → stage.tree.mark ≡ source.mark → stage.tree.schema ≡ source.schema
      → plan.nodes ≡ chain_nodes stage.tree.name (arc_value held).mark (arc_value held).schema stage.tree.steps
      → IsFinished (given_by plan.nodes (held ∷ []) setting) f → IsDriven (plan_of (given_by plan.nodes (held ∷ []) setting)) f.history
      → f.rows ≡ chain_rows stage.tree.steps (arc_value held).rows → IsRunOf (planned_run setting stage source) (run_of plan setting f)
  run_stands held plan f at marked same is fin drive rows =
      let nodes : plan.nodes ≡ (planned_run setting stage source).nodes =
      is ∙ ap (λ (t : TableValue). chain_nodes stage.tree.name t.mark t.schema stage.tree.steps) at
      ∙ ap₂ (λ (m : Mark) (s : List Field). chain_nodes stage.tree.name m s stage.tree.steps) (sym marked) (sym same) in
      let over : given_by plan.nodes (held ∷ []) setting ≡ given (planned_run setting stage source) =
      ap₂ (λ (ns : List Node) (t : TableValue). record { nodes = ns; tables = t.rows ∷ []; pace = (given (planned_run setting stage source)).pace }) nodes at in
      record {
        plan = nodes;
        setting = refl;
        finished =
            with_rows (given (planned_run setting stage source)) f (planned_run setting stage source).table.rows (rows ∙ ap (λ (t : TableValue). chain_rows stage.tree.steps t.rows) at)
            (subst (λ g. IsFinished g f) over fin);
        driven = subst (λ g. IsDriven (plan_of g) f.history) over drive;
      }

-- ---- what a script means, by its stage

abbrev some_value : TableValue → Option TableValue → TableValue
some_value d None = d
some_value d (Some x) = x

module _ (tables : List Named) (e : Evaluated) (stage : Stage) (st : IsStageOf tables e stage) where
  -- the table that was taken is the one that the tree begins with
  pub taken : (source : TableValue) → Some source ≡ option_map (λ (t : Named). t.1) (slice_get tables stage.source) → source ≡ e.source
  taken source h = ap (some_value source) (h ∙ ap (λ o. option_map (λ (t : Named). t.1) o) st.source)

  pub stage_table : (rows : List (List Value)) → rows ≡ e.table.rows → table_with stage.shape rows ≡ e.table
  stage_table rows r = ap₂ table_with st.shape r

  pub stage_rows : IsEvaluated tables e → chain_rows stage.tree.steps e.source.rows ≡ e.table.rows
  stage_rows v = ap (λ t. chain_rows t.steps e.source.rows) st.tree ∙ v.means.rows

  pub same_plan : (setting : Setting) → IsEvaluated tables e → planned_run setting stage e.source ≡ planned_at setting e
  same_plan setting v =
      ap₂ (λ tree table. record { nodes = chain_nodes tree.name tree.mark tree.schema tree.steps; sources = e.source.rows ∷ []; setting = setting; table = table }) st.tree
      (stage_table (chain_rows stage.tree.steps e.source.rows) (stage_rows v))

  pub head : IsEvaluated tables e → (source : TableValue) → source ≡ e.source → (stage.tree.mark ≡ source.mark) × (stage.tree.schema ≡ source.schema)
  head v source is = (
    ap (λ t. t.mark) st.tree ∙ v.head.0 ∙ ap (λ (t : TableValue). t.mark) (sym is),
    ap (λ t. t.schema) st.tree ∙ v.head.1 ∙ ap (λ (t : TableValue). t.schema) (sym is),
  )

  pub ran_as_planned : (setting : Setting) (source : TableValue) (ran : Ran) → IsEvaluated tables e → source ≡ e.source → IsRan (planned_run setting stage source) ran → IsRan (planned_at setting e) ran
  ran_as_planned setting source ran v is r = subst (λ p. IsRan p ran) (ap (planned_run setting stage) is ∙ same_plan setting v) r

  pub few_steps : IsEvaluated tables e → length stage.tree.steps ≤ 254
  few_steps v = rw st.tree (omega (arith, v.size))

  pub steps_fit : IsEvaluated tables e → AreSteps e.source.schema stage.tree.steps
  steps_fit v = subst (λ t. AreSteps e.source.schema t.steps) (sym st.tree) v.means.steps

  pub is_table : IsEvaluated tables e → IsTable (table_with stage.shape (chain_rows stage.tree.steps e.source.rows))
  is_table v = subst IsTable (sym (stage_table (chain_rows stage.tree.steps e.source.rows) (stage_rows v))) v.table

-- ---- the steps of the answer

pub meaning_given : (bytes : List ℕ) (script : Script) (tables : List Named) (e : Evaluated) → evaluated script tables ≡ Ok e → script_meaning bytes script tables ≡ Ok e
unfolding script_meaning
meaning_given bytes script tables e h = ap (λ r. on_fault (λ (f : EvaluationFault). fault_at bytes (evaluation_kind f.kind) f.at) r) h

pub plan_given : (words : Words) (script : List ℕ × Script) (tables : List Named) (setting : Setting) (e : Evaluated) → setting ≡ lone words.setting
    → script_meaning script.0 script.1 tables ≡ Ok e → plan_over words script tables ≡ Ok (planned_at setting e)
unfolding plan_over
plan_given words script tables setting e s h =
    ap (λ r. or_refused (bad_script words.script) r >>= (λ x. Ok (planned_at (lone words.setting) x))) h ∙ ap (λ l. Ok (planned_at l e)) (sym s)

pub answered_given : (words : Words) (p : Planned) (ran : Ran) (a : Answered) → IsRan p ran → IsPrintedOf words ran a → IsAnswered words p a
answered_given words p ran a is printed =
    let nodes : map (λ (run : PlanRun). run.plan.nodes) a.runs ≡ p.nodes ∷ [] = ap (map (λ (run : PlanRun). run.plan.nodes)) printed.runs ∙ ap (λ ns. ns ∷ []) is.run.plan in
    record {
      text =
          printed.text
          ∙ ap₂ (λ ns t. if words.explain then plans_text ns else (if words.report then report_text a.runs else table_text words t)) nodes is.table;
      runs = subst (λ rs. AreRuns (p ∷ []) rs) (sym printed.runs) (is.run, tt);
    }
