-- What the record of a command tells of the plans that ran.
use Rattle.std.specs.Prelude.{◌≡◌, ℕ, List, [], ◌∷◌}
use Rattle.scalar_value.specs.declared.value.Value.{Value}
use Rattle.row_table.specs.Tables.{TableValue}
use Rattle.plan_machine.specs.Driver.{IsDriven}
use Rattle.plan_nodes.specs.declared.node.Node.{Node}
use Rattle.plan_nodes.specs.declared.node.Plan.{Plan}
use Rattle.plan_nodes.specs.Operators.{Each}
use Rattle.plan_store.specs.declared.setting.Setting.{Setting}
use Rattle.plan_store.specs.Told.{Given, plan_of, pace_of}
use Rattle.run_state.specs.declared.result.Finished.{Finished}
use Rattle.run_state.specs.Opening.{IsFinished}
use Rattle.run_report.specs.declared.record.PlanRun.{PlanRun}
use Rattle.script_session.specs.declared.status.Status.{Status}
use Rattle.script_session.specs.declared.status.Status.TheVariants as status

-- a plan that runs: its nodes, the rows of its sources in the order of the plan, how it runs, and the table that it means
pub record Planned : Type 0 where
  pub nodes : List Node
  pub sources : List (List (List Value))
  pub setting : Setting
  pub table : TableValue

abbrev pub given : Planned → Given
given p = record { nodes = p.nodes; tables = p.sources; pace = pace_of p.setting }

-- The run of a plan on one worker. Its history is a legal one that ended; the rows that the sink has then are those of the
-- table that the plan means; its peaks are those of the history, none above the pause threshold and one batch; and it is the
-- history of the lone driver.
pub record IsRunOf (p : Planned) (run : PlanRun) : Type 0 where
  pub plan : run.plan.nodes ≡ p.nodes
  pub setting : record { batch = run.batch; workers = run.workers; pause = run.pause; resume = run.resume } ≡ p.setting
  pub finished : IsFinished (given p) (record { rows = p.table.rows; history = run.history; peaks = run.peaks })
  pub driven : IsDriven (plan_of (given p)) run.history

-- one run for each plan, in their order
abbrev pub AreRuns : List Planned → List PlanRun → Type 0
AreRuns plans runs = Each IsRunOf plans runs

-- runs of the first of the plans
abbrev pub AreFirstRuns : List Planned → List PlanRun → Type 0
AreFirstRuns plans [] = Unit {0}
AreFirstRuns [] (run ∷ runs) = ⊥
AreFirstRuns (p ∷ plans) (run ∷ runs) = IsRunOf p run × AreFirstRuns plans runs

-- All plans of the answer ran to their end; where there was no memory, a front of them.
abbrev pub IsRecord : Status → List Planned → List PlanRun → Type 0
IsRecord status.Memory plans runs = AreFirstRuns plans runs
IsRecord ended plans runs = AreRuns plans runs

-- a run as the record tells it
abbrev pub run_of : Plan → Setting → Finished → PlanRun
run_of plan setting f = record { plan = plan; batch = setting.batch; workers = setting.workers; pause = setting.pause; resume = setting.resume; history = f.history; peaks = f.peaks }
