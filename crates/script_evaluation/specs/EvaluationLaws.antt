-- What the evaluation of a script says of its plan.
use Rattle.std.specs.Prelude.{◌≡◌, ◌≤◌, Contains, slice_get, List, Some, Result, Ok, Err}
use Rattle.scalar_value.specs.declared.memory.Or.{Or}
use Rattle.scalar_value.specs.declared.memory.Or.TheVariants.{Fault, Memory}
use Rattle.row_table.specs.Tables.{IsTable}
use Rattle.syntax_tree.specs.declared.tree.Script.{Script}
use Rattle.verb_forms.specs.Shapes.{shape_of}
use Rattle.plan_compile.specs.Trees.{plan_size}
use Rattle.plan_compile.specs.CompileLaws.{IsTreeOf}
use Rattle.script_evaluation.specs.declared.fault.EvaluationFault.{EvaluationFault}
use Rattle.script_evaluation.specs.declared.stage.Stage.{Stage}
use Rattle.script_evaluation.specs.Evaluation.{Named, Evaluated, evaluated}

-- The tree begins with a table of the words, has at most 256 nodes with a sink, and gives that table's rows as those of the
-- pipeline's table.
pub record IsEvaluated (tables : List Named) (e : Evaluated) : Type 0 where
  pub source : Contains tables (e.tree.name, e.source)
  pub head : (e.tree.mark ≡ e.source.mark) × (e.tree.schema ≡ e.source.schema)
  pub size : plan_size e.tree ≤ 256
  pub means : IsTreeOf e.tree e.source e.table
  pub table : IsTable e.table

abbrev pub PlansMeanTheirTables : Type 0
PlansMeanTheirTables =
    (script : Script) (tables : List Named) (e : Evaluated) → evaluated script tables ≡ Ok e → IsTable e.source → IsEvaluated tables e

-- what the code keeps of a pipeline: its tree, its table's shape, and the place of the tree's table among those of the words
pub record IsStageOf (tables : List Named) (e : Evaluated) (stage : Stage) : Type 0 where
  pub tree : stage.tree ≡ e.tree
  pub shape : stage.shape ≡ shape_of e.table
  pub source : slice_get tables stage.source ≡ Some (e.tree.name, e.source)

abbrev pub GivesStage : List Named → Result Stage (Or EvaluationFault) → Result Evaluated EvaluationFault → Type 0
GivesStage tables (Ok stage) given = (e : Evaluated) × (given ≡ Ok e) × IsStageOf tables e stage
GivesStage tables (Err (Fault f)) given = given ≡ Err f
GivesStage tables (Err Memory) given = Unit {0}
