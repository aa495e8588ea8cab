-- Words of the proofs; no clause of a public function cites them.
use Rattle.std.specs.Prelude.{◌≡◌, ℕ, if◌then◌else◌, Option, Some, None, Result, Ok, Err, List, [], ◌∷◌}
use Rattle.std.specs.Str.{bytes_eq}
use Rattle.scalar_value.specs.declared.memory.Or.{Or}
use Rattle.scalar_value.specs.declared.memory.Or.TheVariants.{Fault, Memory}
use Rattle.plan_nodes.specs.Operators.{Each}
use Rattle.verb_forms.specs.Shapes.{shape_of}
use Rattle.plan_compile.specs.Trees.{source_tree}
use Rattle.script_evaluation.specs.declared.fault.EvaluationFault.{EvaluationFault}
use Rattle.script_evaluation.specs.declared.stage.Stage.{Stage}
use Rattle.script_evaluation.specs.Evaluation.{Named, Evaluated, Scope}
use Rattle.script_evaluation.specs.EvaluationLaws.{IsStageOf}

-- what the code keeps of the names of a script
abbrev pub StageScope : Type 0
StageScope = List (List ℕ × Stage)

-- a name with its stage, for that name with what it stands for
pub record IsEntryOf (tables : List Named) (e : List ℕ × Evaluated) (entry : List ℕ × Stage) : Type 0 where
  pub name : entry.0 ≡ e.0
  pub stage : IsStageOf tables e.1 entry.1

-- names with their stages, for the same names in the same order
abbrev pub IsScopeOf : List Named → Scope → StageScope → Type 0
IsScopeOf tables scope stages = Each (IsEntryOf tables) scope stages

-- the stage of a table alone
abbrev pub table_stage : Named → ℕ → Stage
table_stage t source = record { tree = source_tree t.0 (shape_of t.1); shape = shape_of t.1; source = source }

-- the last stage of a name
abbrev pub or_earlier_stage : Option Stage → Option Stage → Option Stage
or_earlier_stage (Some later) earlier = Some later
or_earlier_stage None earlier = earlier

abbrev pub found_stage : List ℕ → StageScope → Option Stage
found_stage name [] = None
found_stage name (entry ∷ stages) = or_earlier_stage (found_stage name stages) (if bytes_eq entry.0 name then Some entry.1 else None)

-- the scope that is given, of which these are the stages
abbrev pub GivesScope : List Named → StageScope → Result (Unit {0}) (Or EvaluationFault) → Result Scope EvaluationFault → Type 0
GivesScope tables stages (Ok done) given = (scope : Scope) × (given ≡ Ok scope) × IsScopeOf tables scope stages
GivesScope tables stages (Err (Fault f)) given = given ≡ Err f
GivesScope tables stages (Err Memory) given = Unit {0}
