-- The laws of chains.
use Rattle.std.specs.Prelude.{◌≡◌, ℕ, List, [], ◌∷◌, length}
use Rattle.scalar_value.specs.declared.value.Value.{Value}
use Rattle.row_table.specs.declared.field.Field.{Field}
use Rattle.row_table.specs.declared.table.Mark.{Mark}
use Rattle.plan_machine.specs.Meaning.{meaning}
use Rattle.plan_nodes.specs.Plans.{Pace, IsPace, IsPlan, machine_plan}
use Rattle.chain_plans.specs.declared.nodes.Step.{Step}
use Rattle.chain_plans.specs.Chains.{AreSteps, chain_nodes, chain_rows}

-- A chain of steps is a plan.
abbrev pub ChainsArePlans : Type 0
ChainsArePlans = (name : List ℕ) (mark : Mark) (schema : List Field) (steps : List Step) → AreSteps schema steps → IsPlan (chain_nodes name mark schema steps)

-- Over a table, and at every pace, it means what its steps give, one after another.
abbrev pub ChainsMean : Type 0
ChainsMean =
    (name : List ℕ) (mark : Mark) (schema : List Field) (steps : List Step) (rows : List (List Value)) (pace : Pace) → AreSteps schema steps → IsPace pace
    → meaning (machine_plan (chain_nodes name mark schema steps) (rows ∷ []) pace) (length (chain_nodes name mark schema steps)) ≡ chain_rows steps rows
