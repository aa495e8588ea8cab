-- The laws of bounds: no run of a plan gives more.
use Rattle.std.specs.Prelude.{◌≡◌, ℕ, ◌≤◌, List, [], ◌∷◌, length}
use Rattle.scalar_value.specs.declared.value.Value.{Value}
use Rattle.plan_machine.specs.declared.entry.Entry.{Entry}
use Rattle.plan_machine.specs.History.{IsHistory}
use Rattle.plan_machine.specs.Budget.{IsBudget}
use Rattle.row_table.specs.declared.table.Mark.TheVariants.{Kept, Unordered}
use Rattle.plan_nodes.specs.declared.node.Node.{Node}
use Rattle.plan_nodes.specs.declared.node.NodeKind.TheVariants.{Source, Project, HashJoin, Sink}
use Rattle.plan_nodes.specs.declared.options.JoinSpec.{JoinSpec}
use Rattle.plan_nodes.specs.Plans.{Pace, IsPace, IsPlan, machine_plan}
use Rattle.plan_bounds.specs.Bounds.{rows_bound, batches_bound, most_entries}

-- Over all tables and at every pace, the bounds are a budget of the machine's plan.
abbrev pub BoundsAreBudgets : Type 0
BoundsAreBudgets =
    (nodes : List Node) (tables : List (List (List Value))) (pace : Pace) → IsPlan nodes → IsPace pace
    → IsBudget (machine_plan nodes tables pace) (rows_bound nodes tables pace.batch) (batches_bound nodes tables pace.batch)

-- And so each history of it, also one that fails, has at most so many entries.
abbrev pub PlansEnd : Type 0
PlansEnd =
    (nodes : List Node) (tables : List (List (List Value))) (pace : Pace) → IsPlan nodes → IsPace pace
    → (es : List Entry) → IsHistory (machine_plan nodes tables pace) es → length es ≤ most_entries nodes tables pace

-- A worked number: sources of three and of two rows, a hashjoin of them, a project and the sink, in batches of two rows.
abbrev pub worked_nodes : JoinSpec → List Node
worked_nodes join =
    record { kind = Source []; inputs = []; mark = Kept; schema = [] }
    ∷ record { kind = Source []; inputs = []; mark = Kept; schema = [] }
    ∷ record { kind = HashJoin join; inputs = 1 ∷ 2 ∷ []; mark = Unordered; schema = [] }
    ∷ record { kind = Project []; inputs = 3 ∷ []; mark = Unordered; schema = [] }
    ∷ record { kind = Sink; inputs = 4 ∷ []; mark = Unordered; schema = [] }
    ∷ []

abbrev pub worked_tables : List (List (List Value))
worked_tables = ([] ∷ [] ∷ [] ∷ []) ∷ ([] ∷ [] ∷ []) ∷ []

-- The join gives at most 3 * 3 + 2 = 11 rows in 2 + 11 = 13 batches, as the project does: 10 * (2 + 1 + 13 + 13) + 8 * 5.
abbrev pub WorkedBound : Type 0
WorkedBound =
    (join : JoinSpec) (workers pause resume : ℕ)
    → most_entries (worked_nodes join) worked_tables (record { batch = 2; workers = workers; pause = pause; resume = resume }) ≡ 330
