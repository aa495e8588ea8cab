-- What a run is begun with.
use Rattle.std.specs.Prelude.{◌≡◌, ℕ, zero, suc, ◌-◌, ◌<◌, ◌≤◌, Bool, true, false, cond, not, List, [], ◌∷◌, ◌++◌}
use Rattle.std.specs.declared.alloc.Global.{Global}
use Rattle.std.specs.declared.sync.Arc.{Arc}
use Rattle.std.specs.Arc.{arc_value}
use Rattle.row_table.specs.Tables.{TableValue}
use Rattle.scalar_value.specs.declared.value.Value.{Value}
use Rattle.plan_machine.specs.declared.entry.Entry.{Entry}
use Rattle.plan_machine.specs.Plan.{Plan as MachinePlan}
use Rattle.plan_machine.specs.State.{opening}
use Rattle.plan_machine.specs.History.{IsHistory, IsEnded, state_after, peak, result_rows}
use Rattle.plan_machine.specs.Meaning.{SameRows, meaning}
use Rattle.plan_nodes.specs.declared.node.Node.{Node}
use Rattle.plan_nodes.specs.Kinds.{is_source}
use Rattle.plan_nodes.specs.Plans.{IsSourceTable, node_at, meaning_at}
use Rattle.plan_nodes.specs.Operators.{OpMeaning, Each}
use Rattle.plan_store.specs.declared.setting.Setting.{Setting}
use Rattle.plan_store.specs.Told.{Given, plan_of}

-- the numbers of the nodes that are sources, and of those that aren't, counted on from k
abbrev pub numbers_of : Bool → ℕ → List Node → List ℕ
numbers_of sources k [] = []
numbers_of sources k (v ∷ vs) = cond (cond sources (is_source v.kind) (not (is_source v.kind))) (k ∷ numbers_of sources (suc k) vs) (numbers_of sources (suc k) vs)

-- One operator for each node that isn't a source, in the order of the plan: it computes what the node does over its inputs'
-- columns, with batches of the run's size.
abbrev pub AreOperators : {O : Type 0} → (O → OpMeaning) → List Node → ℕ → List (Arc O Global) → Type 0
AreOperators meaning nodes batch ops = Each (λ op n. meaning (arc_value op) ≡ meaning_at nodes batch n) ops (numbers_of false 1 nodes)

-- One table for each source, in the order of the plan, with the source's columns and mark.
abbrev pub AreTables : List Node → List (Arc TableValue Global) → Type 0
AreTables nodes tables = Each (λ t n. IsSourceTable (node_at nodes n) (arc_value t)) tables (numbers_of true 1 nodes)

-- a setting within its limits
pub record IsSetting (s : Setting) : Type 0 where
  pub batch : (1 ≤ s.batch) × (s.batch ≤ 65536)
  pub workers : (1 ≤ s.workers) × (s.workers ≤ 64)
  pub pause : (1 ≤ s.pause) × (s.pause ≤ 1024)
  pub resume : s.resume < s.pause
