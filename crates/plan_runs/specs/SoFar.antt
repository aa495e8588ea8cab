-- The operators of the first nodes of a plan.
use Rattle.std.specs.Prelude.{◌≡◌, ℕ, false, List, take}
use Rattle.std.specs.declared.alloc.Global.{Global}
use Rattle.std.specs.declared.sync.Arc.{Arc}
use Rattle.std.specs.Arc.{arc_value}
use Rattle.plan_nodes.specs.declared.node.Node.{Node}
use Rattle.plan_nodes.specs.Operators.{OpMeaning, Each}
use Rattle.plan_nodes.specs.Plans.{meaning_at}
use Rattle.plan_store.specs.Beginning.{numbers_of}

-- one for each of so many nodes that is no source, in the order of the plan
abbrev pub AreFirst : {O : Type 0} → (O → OpMeaning) → List Node → ℕ → ℕ → List (Arc O Global) → Type 0
AreFirst meaning nodes batch count ops = Each (λ op n. meaning (arc_value op) ≡ meaning_at nodes batch n) ops (numbers_of false 1 (take count nodes))
