-- What the plans of verbs mean.
use Rattle.std.specs.Prelude.{◌≡◌, ℕ, List, [], ◌∷◌, length, fold}
use Rattle.row_table.specs.Tables.{TableValue, IsTable}
use Rattle.plan_machine.specs.Meaning.{meaning as plan_meaning}
use Rattle.plan_nodes.specs.Plans.{Pace, IsPace, IsPlan, machine_plan}
use Rattle.chain_plans.specs.Chains.{AreSteps, chain_rows}
use Rattle.verb_forms.specs.declared.verb.Verb.{Verb}
use Rattle.verb_forms.specs.Shapes.{shape_of}
use Rattle.verb_forms.specs.Suits.{Suits}
use Rattle.verb_forms.specs.After.{after}
use Rattle.verb_meaning.specs.Meaning.{meaning}
use Rattle.verb_meaning.specs.Rows.{rows_after}
use Rattle.plan_compile.specs.Steps.{steps_of}
use Rattle.plan_compile.specs.declared.tree.Tree.{Tree}
use Rattle.plan_compile.specs.Trees.{source_tree, schema_behind, tree_columns, with_verbs, plan_of}

-- each verb suits the table that the ones before it give
abbrev pub AllSuit : TableValue → List Verb → Type 0
AllSuit x [] = Unit {0}
AllSuit x (v ∷ vs) = Suits v (shape_of x) × AllSuit (meaning v x) vs

-- the table after one verb after the other
abbrev pub table_after : TableValue → List Verb → TableValue
table_after x vs = fold (λ y v. meaning v y) x vs

-- The steps of a verb that suits a table: their expressions have types over the columns before them, they leave the columns
-- that the verb leaves, and they give of the table's rows those that the verb means.
pub record AreStepsOf (v : Verb) (x : TableValue) : Type 0 where
  pub steps : AreSteps x.schema (steps_of v x.schema)
  pub columns : schema_behind x.schema (steps_of v x.schema) ≡ (after v (shape_of x)).schema
  pub rows : chain_rows (steps_of v x.schema) x.rows ≡ rows_after v x.schema x.rows

abbrev pub VerbsAreSteps : Type 0
VerbsAreSteps = (v : Verb) (x : TableValue) → IsTable x → Suits v (shape_of x) → AreStepsOf v x

-- The tree of verbs over a table of the words: its steps fit one behind the other, it has the columns of the table that the
-- verbs mean, and its steps give that table's rows.
pub record IsTreeOf (t : Tree) (x y : TableValue) : Type 0 where
  pub steps : AreSteps x.schema t.steps
  pub columns : tree_columns t ≡ y.schema
  pub rows : chain_rows t.steps x.rows ≡ y.rows

abbrev pub TreesMean : Type 0
TreesMean =
    (name : List ℕ) (x : TableValue) (vs : List Verb) → IsTable x → AllSuit x vs
    → IsTreeOf (with_verbs (source_tree name (shape_of x)) vs) x (table_after x vs)

-- Its plan is well formed, and means the rows of that table, at every pace.
abbrev pub PlansMean : Type 0
PlansMean =
    (name : List ℕ) (x : TableValue) (vs : List Verb) (pace : Pace) → IsTable x → AllSuit x vs → IsPace pace
    → (let nodes = plan_of (with_verbs (source_tree name (shape_of x)) vs) in
    IsPlan nodes × (plan_meaning (machine_plan nodes (x.rows ∷ []) pace) (length nodes) ≡ (table_after x vs).rows))
