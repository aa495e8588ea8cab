-- Trees: the nodes of a stage before its sink.
use Rattle.std.specs.Prelude.{ℕ, ◌+◌, nat_le, if◌then◌else◌, List, [], ◌∷◌, ◌++◌, length, fold, Result, Ok, Err}
use Rattle.row_table.specs.declared.field.Field.{Field}
use Rattle.plan_nodes.specs.declared.node.Node.{Node}
use Rattle.chain_plans.specs.declared.nodes.Step.{Step}
use Rattle.chain_plans.specs.Chains.{chain_nodes}
use Rattle.verb_forms.specs.declared.verb.Verb.{Verb}
use Rattle.verb_forms.specs.Shapes.{ShapeValue}
use Rattle.plan_compile.specs.declared.tree.Tree.{Tree}
use Rattle.plan_compile.specs.declared.tree.TooLarge.{TooLarge}
use Rattle.plan_compile.specs.Steps.{steps_of}

-- the tree of a table of the words alone
abbrev pub source_tree : List ℕ → ShapeValue → Tree
source_tree name x = record { name = name; mark = x.mark; schema = x.schema; steps = [] }

-- the columns behind the last of the steps
abbrev pub schema_behind : List Field → List Step → List Field
schema_behind schema [] = schema
schema_behind schema (s ∷ steps) = schema_behind s.schema steps

abbrev pub tree_columns : Tree → List Field
tree_columns t = schema_behind t.schema t.steps

-- the tree with the steps of one verb more, and of one verb after the other
abbrev pub with_verb : Tree → Verb → Tree
with_verb t v = record t { steps = t.steps ++ steps_of v (tree_columns t) }

abbrev pub with_verbs : Tree → List Verb → Tree
with_verbs t vs = fold with_verb t vs

-- the number of its nodes and a sink
abbrev pub plan_size : Tree → ℕ
plan_size t = length t.steps + 2

-- the plan that ends with a sink behind the tree
abbrev pub plan_of : Tree → List Node
plan_of t = chain_nodes t.name t.mark t.schema t.steps

-- at most 256 nodes
abbrev pub added : Tree → Verb → Result Tree TooLarge
added t v = if nat_le (plan_size (with_verb t v)) 256 then Ok (with_verb t v) else Err (record {})
