-- The types of the columns of a node's inputs, by their columns.
use Rattle.std.proofs.Common.{◌≡◌, ℕ, List, [], ◌∷◌, map, refl}
use Rattle.row_table.specs.declared.field.Field.{Field}
use Rattle.column_batch.specs.Batches.{kinds_of}
use Rattle.plan_nodes.specs.declared.node.Node.{Node}
use Rattle.plan_nodes.specs.Operators.{first_of, second_of}
use Rattle.plan_nodes.specs.Plans.{node_at, input_schemas, input_kinds}

first-types : (schema : ℕ → List Field) (es : List ℕ) → kinds_of (first_of (map schema es)) ≡ first_of (map (λ e. kinds_of (schema e)) es)
first-types schema [] = refl
first-types schema (e ∷ es) = refl

second-types : (schema : ℕ → List Field) (es : List ℕ) → kinds_of (second_of (map schema es)) ≡ second_of (map (λ e. kinds_of (schema e)) es)
second-types schema [] = refl
second-types schema (e ∷ es) = first-types schema es

-- those of the first input, and of the second
pub first-kinds : (nodes : List Node) (v : Node) → kinds_of (first_of (input_schemas nodes v)) ≡ first_of (input_kinds nodes v)
first-kinds nodes v = first-types (λ e. (node_at nodes e).schema) v.inputs

pub second-kinds : (nodes : List Node) (v : Node) → kinds_of (second_of (input_schemas nodes v)) ≡ second_of (input_kinds nodes v)
second-kinds nodes v = second-types (λ e. (node_at nodes e).schema) v.inputs
