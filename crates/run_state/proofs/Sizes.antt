-- The rows of an operator's batch are those of the run's.
use Rattle.std.proofs.Common.{◌≡◌, ℕ, true, List, refl}
use Rattle.row_table.specs.declared.field.Field.{Field}
use Rattle.plan_nodes.specs.declared.node.NodeKind.{NodeKind}
use Rattle.plan_nodes.specs.declared.node.NodeKind.TheVariants.{Source, Filter, Project, Longer, Aggregate, HashJoin, OrderBy, Fetch, Window, Sink}
use Rattle.plan_nodes.specs.Operators.{size_of}
use Rattle.plan_nodes.specs.Kinds.{kind_meaning}
use Rattle.plan_nodes.specs.Plans.{machine_node_at, node_at, input_schemas}
use Rattle.plan_store.specs.Told.{Given, plan_of, site_of}

tails_sized : (kind : NodeKind) (inputs : List (List Field)) (batch : ℕ) → (kind_meaning kind inputs batch).shape.tails ≡ true → size_of (kind_meaning kind inputs batch) ≡ batch
tails_sized (Source name) inputs batch e = cc
tails_sized (Filter x) inputs batch e = cc
tails_sized (Project xs) inputs batch e = cc
tails_sized (Longer s) inputs batch e = cc
tails_sized (Aggregate s) inputs batch e = refl
tails_sized (HashJoin j) inputs batch e = refl
tails_sized (OrderBy ks) inputs batch e = refl
tails_sized (Fetch offset count) inputs batch e = refl
tails_sized (Window s) inputs batch e = refl
tails_sized Sink inputs batch e = refl

folds_sized : (kind : NodeKind) (inputs : List (List Field)) (batch : ℕ) → (kind_meaning kind inputs batch).shape.folds ≡ true → size_of (kind_meaning kind inputs batch) ≡ batch
folds_sized (Source name) inputs batch e = cc
folds_sized (Filter x) inputs batch e = cc
folds_sized (Project xs) inputs batch e = cc
folds_sized (Longer s) inputs batch e = cc
folds_sized (Aggregate s) inputs batch e = refl
folds_sized (HashJoin j) inputs batch e = refl
folds_sized (OrderBy ks) inputs batch e = refl
folds_sized (Fetch offset count) inputs batch e = refl
folds_sized (Window s) inputs batch e = refl
folds_sized Sink inputs batch e = refl

cuts_sized : (kind : NodeKind) (inputs : List (List Field)) (batch : ℕ) → (kind_meaning kind inputs batch).cuts ≡ true → (size_of (kind_meaning kind inputs batch) ≡ batch) × ((kind_meaning kind inputs batch).shape.streams ≡ true)
cuts_sized (Source name) inputs batch e = cc
cuts_sized (Filter x) inputs batch e = cc
cuts_sized (Project xs) inputs batch e = cc
cuts_sized (Longer s) inputs batch e = cc
cuts_sized (Aggregate s) inputs batch e = cc
cuts_sized (HashJoin j) inputs batch e = (refl, refl)
cuts_sized (OrderBy ks) inputs batch e = cc
cuts_sized (Fetch offset count) inputs batch e = cc
cuts_sized (Window s) inputs batch e = cc
cuts_sized Sink inputs batch e = cc

pub size_tails : (g : Given) (n : ℕ) → ((plan_of g).node n).tails ≡ true → size_of (site_of g n).meaning ≡ (plan_of g).batch
unfolding site_of machine_node_at
size_tails g n e = tails_sized (node_at g.nodes n).kind (input_schemas g.nodes (node_at g.nodes n)) g.pace.batch e

pub size_folds : (g : Given) (n : ℕ) → (site_of g n).meaning.shape.folds ≡ true → size_of (site_of g n).meaning ≡ (plan_of g).batch
unfolding site_of
size_folds g n e = folds_sized (node_at g.nodes n).kind (input_schemas g.nodes (node_at g.nodes n)) g.pace.batch e

pub size_cuts : (g : Given) (n : ℕ) → (site_of g n).meaning.cuts ≡ true → (size_of (site_of g n).meaning ≡ (plan_of g).batch) × ((site_of g n).meaning.shape.streams ≡ true)
unfolding site_of
size_cuts g n e = cuts_sized (node_at g.nodes n).kind (input_schemas g.nodes (node_at g.nodes n)) g.pace.batch e
