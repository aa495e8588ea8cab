-- A plan as text: a line for each node, with its number, its kind, its inputs, and whether its rows have an order.
use Rattle.std.specs.Prelude.{ℕ, suc, List, [], ◌∷◌, ◌++◌, map, codes, decimal}
use Rattle.std.specs.List.{join_with_byte}
use Rattle.row_table.specs.declared.table.Mark.{Mark}
use Rattle.row_table.specs.declared.table.Mark.TheVariants.{Kept, Unordered}
use Rattle.plan_nodes.specs.declared.node.Node.{Node}
use Rattle.plan_nodes.specs.declared.node.NodeKind.{NodeKind}
use Rattle.plan_nodes.specs.declared.node.NodeKind.TheVariants.{Source, Filter, Project, Longer, Aggregate, HashJoin, OrderBy, Fetch, Window, Sink}

-- words with a space between them, and a line end
abbrev pub line : List (List ℕ) → List ℕ
line words = join_with_byte 32 words ++ 10 ∷ []

-- a node by the name that Acero gives it
abbrev pub kind_word : NodeKind → List ℕ
kind_word (Source name) = codes "source"
kind_word (Filter e) = codes "filter"
kind_word (Project es) = codes "project"
kind_word (Longer s) = codes "longer"
kind_word (Aggregate s) = codes "aggregate"
kind_word (HashJoin j) = codes "hashjoin"
kind_word (OrderBy ks) = codes "order_by"
kind_word (Fetch offset count) = codes "fetch"
kind_word (Window s) = codes "window"
kind_word Sink = codes "sink"

abbrev pub mark_word : Mark → List ℕ
mark_word Kept = codes "kept"
mark_word Unordered = codes "unordered"

-- the numbers of a node's inputs; of a source the name of its table
abbrev pub input_words : NodeKind → List ℕ → List (List ℕ)
input_words (Source name) inputs = name ∷ []
input_words kind inputs = map decimal inputs

abbrev pub node_line : ℕ → Node → List ℕ
node_line n v = line (decimal n ∷ kind_word v.kind ∷ input_words v.kind v.inputs ++ mark_word v.mark ∷ [])

-- the lines of nodes, the first of them with this number
abbrev pub node_lines : ℕ → List Node → List ℕ
node_lines n [] = []
node_lines n (v ∷ vs) = node_line n v ++ node_lines (suc n) vs

-- the lines of a plan's nodes, which are numbered from 1
unfoldable pub explain_text : List Node → List ℕ
explain_text nodes = node_lines 1 nodes

-- `stage k`
abbrev pub stage_line : ℕ → List ℕ
stage_line k = line (codes "stage" ∷ decimal k ∷ [])

-- plans one behind the other, the first of them with this number
abbrev pub stages_from : ℕ → List (List Node) → List ℕ
stages_from k [] = []
stages_from k (nodes ∷ plans) = stage_line k ++ explain_text nodes ++ stages_from (suc k) plans

-- what `--explain` prints: for each plan its number from 1, and its nodes
unfoldable pub plans_text : List (List Node) → List ℕ
plans_text plans = stages_from 1 plans
