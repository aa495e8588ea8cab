-- What a plan is: its nodes, its edges, and the setting of a run.
use Rattle.std.specs.Prelude.{◌≡◌, ℕ, ◌<◌, ◌≤◌, Bool, true, cond, List, Option}
use Rattle.plan_machine.specs.declared.entry.Phase.{Phase}
use Rattle.plan_machine.specs.declared.entry.Phase.TheVariants.{Emitting, Folding, Streaming}

-- A node of a plan over rows of type R. What it computes is given by two functions alone: `part built
-- rows` is what streamed rows give, where `built` are the rows that the node gathered, and `rest built
-- streamed` is what it gives at its end, where `streamed` are the rows that it took as it streamed.
pub record Node (R : Type 0) : Type 0 where
  -- the phase in which it starts: Emitting for a source, Folding for a node that gathers an input
  -- (aggregate, hashjoin, order_by, fetch, window, sink), Streaming for one that only streams
  -- (filter, project, longer)
  pub start : Phase
  -- a source's rows
  pub table : List R
  -- whether it streams an input, whether it gives rows at its end, and whether what it streams is cut
  -- into parts of the batch size, as that of a hashjoin
  pub streams : Bool
  pub tails : Bool
  pub cuts : Bool
  -- whether its output has an order that is kept: then its batches have indexes
  pub kept : Bool
  -- for a fetch how many rows from the front it wants to see, for any other node none
  pub wanted : Option ℕ
  -- its inputs: a source has none, a join two, another node only the first
  pub first : ℕ
  pub second : ℕ
  pub part : List R → List R → List R
  pub rest : List R → List R → List R

abbrev pub IsSource : {R : Type 0} → Node R → Type 0
IsSource v = v.start ≡ Emitting

-- it gathers an input
abbrev pub Folds : {R : Type 0} → Node R → Type 0
Folds v = v.start ≡ Folding

-- it gathers one input and streams the other
abbrev pub IsJoin : {R : Type 0} → Node R → Type 0
IsJoin v = Folds v × (v.streams ≡ true)

-- it only streams
abbrev pub OnlyStreams : {R : Type 0} → Node R → Type 0
OnlyStreams v = v.start ≡ Streaming

-- A plan with the setting of a run. Nodes are numbered from 1 to the sink. Edge e leads from node e to
-- its one user, and each node but the sink has an edge. Workers are numbered from 1 to their number.
pub record Plan (R : Type 0) : Type 0 where
  pub node : ℕ → Node R
  pub sink : ℕ
  pub user : ℕ → ℕ
  -- rows in a batch
  pub batch : ℕ
  pub workers : ℕ
  -- how many waiting batches an edge may have before it is paused, and at how many it goes on
  pub pause : ℕ
  pub resume : ℕ

module _ {R : Type 0} (P : Plan R) where
  abbrev pub IsNode : ℕ → Type 0
  IsNode n = (1 ≤ n) × (n ≤ P.sink)

  abbrev pub IsEdge : ℕ → Type 0
  IsEdge e = (1 ≤ e) × (e < P.sink)

  abbrev pub IsWorker : ℕ → Type 0
  IsWorker w = (1 ≤ w) × (w ≤ P.workers)

  -- the edge whose batches a node gathers, and the one whose batches it streams: a join gathers its
  -- second input
  abbrev pub folds_from : ℕ → ℕ
  folds_from n = cond (P.node n).streams (P.node n).second (P.node n).first

  abbrev pub streams_from : ℕ → ℕ
  streams_from n = (P.node n).first
