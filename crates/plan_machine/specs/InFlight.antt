-- What is known of each task in flight, in a state that a legal history reaches without a Fail.
use Rattle.std.specs.Prelude.{◌≡◌, ℕ, true, [], ◌∷◌, ◌⊎◌}
use Rattle.plan_machine.specs.declared.entry.Phase.{Phase}
use Rattle.plan_machine.specs.declared.entry.Phase.TheVariants.{Emitting, Folding, Streaming, Tailing, Done}
use Rattle.plan_machine.specs.declared.entry.Job.{Job}
use Rattle.plan_machine.specs.declared.entry.Job.TheVariants.{Emit, Fold, Seal, Stream, Close, Tail}
use Rattle.plan_machine.specs.Lists.{gather}
use Rattle.plan_machine.specs.Plan.{Plan, IsNode, folds_from, streams_from}
use Rattle.plan_machine.specs.State.{State, Task, tasks_at, IsEndedEdge}

-- the phase of a node at which the job is done
abbrev pub phase_of : Job → Phase
phase_of Emit = Emitting
phase_of Fold = Folding
phase_of Seal = Folding
phase_of Stream = Streaming
phase_of Close = Streaming
phase_of Tail = Tailing

module _ {R : Type 0} (P : Plan R) where
  -- A task t of worker w at node n. While it folds or streams a batch, its worker's list is away. A Seal
  -- or a Close is alone at its node, all lists are away, and the edge that it waited for has ended. A
  -- Stream holds the node's rows as they are.
  abbrev pub TaskFits : State R → ℕ → ℕ → Task R → Job → Type 0
  TaskFits s n w t Emit = Unit {0}
  TaskFits s n w t Fold = s.locals n w ≡ []
  TaskFits s n w t Seal = (tasks_at P s n ≡ t ∷ []) × (gather P.workers (s.locals n) ≡ []) × IsEndedEdge P s (folds_from P n)
  TaskFits s n w t Stream = (s.built n ≡ t.built) × (s.locals n w ≡ [])
  TaskFits s n w t Close = (tasks_at P s n ≡ t ∷ []) × (gather P.workers (s.locals n) ≡ []) × IsEndedEdge P s (streams_from P n) × ((P.node n).tails ≡ true)
  TaskFits s n w t Tail = Unit {0}

  abbrev pub InPhase : State R → ℕ → ℕ → Task R → Type 0
  InPhase s n w t = (s.phase n ≡ phase_of t.job) × TaskFits s n w t t.job

  -- It stands at a node of the plan, which was stopped or is in the job's phase.
  abbrev pub TaskFit : State R → ℕ → Task R → Type 0
  TaskFit s w t = IsNode P t.node × ((s.phase t.node ≡ Done) ⊎ InPhase s t.node w t)
