-- How much an edge holds, with what is in flight to it and from it.
use Rattle.std.specs.Prelude.{ℕ, ◌+◌, cond, nat_eq, length, Option, Some, None}
use Rattle.plan_machine.specs.declared.entry.Job.{Job}
use Rattle.plan_machine.specs.declared.entry.Job.TheVariants.{Emit, Fold, Seal, Stream, Close, Tail}
use Rattle.plan_machine.specs.Lists.{sum_to}
use Rattle.plan_machine.specs.Plan.{Plan, folds_from, streams_from}
use Rattle.plan_machine.specs.State.{State, Task}

-- one for a job that gives a batch
abbrev pub gives : Job → ℕ
gives Emit = 1
gives Fold = 0
gives Seal = 0
gives Stream = 1
gives Close = 0
gives Tail = 1

module _ {R : Type 0} (P : Plan R) where
  -- one for a job at node n that took its batch from edge e
  abbrev pub takes : ℕ → ℕ → Job → ℕ
  takes e n Emit = 0
  takes e n Fold = cond (nat_eq (folds_from P n) e) 1 0
  takes e n Seal = 0
  takes e n Stream = cond (nat_eq (streams_from P n) e) 1 0
  takes e n Close = 0
  takes e n Tail = 0

  abbrev pub load_of : ℕ → Option (Task R) → ℕ
  load_of e None = 0
  load_of e (Some t) = cond (nat_eq t.node e) (gives t.job) (takes e t.node t.job)

  -- Waiting batches, Emit, Stream and Tail tasks in flight of the edge's producer, and tasks in flight of
  -- its user that took their batch from the edge, together.
  abbrev pub load : State R → ℕ → ℕ
  load s e = length (s.waiting e) + sum_to P.workers (λ w. load_of e (s.tasks w))
