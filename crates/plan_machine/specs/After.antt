-- The state that an entry leaves, where it is enabled.
use Rattle.std.specs.Prelude.{ℕ, zero, suc, ◌+◌, Bool, true, false, cond, nat_eq, nat_lt, ◌&&◌, ◌||◌, List, [], ◌∷◌, ◌++◌, length, take, drop, Option, Some, None}
use Rattle.plan_machine.specs.declared.entry.Phase.{Phase}
use Rattle.plan_machine.specs.declared.entry.Phase.TheVariants.{Emitting, Folding, Streaming, Tailing, Sealed, Done}
use Rattle.plan_machine.specs.declared.entry.Job.{Job}
use Rattle.plan_machine.specs.declared.entry.Job.TheVariants.{Emit, Fold, Seal, Stream, Close, Tail}
use Rattle.plan_machine.specs.declared.entry.Entry.{Entry}
use Rattle.plan_machine.specs.declared.entry.Entry.TheVariants.{Claim, Deliver, Pause, Resume, Finish, Stop, Fail}
use Rattle.plan_machine.specs.Phases.{phase_after_seal_of}
use Rattle.plan_machine.specs.Lists.{upd, at_or, without, gather}
use Rattle.plan_machine.specs.Batch.{Batch, blank, gathered, marked, piece, rows_of}
use Rattle.plan_machine.specs.Plan.{Plan, folds_from, streams_from}
use Rattle.plan_machine.specs.State.{State, Task}

abbrev pub is_done : Phase → Bool
is_done Emitting = false
is_done Folding = false
is_done Streaming = false
is_done Tailing = false
is_done Sealed = false
is_done Done = true

-- the task that a claim puts in flight
abbrev pub task_of : {R : Type 0} → State R → ℕ → Job → ℕ → Batch R → List (Batch R) → Task R
task_of s n job k batch took = record { node = n; job = job; number = k; batch = batch; took = took; built = s.built n; streamed = s.streamed n }

module _ {R : Type 0} (P : Plan R) where
  -- Claim. Emit and Tail count the next batch. Fold and Stream take the waiting batch at the place, and
  -- the worker's list leaves the node. Seal and Close take the lists of all workers.
  abbrev pub claimed : State R → ℕ → ℕ → Job → ℕ → State R
  claimed s w n Emit i =
      record s {
        next = upd s.next n (i + 1);
        tasks = upd s.tasks w (Some (task_of s n Emit i blank []));
      }
  claimed s w n Fold p =
      record s {
        waiting = upd s.waiting (folds_from P n) (without p (s.waiting (folds_from P n)));
        locals = upd s.locals n (upd (s.locals n) w []);
        tasks = upd s.tasks w (Some (task_of s n Fold p (at_or blank p (s.waiting (folds_from P n))) (s.locals n w)));
      }
  claimed s w n Seal k =
      record s {
        locals = upd s.locals n (λ _. []);
        tasks = upd s.tasks w (Some (task_of s n Seal k blank (gather P.workers (s.locals n))));
      }
  claimed s w n Stream p =
      record s {
        waiting = upd s.waiting (streams_from P n) (without p (s.waiting (streams_from P n)));
        locals = upd s.locals n (upd (s.locals n) w []);
        tasks = upd s.tasks w (Some (task_of s n Stream p (at_or blank p (s.waiting (streams_from P n))) (s.locals n w)));
      }
  claimed s w n Close k =
      record s {
        locals = upd s.locals n (λ _. []);
        tasks = upd s.tasks w (Some (task_of s n Close k blank (gather P.workers (s.locals n))));
      }
  claimed s w n Tail k =
      record s {
        next = upd s.next n (k + 1);
        tasks = upd s.tasks w (Some (task_of s n Tail k blank []));
      }

  -- what is left of the output of a streamed batch, and the part of it that one delivery gives: a node
  -- that cuts its output gives at most `batch` rows
  abbrev pub left_of : Task R → List R
  left_of t = drop t.batch.from ((P.node t.node).part t.built t.batch.rows)

  abbrev pub sent : Task R → Batch R
  sent t =
      record {
        index = marked (P.node t.node).kept t.batch.index;
        rows = cond (P.node t.node).cuts (take P.batch (left_of t)) (left_of t);
        from = 0;
      }

  -- Where more rows are left, the batch itself goes back, from where its output goes on.
  abbrev pub back : Task R → List (Batch R)
  back t =
      cond ((P.node t.node).cuts && nat_lt P.batch (length (left_of t)))
      (record { index = t.batch.index; rows = t.batch.rows; from = t.batch.from + P.batch } ∷ [])
      []

  -- with a batch at the end of a node's own edge
  abbrev pub put : State R → ℕ → Batch R → ℕ → List (Batch R)
  put s n b = upd s.waiting n (s.waiting n ++ b ∷ [])

  -- Deliver. Emit and Tail put their batch at the end of the node's edge. Fold and Stream return the
  -- worker's list with the batch behind it. Stream also gives the rows of the batch, and puts what is
  -- left of it at the front of the edge that it came from. Seal builds the node's rows of all lists that
  -- it took, and Close keeps these lists as what the node streamed.
  abbrev pub landed : State R → ℕ → Task R → Job → State R
  landed s w t Emit =
      record s {
        waiting = put s t.node (piece (P.node t.node).kept P.batch (P.node t.node).table t.number);
        tasks = upd s.tasks w None;
      }
  landed s w t Fold =
      record s {
        locals = upd s.locals t.node (upd (s.locals t.node) w (t.took ++ t.batch ∷ []));
        folded = upd s.folded t.node (s.folded t.node ++ t.batch ∷ []);
        tasks = upd s.tasks w None;
      }
  landed s w t Seal =
      record s {
        built = upd s.built t.node (gathered t.took);
        phase = upd s.phase t.node (phase_after_seal_of (P.node t.node).streams (P.node t.node).tails);
        tasks = upd s.tasks w None;
      }
  landed s w t Stream =
      record s {
        waiting = upd (upd s.waiting (streams_from P t.node) (back t ++ s.waiting (streams_from P t.node))) t.node (s.waiting t.node ++ sent t ∷ []);
        locals = upd s.locals t.node (upd (s.locals t.node) w (t.took ++ t.batch ∷ []));
        tasks = upd s.tasks w None;
      }
  landed s w t Close =
      record s {
        streamed = upd s.streamed t.node t.took;
        phase = upd s.phase t.node Tailing;
        tasks = upd s.tasks w None;
      }
  landed s w t Tail =
      record s {
        waiting = put s t.node (piece (P.node t.node).kept P.batch ((P.node t.node).rest t.built (rows_of t.streamed)) t.number);
        tasks = upd s.tasks w None;
      }

  -- A delivery after a Fail, or at a node that was stopped, is dropped whole.
  abbrev pub delivered : State R → ℕ → Option (Task R) → State R
  delivered s w None = s
  delivered s w (Some t) = cond (s.failed || is_done (s.phase t.node)) (record s { tasks = upd s.tasks w None }) (landed s w t t.job)

  -- whether edges lead from node m to node n, at most k of them
  abbrev pub leads : ℕ → ℕ → ℕ → Bool
  leads zero m n = false
  leads (suc k) m n = (nat_lt 0 m && nat_lt m P.sink) && (nat_eq (P.user m) n || leads k (P.user m) n)

  -- m is below n: edges lead from it to n
  abbrev pub below : ℕ → ℕ → Bool
  below m n = leads P.sink m n

  -- Stop: all nodes below are Done, their edges are empty and not paused.
  abbrev pub stopped : State R → ℕ → State R
  stopped s n =
      record s {
        phase = λ m. cond (below m n) Done (s.phase m);
        waiting = λ m. cond (below m n) [] (s.waiting m);
        paused = λ m. cond (below m n) false (s.paused m);
      }

  unfoldable pub after : State R → Entry → State R
  after s (Claim w n job k) = claimed s w n job k
  after s (Deliver w) = delivered s w (s.tasks w)
  after s (Pause e) = record s { paused = upd s.paused e true }
  after s (Resume e) = record s { paused = upd s.paused e false }
  after s (Finish n) = record s { phase = upd s.phase n Done }
  after s (Stop n) = stopped s n
  after s (Fail w) = record s { failed = true; tasks = upd s.tasks w None }
