-- Which entries are enabled in a state. After a Fail only Deliver and Fail are.
use Rattle.std.specs.Prelude.{◌≡◌, ℕ, zero, suc, ◌<◌, ◌≤◌, true, false, List, [], ◌++◌, length, Some, None}
use Rattle.plan_machine.specs.declared.entry.Phase.{Phase}
use Rattle.plan_machine.specs.declared.entry.Phase.TheVariants.{Emitting, Folding, Streaming, Tailing, Sealed, Done}
use Rattle.plan_machine.specs.declared.entry.Job.{Job}
use Rattle.plan_machine.specs.declared.entry.Job.TheVariants.{Emit, Fold, Seal, Stream, Close, Tail}
use Rattle.plan_machine.specs.declared.entry.Entry.{Entry}
use Rattle.plan_machine.specs.declared.entry.Entry.TheVariants.{Claim, Deliver, Pause, Resume, Finish, Stop, Fail}
use Rattle.plan_machine.specs.Batch.{Batch, parts, rows_at, count_at}
use Rattle.plan_machine.specs.Plan.{Plan, IsNode, IsEdge, IsWorker, folds_from, streams_from}
use Rattle.plan_machine.specs.State.{State, Task, IsIdle, IsEndedEdge, tail_rows}

-- the rows of the batches with the indexes 0, 1, .. below k
abbrev pub front : {R : Type 0} → ℕ → List (Batch R) → List R
front zero xs = []
front (suc k) xs = front k xs ++ rows_at k xs

-- The batches 0, 1, 2 and so on below some number are all there, and have at least so many rows.
pub record HasFront {R : Type 0} (xs : List (Batch R)) (wanted : ℕ) : Type 0 where
  pub upto : ℕ
  pub there : (i : ℕ) → i < upto → 1 ≤ count_at i xs
  pub enough : wanted ≤ length (front upto xs)

module _ {R : Type 0} (P : Plan R) where
  -- Stop: the node is a fetch, Folding, its input isn't Done, and what it folded from the front on,
  -- without a gap, has at least as many rows as it wants.
  pub record CanStop (s : State R) (n : ℕ) : Type 0 where
    pub node : IsNode P n
    pub wanted : ℕ
    pub is_fetch : (P.node n).wanted ≡ Some wanted
    pub folding : s.phase n ≡ Folding
    pub open_input : s.phase (folds_from P n) ≡ Done → ⊥
    pub front : HasFront (s.folded n) wanted

  -- Pause: more batches wait than the threshold, and the edge isn't paused.
  abbrev pub CanPause : State R → ℕ → Type 0
  CanPause s e = IsEdge P e × (P.pause < length (s.waiting e)) × (s.paused e ≡ false)

  -- Resume: the edge is paused, and at most `resume` batches wait.
  abbrev pub CanResume : State R → ℕ → Type 0
  CanResume s e = IsEdge P e × (s.paused e ≡ true) × (length (s.waiting e) ≤ P.resume)

  -- Finish: a source has emitted all, or a node without tails has streamed all, or all tails were
  -- given, or the node is Sealed.
  abbrev pub MayFinish : State R → ℕ → Phase → Type 0
  MayFinish s n Emitting = s.next n ≡ parts P.batch (P.node n).table
  MayFinish s n Folding = ⊥
  MayFinish s n Streaming = ((P.node n).tails ≡ false) × IsEndedEdge P s (streams_from P n)
  MayFinish s n Tailing = s.next n ≡ parts P.batch (tail_rows P s n)
  MayFinish s n Sealed = Unit {0}
  MayFinish s n Done = ⊥

  -- What every Claim needs: the worker has no task, and no Stop and no Pause is enabled.
  pub record Ready (s : State R) (w n : ℕ) : Type 0 where
    pub node : IsNode P n
    pub worker : IsWorker P w
    pub free : s.tasks w ≡ None
    pub sound : s.failed ≡ false
    pub no_stop : (m : ℕ) → CanStop s m → ⊥
    pub no_pause : (e : ℕ) → CanPause s e → ⊥

  -- What the job itself needs. Emit i and Tail k give the next batch, and only while the node's own edge
  -- isn't paused. Fold p and Stream p take the waiting batch at place p, and a node streams only while
  -- its own edge isn't paused. Seal and Close wait until the node is idle and the input has ended.
  abbrev pub CanDo : State R → ℕ → Job → ℕ → Type 0
  CanDo s n Emit i = (s.phase n ≡ Emitting) × (s.next n ≡ i) × (i < parts P.batch (P.node n).table) × (s.paused n ≡ false)
  CanDo s n Fold p = (s.phase n ≡ Folding) × (p < length (s.waiting (folds_from P n)))
  CanDo s n Seal k = (s.phase n ≡ Folding) × IsIdle P s n × IsEndedEdge P s (folds_from P n) × (k ≡ 0)
  CanDo s n Stream p = (s.phase n ≡ Streaming) × (p < length (s.waiting (streams_from P n))) × (s.paused n ≡ false)
  CanDo s n Close k = (s.phase n ≡ Streaming) × IsIdle P s n × IsEndedEdge P s (streams_from P n) × (k ≡ 0) × ((P.node n).tails ≡ true)
  CanDo s n Tail k = (s.phase n ≡ Tailing) × (s.next n ≡ k) × (k < parts P.batch (tail_rows P s n)) × (s.paused n ≡ false)

  -- the worker has a task in flight
  abbrev pub HasTask : State R → ℕ → Type 0
  HasTask s w = IsWorker P w × ((t : Task R) × (s.tasks w ≡ Some t))

  abbrev pub Enabled : State R → Entry → Type 0
  Enabled s (Claim w n job k) = Ready s w n × CanDo s n job k
  Enabled s (Deliver w) = HasTask s w
  Enabled s (Pause e) = (s.failed ≡ false) × CanPause s e
  Enabled s (Resume e) = (s.failed ≡ false) × CanResume s e
  Enabled s (Finish n) = (s.failed ≡ false) × IsNode P n × IsIdle P s n × MayFinish s n (s.phase n)
  Enabled s (Stop n) = (s.failed ≡ false) × CanStop s n
  Enabled s (Fail w) = HasTask s w
