-- What each node of a plan still gives from a state on, and the rows that the sink will have.
use Rattle.std.proofs.Common.{ℕ, zero, suc, cond, List, [], ◌∷◌, ◌++◌, drop, map}
use Rattle.plan_machine.specs.declared.entry.Phase.{Phase}
use Rattle.plan_machine.specs.declared.entry.Phase.TheVariants.{Emitting, Folding, Streaming, Tailing, Sealed, Done}
use Rattle.plan_machine.specs.declared.entry.Job.{Job}
use Rattle.plan_machine.specs.declared.entry.Job.TheVariants.{Emit, Fold, Seal, Stream, Close, Tail}
use Rattle.plan_machine.specs.Lists.{gather}
use Rattle.plan_machine.specs.Batch.{Batch, rows_of, gathered, marked, piece}
use Rattle.plan_machine.specs.Plan.{Plan, Node, folds_from, streams_from}
use Rattle.plan_machine.specs.State.{State, Task, tasks_at}
use Rattle.plan_machine.proofs.Weigh.{flat}
use Rattle.plan_machine.proofs.Pieces.{pieces_from}

-- all that a streamed batch gives, and what is left of it
abbrev pub whole_of : {R : Type 0} → Node R → List R → Batch R → Batch R
whole_of v b x = record { index = marked v.kept x.index; rows = v.part b x.rows; from = 0 }

abbrev pub remains_of : {R : Type 0} → Node R → List R → Batch R → Batch R
remains_of v b x = record { index = marked v.kept x.index; rows = drop x.from (v.part b x.rows); from = 0 }

-- what is known of a node and of its workers
pub record View (R : Type 0) : Type 0 where
  pub phase : Phase
  -- the batches that it has taken, and those that its tasks in flight still give
  pub held : List (Batch R)
  pub given : List (Batch R)
  pub built : List R
  pub streamed : List (Batch R)
  pub next : ℕ

-- what comes to a node: of the edge that it folds and of the one that it streams, what waits and what
-- is still to be given
pub record Coming (R : Type 0) : Type 0 where
  pub folded_waiting : List (Batch R)
  pub folded_later : List (Batch R)
  pub streamed_waiting : List (Batch R)
  pub streamed_later : List (Batch R)

-- all batches that it folds, and all that are still to be streamed
abbrev pub all_folded : {R : Type 0} → View R → Coming R → List (Batch R)
all_folded V C = V.held ++ (C.folded_waiting ++ C.folded_later)

abbrev pub all_streamed : {R : Type 0} → Coming R → List (Batch R)
all_streamed C = C.streamed_waiting ++ C.streamed_later

-- the rows that it has built, or will have
abbrev pub base_by : {R : Type 0} → Phase → View R → Coming R → List R
base_by Emitting V C = V.built
base_by Folding V C = gathered (all_folded V C)
base_by Streaming V C = V.built
base_by Tailing V C = V.built
base_by Sealed V C = V.built
base_by Done V C = V.built

abbrev pub tails_by : {R : Type 0} → Node R → ℕ → List R → List R → List (Batch R)
tails_by v batch b ys = cond v.tails (pieces_from v.kept batch (v.rest b ys) 0) []

abbrev pub joined_by : {R : Type 0} → Node R → ℕ → List R → Coming R → List (Batch R)
joined_by v batch b C = map (whole_of v b) (all_streamed C) ++ tails_by v batch b (rows_of (all_streamed C))

abbrev pub streamed_by : {R : Type 0} → Node R → List R → Coming R → List (Batch R)
streamed_by v b C = map (remains_of v b) C.streamed_waiting ++ map (whole_of v b) C.streamed_later

-- the batches that it still gives
abbrev pub future_by : {R : Type 0} → Node R → ℕ → Phase → View R → Coming R → List (Batch R)
future_by v batch Emitting V C = V.given ++ pieces_from v.kept batch v.table V.next
future_by v batch Folding V C =
    cond v.streams (joined_by v batch (gathered (all_folded V C)) C) (tails_by v batch (gathered (all_folded V C)) (rows_of V.streamed))
future_by v batch Streaming V C =
    V.given ++ (streamed_by v V.built C ++ tails_by v batch V.built (rows_of (V.held ++ all_streamed C)))
future_by v batch Tailing V C = V.given ++ pieces_from v.kept batch (v.rest V.built (rows_of V.streamed)) V.next
future_by v batch Sealed V C = []
future_by v batch Done V C = []

module _ {R : Type 0} (P : Plan R) where
  -- what a task in flight gives, and what its worker's list will hold
  abbrev pub gives_by : Task R → Job → List (Batch R)
  gives_by t Emit = piece (P.node t.node).kept P.batch (P.node t.node).table t.number ∷ []
  gives_by t Fold = []
  gives_by t Seal = []
  gives_by t Stream = remains_of (P.node t.node) t.built t.batch ∷ []
  gives_by t Close = []
  gives_by t Tail = piece (P.node t.node).kept P.batch ((P.node t.node).rest t.built (rows_of t.streamed)) t.number ∷ []

  abbrev pub holds_by : Task R → Job → List (Batch R)
  holds_by t Emit = t.took
  holds_by t Fold = t.took ++ t.batch ∷ []
  holds_by t Seal = t.took
  holds_by t Stream = t.took ++ t.batch ∷ []
  holds_by t Close = t.took
  holds_by t Tail = t.took

  abbrev pub gives_of : Task R → List (Batch R)
  gives_of t = gives_by t t.job

  abbrev pub holds_of : Task R → List (Batch R)
  holds_of t = holds_by t t.job

  abbrev pub view : State R → ℕ → View R
  view s n =
      record {
        phase = s.phase n;
        held = gather P.workers (s.locals n) ++ flat holds_of (tasks_at P s n);
        given = flat gives_of (tasks_at P s n);
        built = s.built n;
        streamed = s.streamed n;
        next = s.next n;
      }

  -- f being what each node still gives
  abbrev pub coming : State R → (ℕ → List (Batch R)) → ℕ → Coming R
  coming s f n =
      record {
        folded_waiting = s.waiting (folds_from P n);
        folded_later = f (folds_from P n);
        streamed_waiting = s.waiting (streams_from P n);
        streamed_later = f (streams_from P n);
      }

  abbrev pub future_with : State R → (ℕ → List (Batch R)) → ℕ → List (Batch R)
  future_with s f n = future_by (P.node n) P.batch (s.phase n) (view s n) (coming s f n)

  abbrev pub base_with : State R → (ℕ → List (Batch R)) → ℕ → List R
  base_with s f n = base_by (s.phase n) (view s n) (coming s f n)

  -- what node n still gives, where it has at most k nodes below it
  unfoldable pub future : ℕ → State R → ℕ → List (Batch R)
  future zero s n = []
  future (suc k) s n = future_with s (future k s) n

  -- the rows that the sink has at the end
  abbrev pub answer : State R → List R
  answer s = base_with s (future P.sink s) P.sink
