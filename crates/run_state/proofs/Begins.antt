-- What is stored as a run begins stands for the opening state.
use Rattle.std.proofs.Common.{◌≡◌, ℕ, zero, suc, ◌+◌, ◌-◌, ◌≤◌, Bool, true, false, cond, List, [], ◌∷◌, length, map, Option, None, slice_index_or, refl, sym, ap, subst, ◌∙◌, arith}
use Rattle.scalar_value.specs.declared.value.Value.{Value}
use Rattle.row_table.specs.declared.field.Field.{Field}
use Rattle.backpressure.specs.Edges.{quiet}
use Rattle.std.specs.VecDeque.{deque_capacity}
use Rattle.plan_machine.specs.declared.entry.Phase.TheVariants.{Emitting, Folding, Streaming, Tailing}
use Rattle.plan_machine.specs.declared.shape.OpShape.{OpShape}
use Rattle.plan_machine.specs.Phases.{first_phase_of}
use Rattle.plan_machine.specs.Lists.{at_or, sum_to}
use Rattle.plan_machine.specs.Batch.{parts}
use Rattle.plan_machine.specs.State.{Task, tasks_at, on_node, opening}
use Rattle.plan_machine.proofs.Weigh.{gather-nil}
use Rattle.plan_nodes.specs.declared.node.Node.{Node}
use Rattle.plan_nodes.specs.declared.node.NodeKind.{NodeKind}
use Rattle.plan_nodes.specs.declared.node.NodeKind.TheVariants.{Source, Filter, Project, Longer, Aggregate, HashJoin, OrderBy, Fetch, Window, Sink}
use Rattle.plan_nodes.specs.Kinds.{kind_meaning, is_source}
use Rattle.plan_nodes.specs.Plans.{node_at, machine_node_at, meaning_at, input_schemas, tables_of}
use Rattle.task_work.specs.declared.work.Waiting.{Waiting}
use Rattle.plan_store.specs.declared.queue.Queue.{Queue}
use Rattle.plan_store.specs.declared.stage.Stage.{Stage}
use Rattle.plan_store.specs.declared.stage.NodeInfo.{NodeInfo}
use Rattle.plan_store.specs.declared.stage.Flight.{Flight}
use Rattle.plan_store.specs.Told.{Given, plan_of, site_of}
use Rattle.plan_store.specs.Openings.{info_of, stage_of}
use Rattle.run_state.specs.Stored.{InfoIs, StageIs, QueueIs, SeatIs, in_flight, goes_on, waiting_item}

-- a node by its number, as the element at its place
pub at_is : {A : Type 0} (d : A) (k : ℕ) (xs : List A) → at_or d k xs ≡ slice_index_or xs k d
at_is d k [] = refl
at_is d zero (x ∷ xs) = refl
at_is d (suc k) (x ∷ xs) = at_is d k xs

-- the shape hangs on the kind alone
pub shape_same : (kind : NodeKind) (inputs : List (List Field)) (batch : ℕ) → (kind_meaning kind [] 1).shape ≡ (kind_meaning kind inputs batch).shape
shape_same (Source name) inputs batch = refl
shape_same (Filter x) inputs batch = refl
shape_same (Project xs) inputs batch = refl
shape_same (Longer s) inputs batch = refl
shape_same (Aggregate s) inputs batch = refl
shape_same (HashJoin j) inputs batch = refl
shape_same (OrderBy ks) inputs batch = refl
shape_same (Fetch offset count) inputs batch = refl
shape_same (Window s) inputs batch = refl
shape_same Sink inputs batch = refl

-- a node that begins Emitting is a source, and none begins Tailing
emitting_source : (b : Bool) (s : OpShape) → first_phase_of b s ≡ Emitting → b ≡ true
emitting_source true s e = refl
emitting_source false s e = by_folds s.folds e
  where
    by_folds : (f : Bool) → cond f Folding Streaming ≡ Emitting → false ≡ true
    by_folds true e = cc
    by_folds false e = cc

none_tailing : (b : Bool) (s : OpShape) → first_phase_of b s ≡ Tailing → ⊥
none_tailing true s e = cc
none_tailing false s e = by_folds s.folds e
  where
    by_folds : (f : Bool) → cond f Folding Streaming ≡ Tailing → ⊥
    by_folds true e = cc
    by_folds false e = cc

pub none_in_flight : (n : ℕ) → sum_to n (λ w. in_flight None) ≡ 0
none_in_flight zero = refl
none_in_flight (suc n) = let h = none_in_flight n in omega arith

module _ (g : Given) where
  abbrev v_at : ℕ → Node
  v_at k = node_at g.nodes (suc k)

  shape_at : (k : ℕ) → (kind_meaning (v_at k).kind [] 1).shape ≡ (meaning_at g.nodes g.pace.batch (suc k)).shape
  shape_at k = shape_same (v_at k).kind (input_schemas g.nodes (v_at k)) g.pace.batch

  pub info_opens : (k : ℕ) (i : NodeInfo) → i ≡ info_of g.nodes (v_at k) (suc k) → InfoIs (plan_of g) (site_of g (suc k)) (suc k) i
  unfolding machine_node_at site_of
  info_opens k i e =
      subst (λ j. InfoIs (plan_of g) (site_of g (suc k)) (suc k) j) (sym e)
      record {
        source = refl;
        shape = shape_at k;
        start = ap (λ (s : OpShape). first_phase_of (is_source (v_at k).kind) s) (sym (shape_at k));
        streams = ap (λ (s : OpShape). s.streams) (sym (shape_at k));
        tails = ap (λ (s : OpShape). s.tails) (sym (shape_at k));
        kept = refl;
        kept_site = refl;
        first = refl;
        second = refl;
        user = refl;
      }

  no_tasks : (n : ℕ) → length (tasks_at (plan_of g) (opening (plan_of g)) n) ≡ 0
  no_tasks n = ap (λ (ts : List (Task (List Value))). length ts) (gather-nil (plan_of g).workers (λ w. on_node (plan_of g) n None) (λ _ _ _. refl))

  pub stage_opens : (k : ℕ) (st : Stage) → st ≡ stage_of (v_at k) g.pace.batch (at_or [] k (tables_of g.nodes g.tables))
      → StageIs (plan_of g) (suc k) ((opening (plan_of g)).phase (suc k)) 0 [] [] (length (tasks_at (plan_of g) (opening (plan_of g)) (suc k))) st
  unfolding machine_node_at
  stage_opens k st e =
      let began : st.phase ≡ first_phase_of (is_source (v_at k).kind) (meaning_at g.nodes g.pace.batch (suc k)).shape =
      ap (λ (x : Stage). x.phase) e ∙ ap (λ (s : OpShape). first_phase_of (is_source (v_at k).kind) s) (shape_at k) in
      record {
        is_phase = began;
        is_next = ap (λ (x : Stage). x.next) e;
        emits = λ p.
            let source = emitting_source (is_source (v_at k).kind) (meaning_at g.nodes g.pace.batch (suc k)).shape p in
            ap (λ (x : Stage). x.count) e ∙ (ap (λ b. cond b (parts g.pace.batch (at_or [] k (tables_of g.nodes g.tables))) 0) source ∙ ap (λ j. parts g.pace.batch (at_or [] j (tables_of g.nodes g.tables))) (let j : k ≡ suc k - 1 = omega arith in j));
        ends = λ p. absurd (none_tailing (is_source (v_at k).kind) (meaning_at g.nodes g.pace.batch (suc k)).shape p);
        busy = ap (λ (x : Stage). x.busy) e ∙ sym (no_tasks (suc k));
      }

  pub queue_opens : (n : ℕ) (q : Queue) → q.waiting.items ≡ [] → (plan_of g).pause + (plan_of g).workers ≤ deque_capacity q.waiting → q.edge ≡ quiet
      → QueueIs (site_of g n).columns (goes_on (plan_of g) n) ((plan_of g).pause + (plan_of g).workers) [] false 0 q
  queue_opens n q none room still =
      record {
        items = ap (λ ws. map waiting_item ws) none;
        each = λ k d lt. absurd (let empty : length q.waiting.items ≡ 0 = ap (λ (ws : List Waiting). length ws) none in let no : ⊥ = omega arith in no);
        room = room;
        count = ap (λ x. x.waiting) still;
        is_paused = ap (λ x. x.paused) still;
        is_peak = ap (λ x. x.peak) still;
      }

  pub seat_opens : (f : Option Flight) → f ≡ None → SeatIs None f
  seat_opens f e = subst (λ x. SeatIs None x) (sym e) tt
