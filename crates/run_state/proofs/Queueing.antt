-- Batches that are put on an edge, and the room for them.
use Rattle.std.proofs.Common.{◌≡◌, ℕ, zero, suc, ◌+◌, ◌-◌, ◌^◌, ◌<◌, ◌≤◌, max, Bool, List, [], ◌∷◌, ◌++◌, length, map, sym, ap, subst, ◌∙◌, ◌⊎◌, inl, inr, arith, slice_index_or, slice_set}
use Rattle.std.proofs.lemmas.List.{length-append, length-map, map-append, get_or_append_left, get_or_push}
use Rattle.std.proofs.lemmas.Bool.{cases_lt}
use Rattle.std.specs.VecDeque.{deque_len, deque_capacity}
use Rattle.scalar_value.specs.declared.value.Value.{Value}
use Rattle.scalar_value.specs.declared.value.ColType.{ColType}
use Rattle.backpressure.specs.Edges.{EdgeValue}
use Rattle.plan_machine.specs.declared.entry.Entry.{Entry}
use Rattle.plan_machine.specs.Lists.{upd}
use Rattle.plan_machine.specs.Batch.{Batch}
use Rattle.plan_machine.specs.Plan.{Plan as MachinePlan, IsEdge}
use Rattle.plan_machine.specs.State.{State, opening}
use Rattle.plan_machine.specs.Enabled.{Enabled}
use Rattle.plan_machine.specs.After.{after}
use Rattle.plan_machine.specs.History.{IsHistory, state_after}
use Rattle.plan_machine.proofs.Weigh.{upd-here, upd-else}
use Rattle.plan_machine.proofs.DriverHistory.{grows}
use Rattle.plan_machine.proofs.BoundLoad.{bounded_history}
use Rattle.task_work.specs.declared.work.Waiting.{Waiting}
use Rattle.plan_store.specs.declared.queue.Queue.{Queue}
use Rattle.run_state.specs.Stored.{Held, QueueIs, IsWaiting, waiting_item}
use Rattle.plan_store.specs.Putting.{IsGrown, HasRoom}
use Rattle.run_state.proofs.Held.{held_set}

module _ (columns : List ColType) (may : Bool) where
  abbrev pub All : List Waiting → Type 0
  All xs = (k : ℕ) (d : Waiting) → k < length xs → IsWaiting columns may (slice_index_or xs k d)

  each_back : (xs : List Waiting) (w : Waiting) → All xs → IsWaiting columns may w → All (xs ++ w ∷ [])
  each_back xs w h is k d within = by (cases_lt k (length xs))
    where
      by : (k < length xs) ⊎ (length xs ≤ k) → IsWaiting columns may (slice_index_or (xs ++ w ∷ []) k d)
      by (inl lt) = subst (λ x. IsWaiting columns may x) (sym (get_or_append_left xs (w ∷ []) d k lt)) (h k d lt)
      by (inr le) = let l = length-append xs (w ∷ []) in subst (λ x. IsWaiting columns may x) (sym (get_or_push xs w d k (omega arith))) is

  each_front : (xs : List Waiting) (w : Waiting) → All xs → IsWaiting columns may w → All (w ∷ xs)
  each_front xs w h is zero d within = is
  each_front xs w h is (suc k) d within = h k d (omega arith)

  queue_back : (places : ℕ) (waiting : List (Batch (List Value))) (paused : Bool) (most : ℕ) (q q' : Queue) (w : Waiting) (b : Batch (List Value))
      → QueueIs columns may places waiting paused most q → IsGrown q (q.waiting.items ++ w ∷ []) q' → IsWaiting columns may w → waiting_item w ≡ b
      → QueueIs columns may places (waiting ++ b ∷ []) paused (max most (length (waiting ++ b ∷ []))) q'
  queue_back places waiting paused most q q' w b h grown is item =
      let one = length-append waiting (b ∷ []) in
      let count = h.count in
      record {
        items = ap (map waiting_item) grown.items_are ∙ map-append waiting_item q.waiting.items (w ∷ []) ∙ ap (λ xs. xs ++ waiting_item w ∷ []) h.items ∙ ap (λ x. waiting ++ x ∷ []) item;
        each = subst (λ xs. All xs) (sym grown.items_are) (each_back q.waiting.items w h.each is);
        room = let r = h.room in let same = grown.room in omega arith;
        count = ap (λ (e : EdgeValue). e.waiting) grown.edge ∙ (let m : q.edge.waiting + 1 ≡ length (waiting ++ b ∷ []) = omega arith in m);
        is_paused = ap (λ (e : EdgeValue). e.paused) grown.edge ∙ h.is_paused;
        is_peak = ap (λ (e : EdgeValue). e.peak) grown.edge ∙ (let p = h.is_peak in let m : max q.edge.peak (q.edge.waiting + 1) ≡ max most (length (waiting ++ b ∷ [])) = omega arith in m);
      }

  queue_front : (places : ℕ) (waiting : List (Batch (List Value))) (paused : Bool) (most : ℕ) (q q' : Queue) (w : Waiting) (b : Batch (List Value))
      → QueueIs columns may places waiting paused most q → IsGrown q (w ∷ q.waiting.items) q' → IsWaiting columns may w → waiting_item w ≡ b
      → QueueIs columns may places (b ∷ waiting) paused (max most (length (b ∷ waiting))) q'
  queue_front places waiting paused most q q' w b h grown is item =
      let count = h.count in
      record {
        items = ap (map waiting_item) grown.items_are ∙ ap (λ xs. waiting_item w ∷ xs) h.items ∙ ap (λ x. x ∷ waiting) item;
        each = subst (λ xs. All xs) (sym grown.items_are) (each_front q.waiting.items w h.each is);
        room = let r = h.room in let same = grown.room in omega arith;
        count = ap (λ (e : EdgeValue). e.waiting) grown.edge ∙ (let m : q.edge.waiting + 1 ≡ length (b ∷ waiting) = omega arith in m);
        is_paused = ap (λ (e : EdgeValue). e.paused) grown.edge ∙ h.is_paused;
        is_peak = ap (λ (e : EdgeValue). e.peak) grown.edge ∙ (let p = h.is_peak in let m : max q.edge.peak (q.edge.waiting + 1) ≡ max most (length (b ∷ waiting)) = omega arith in m);
      }

-- the queues of all edges, where one has one batch more
module _ (columns : ℕ → List ColType) (may : ℕ → Bool) (places : ℕ) (paused : ℕ → Bool) where
  abbrev pub Queues : (ℕ → List (Batch (List Value))) → (ℕ → ℕ) → List Queue → Type 0
  Queues waiting most queues = Held (λ n q. QueueIs (columns n) (may n) places (waiting n) (paused n) (most n) q) queues

  queues_put : (waiting : ℕ → List (Batch (List Value))) (most : ℕ → ℕ) (queues : List Queue) (p : ℕ) (list : List (Batch (List Value))) (q' : Queue)
      → ((e : ℕ) → most e ≡ max (most e) (length (waiting e)))
      → Queues waiting most queues
      → QueueIs (columns (suc p)) (may (suc p)) places list (paused (suc p)) (max (most (suc p)) (length list)) q'
      → Queues (upd waiting (suc p) list) (λ e. max (most e) (length (upd waiting (suc p) list e))) (slice_set queues p q')
  queues_put waiting most queues p list q' covers h is =
      held_set (λ n q. QueueIs (columns n) (may n) places (waiting n) (paused n) (most n) q)
      (λ n q. QueueIs (columns n) (may n) places (upd waiting (suc p) list n) (paused n) (max (most n) (length (upd waiting (suc p) list n))) q) queues p q' h
      (subst (λ xs. QueueIs (columns (suc p)) (may (suc p)) places xs (paused (suc p)) (max (most (suc p)) (length xs)) q') (sym (upd-here waiting (suc p) list)) is)
      (λ n q ne old.
      subst (λ xs. QueueIs (columns n) (may n) places xs (paused n) (max (most n) (length xs)) q) (sym (upd-else waiting (suc p) list n ne))
      (subst (λ m. QueueIs (columns n) (may n) places (waiting n) (paused n) m q) (covers n) old))

  pub queues_back : (waiting : ℕ → List (Batch (List Value))) (most : ℕ → ℕ) (queues : List Queue) (p : ℕ) (d q' : Queue) (w : Waiting) (b : Batch (List Value))
      → p < length queues → ((e : ℕ) → most e ≡ max (most e) (length (waiting e)))
      → Queues waiting most queues
      → IsGrown (slice_index_or queues p d) ((slice_index_or queues p d).waiting.items ++ w ∷ []) q'
      → IsWaiting (columns (suc p)) (may (suc p)) w → waiting_item w ≡ b
      → Queues (upd waiting (suc p) (waiting (suc p) ++ b ∷ [])) (λ e. max (most e) (length (upd waiting (suc p) (waiting (suc p) ++ b ∷ []) e))) (slice_set queues p q')
  queues_back waiting most queues p d q' w b within covers h grown is item =
      queues_put waiting most queues p (waiting (suc p) ++ b ∷ []) q' covers h
      (queue_back (columns (suc p)) (may (suc p)) places (waiting (suc p)) (paused (suc p)) (most (suc p)) (slice_index_or queues p d) q' w b (h p d within) grown is item)

  pub queues_front : (waiting : ℕ → List (Batch (List Value))) (most : ℕ → ℕ) (queues : List Queue) (p : ℕ) (d q' : Queue) (w : Waiting) (b : Batch (List Value))
      → p < length queues → ((e : ℕ) → most e ≡ max (most e) (length (waiting e)))
      → Queues waiting most queues
      → IsGrown (slice_index_or queues p d) (w ∷ (slice_index_or queues p d).waiting.items) q'
      → IsWaiting (columns (suc p)) (may (suc p)) w → waiting_item w ≡ b
      → Queues (upd waiting (suc p) (b ∷ waiting (suc p))) (λ e. max (most e) (length (upd waiting (suc p) (b ∷ waiting (suc p)) e))) (slice_set queues p q')
  queues_front waiting most queues p d q' w b within covers h grown is item =
      queues_put waiting most queues p (b ∷ waiting (suc p)) q' covers h
      (queue_front (columns (suc p)) (may (suc p)) places (waiting (suc p)) (paused (suc p)) (most (suc p)) (slice_index_or queues p d) q' w b (h p d within) grown is item)

  -- a queue on which fewer wait than it has places
  pub room_at : (waiting : ℕ → List (Batch (List Value))) (most : ℕ → ℕ) (queues : List Queue) (p : ℕ)
      → p < length queues → Queues waiting most queues → length (waiting (suc p)) < places → places ≤ 1088 → HasRoom queues (suc p)
  room_at waiting most queues p within h fewer small =
      let at : suc p - 1 ≡ p = omega arith in
      record {
        edges = omega arith;
        place = omega arith;
        room = λ d.
            let q = h p d within in
            let a = q.room in
            let b = ap (λ (xs : List (Batch (List Value))). length xs) q.items in
            let c = length-map (slice_index_or queues p d).waiting.items waiting_item in
            let e = (slice_index_or queues p d).waiting.ok.0 in
            subst (λ k. deque_len (slice_index_or queues k d).waiting < deque_capacity (slice_index_or queues k d).waiting) (sym at) (omega arith);
        count = λ d. let c = (h p d within).count in subst (λ k. (slice_index_or queues k d).edge.waiting < 2 ^ 32 - 1) (sym at) (omega arith);
      }

-- What a delivery puts on an edge has room there.
pub fewer_wait : (P : MachinePlan (List Value)) (es : List Entry) (x : Entry) (e : ℕ) → IsHistory P es → Enabled P (state_after P es) x → IsEdge P e
    → length ((state_after P es).waiting e) + 1 ≤ length ((after P (state_after P es) x).waiting e)
    → length ((state_after P es).waiting e) < P.pause + P.workers
fewer_wait P es x e legal can edge more =
    let gr = grows P es x (opening P) in
    let bound = (bounded_history P (es ++ x ∷ []) (gr.legal legal can) e edge).0 in
    let same = ap (λ (s : State (List Value)). length (s.waiting e)) gr.state in
    omega arith
