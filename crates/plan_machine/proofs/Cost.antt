-- What each node, edge and task may still cost in entries, and that one entry spends some of it.
use Rattle.std.proofs.Common.{◌≡◌, ℕ, zero, suc, ◌+◌, ◌-◌, ◌*◌, ◌/◌, ◌≤◌, ◌≢◌, inl, inr, Bool, true, cond, ltb, List, [], length, Option, Some, None, refl, sym, ap, subst, arith, ◌∙◌, length-append}
use Rattle.std.proofs.lemmas.Bool.Decides.{leb_tells}
use Rattle.plan_machine.specs.declared.entry.Phase.{Phase}
use Rattle.plan_machine.specs.declared.entry.Phase.TheVariants.{Emitting, Folding, Streaming, Tailing, Sealed, Done}
use Rattle.plan_machine.specs.Lists.{upd, sum_to, weigh}
use Rattle.plan_machine.specs.Batch.{Batch, parts}
use Rattle.plan_machine.specs.Plan.{Plan, Node, IsNode, streams_from}
use Rattle.plan_machine.specs.State.{State, Task, tail_rows}
use Rattle.plan_machine.specs.WellFormed.{Streams, Lawful, WellFormed, IsInput}
use Rattle.plan_machine.specs.Bound.{gives}
use Rattle.plan_machine.proofs.Sums.{sum_changed}
use Rattle.plan_machine.proofs.Weigh.{weigh-append, weigh-one, same_or, upd-here, upd-else}
use Rattle.plan_machine.proofs.Same.{rows_test}
use Rattle.plan_machine.proofs.Pieces.{pieces_from, weigh-pieces_from}
use Rattle.plan_machine.proofs.Value.{view, coming, future_by, future}
use Rattle.plan_machine.proofs.Pass.{true_or_false}
use Rattle.plan_machine.proofs.Turn.{new_at, streams_input, input_edge, turned}
use Rattle.plan_machine.proofs.Flight.{ends, flying}
use Rattle.plan_machine.proofs.Moved.{Moved, turn_of, Sound}

pub sum-less : (n : ℕ) (f g : ℕ → ℕ) → ((j : ℕ) → 1 ≤ j → j ≤ n → f j ≤ g j) → sum_to n f ≤ sum_to n g
sum-less zero f g e = omega arith
sum-less (suc n) f g e =
    let r = sum-less n f g (λ j a b. e j a (omega arith)) in
    let q = e (suc n) (omega arith) (omega arith) in
    omega arith

-- no more elsewhere, and something else at a
pub sum-change : (n a : ℕ) (f g : ℕ → ℕ) → 1 ≤ a → a ≤ n → ((j : ℕ) → 1 ≤ j → j ≤ n → j ≢ a → f j ≤ g j) → sum_to n f + g a ≤ sum_to n g + f a
sum-change zero a f g l m e = absurd (omega arith)
sum-change (suc n) a f g l m e =
    elim (same_or a (suc n)) [
      | inl q ↦
          let r = sum-less n f g (λ j x y. e j x (omega arith) (λ z. absurd (omega arith))) in
          let x = ap f q in
          let y = ap g q in
          omega arith
      | inr q ↦
          let r = sum-change n a f g l (omega arith) (λ j x y. e j x (omega arith)) in
          let z = e (suc n) (omega arith) (omega arith) (λ s. q (sym s)) in
          omega arith
    ]

-- one value is changed
pub sum-upd : {A : Type 0} (n a : ℕ) (F : ℕ → A → ℕ) (w : ℕ → A) (x : A) → 1 ≤ a → a ≤ n → sum_to n (λ j. F j (upd w a x j)) + F a (w a) ≡ sum_to n (λ j. F j (w j)) + F a x
sum-upd n a F w x l m =
    let r = sum_changed n (λ j. F j (w j)) (λ j. F j (upd w a x j)) a l m (λ j ne. ap (F j) (upd-else w a x j ne)) in
    let y = ap (F a) (upd-here w a x) in
    omega arith

-- the rows of a batch, counted
abbrev pub size : {R : Type 0} → Batch R → ℕ
size b = weigh (λ _. 1) b.rows

-- how many batches a node may still begin to give: sz being the rows that it still gives, and gs the
-- batches that are still to come on the edge that it streams
abbrev pub come_by : {R : Type 0} → Node R → ℕ → Phase → ℕ → List R → ℕ → ℕ → ℕ
come_by v batch Emitting next tail sz gs = parts batch v.table - next
come_by v batch Folding next tail sz gs = cond v.streams gs 0 + sz
come_by v batch Streaming next tail sz gs = gs + cond v.cuts sz 0
come_by v batch Tailing next tail sz gs = parts batch tail - next
come_by v batch Sealed next tail sz gs = 0
come_by v batch Done next tail sz gs = 0

-- what is left of a node's life: its seal, its closing and its finish; q are the seals and closings in
-- flight there
abbrev pub stage_cost : ℕ → Phase → ℕ
stage_cost q Emitting = 1
stage_cost q Folding = cond (ltb 0 q) 3 5
stage_cost q Streaming = cond (ltb 0 q) 1 3
stage_cost q Tailing = 1
stage_cost q Sealed = 1
stage_cost q Done = 0

-- what is more for a node where more comes to it
pub come-less : {R : Type 0} (v : Node R) (batch : ℕ) (q : Phase) (next : ℕ) (tail : List R) (sz gs gs' : ℕ) → (q ≡ Folding → v.streams ≡ true → gs' ≤ gs) → (q ≡ Streaming → gs' ≤ gs) → come_by v batch q next tail sz gs' ≤ come_by v batch q next tail sz gs
come-less v batch Emitting next tail sz gs gs' f s = omega arith
come-less v batch Folding next tail sz gs gs' f s =
    elim (true_or_false v.streams) [
      | inl j ↦
          let l = f refl j in
          let a = ap (λ b. cond b gs' 0) j in
          let b = ap (λ b. cond b gs 0) j in
          omega arith
      | inr j ↦
          let a = ap (λ b. cond b gs' 0) j in
          let b = ap (λ b. cond b gs 0) j in
          omega arith
    ]
come-less v batch Streaming next tail sz gs gs' f s = let l = s refl in omega arith
come-less v batch Tailing next tail sz gs gs' f s = omega arith
come-less v batch Sealed next tail sz gs gs' f s = omega arith
come-less v batch Done next tail sz gs gs' f s = omega arith

-- no more batches than rows
times_more : (b n : ℕ) → 1 ≤ b → n ≤ b * n
times_more b zero l = omega arith
times_more b (suc n) l = let r = times_more b n l in omega arith

times_less : (b m n : ℕ) → m ≤ n → b * m ≤ b * n
times_less b zero n l = omega arith
times_less b (suc m) zero l = absurd (omega arith)
times_less b (suc m) (suc n) l = let r = times_less b m n (omega arith) in omega arith

pub parts_few : (batch n : ℕ) → 1 ≤ batch → (n + (batch - 1)) / batch ≤ n
parts_few batch n l =
    elim (leb_tells ((n + (batch - 1)) / batch) n) [
      | inl e ↦ e.1
      | inr e ↦
          let a = times_less batch (n + 1) ((n + (batch - 1)) / batch) (let z = e.1 in omega arith) in
          let b = times_more batch n l in
          absurd (omega arith)
    ]

module _ {R : Type 0} (P : Plan R) where
  -- the tasks in flight at a node that give a batch, and the seals and closings
  abbrev pub outs : State R → ℕ → ℕ
  outs s n = weigh (λ t. gives t.job) (flying P s.tasks n)

  abbrev pub endings : State R → ℕ → ℕ
  endings s n = weigh (λ t. ends t.job) (flying P s.tasks n)

  abbrev pub come_at : State R → ℕ → ℕ → ℕ → ℕ
  come_at s n sz g = come_by (P.node n) P.batch (s.phase n) (s.next n) (tail_rows P s n) sz (length (s.waiting (streams_from P n)) + g)

  -- how many batches node n may still begin to give
  unfoldable pub to_come : ℕ → State R → ℕ → ℕ
  to_come zero s n = 0
  to_come (suc k) s n = come_at s n (weigh size (future P (suc k) s n)) (to_come k s (streams_from P n) + outs s (streams_from P n))

  abbrev pub stage_of : State R → ℕ → ℕ
  stage_of s n = stage_cost (endings s n) (s.phase n)

  -- what the batches that wait on an edge cost, and its pauses
  abbrev pub edge_by : Bool → ℕ → ℕ
  edge_by paused n = 2 * n + cond paused 1 (cond (ltb P.pause n) 2 0)

  abbrev pub edge_of : State R → ℕ → ℕ
  edge_of s e = edge_by (s.paused e) (length (s.waiting e))

  abbrev pub edges_cost : State R → ℕ
  edges_cost s = sum_to P.sink (edge_of s)

  -- what a task in flight still costs
  abbrev pub task_cost : Option (Task R) → ℕ
  task_cost None = 0
  task_cost (Some t) = 8 * gives t.job + 1

  abbrev pub tasks_cost : (ℕ → Option (Task R)) → ℕ
  tasks_cost ts = sum_to P.workers (λ w. task_cost (ts w))

  abbrev pub nodes_cost : State R → ℕ
  nodes_cost s = sum_to P.sink (λ n. 10 * to_come P.sink s n + stage_of s n)

  abbrev pub total : State R → ℕ
  total s = nodes_cost s + (edges_cost s + tasks_cost s.tasks)

module _ {R : Type 0} (P : Plan R) (L : Lawful P) (W : WellFormed P) where
  -- What an entry that moves one node spends: `more` for a claim that begins to give a batch.
  pub record Spends (s s' : State R) (at : ℕ) (new : List (Batch R)) : Type 0 where
    pub more : ℕ
    pub come : (sz sz' g g' : ℕ) → sz ≡ weigh size new + sz' → (Streams (P.node at) → g' ≤ g) → (s'.phase at ≡ Tailing → s'.next at ≡ 0 → parts P.batch (tail_rows P s' at) ≤ sz') → come_at P s' at sz' g' + more ≤ come_at P s at sz g
    pub goes : outs P s' at + length new ≤ outs P s at + more
    pub pays : (stage_of P s' at + (edges_cost P s' + tasks_cost P s'.tasks)) + 1 ≤ (stage_of P s at + (edges_cost P s + tasks_cost P s.tasks)) + 10 * more

  -- a node that has yet to tail gives a row for each batch
  tail-size : (s : State R) (n k : ℕ) → s.phase n ≡ Tailing → s.next n ≡ 0 → parts P.batch (tail_rows P s n) ≤ weigh size (future P (suc k) s n)
  unfolding future
  tail-size s n k p z =
      let v : Node R = P.node n in
      let rows : List R = tail_rows P s n in
      let a = parts_few P.batch (length rows) W.batch in
      let b = weigh-pieces_from v.kept P.batch rows W.batch (λ _. 1) in
      let c = weigh-one rows in
      let d = ap (λ q. weigh size (future_by v P.batch q (view P s n) (coming P s (future P k s) n))) p in
      let e = weigh-append size (view P s n).given (pieces_from v.kept P.batch rows (s.next n)) in
      let f = ap (λ j. weigh size (pieces_from v.kept P.batch rows j)) z in
      omega arith

  module _ (s s' : State R) (a : ℕ) (new : List (Batch R)) (S : Sound P L W s) (M : Moved P L W s s' a new) (X : Spends s s' a new) where
    new-length : (e : ℕ) → length (new_at a new e) ≤ length new
    new-length e = elim (same_or e a) [ inl q ↦ (let z = ap length (ap (new_at a new) q ∙ upd-here (λ _. []) a new) in omega arith) | inr q ↦ (let z = ap length (upd-else (λ _. []) a new e q) in omega arith) ]

    -- the rows that a node still gives are those that it gave, but for new ones
    sizes : (k n : ℕ) → IsNode P n → n ≤ k → weigh size (future P k s n) ≡ weigh size (new_at a new n) + weigh size (future P k s' n)
    sizes k n i l =
        let t = turned P L W s s' a new S.fit.started (turn_of P L W s s' a new M) S.distinct k n i l size (rows_test (P.node n).kept (λ _. 1)) in
        let w = weigh-append size (new_at a new n) (future P k s' n) in
        omega arith

    outs-same : (n : ℕ) → IsNode P n → n ≢ a → outs P s' n ≡ outs P s n
    outs-same n i ne = ap (weigh (λ t. gives t.job)) (sym (M.around.others n i ne).flight)

    endings-same : (n : ℕ) → IsNode P n → n ≢ a → endings P s' n ≡ endings P s n
    endings-same n i ne = ap (weigh (λ t. ends t.job)) (sym (M.around.others n i ne).flight)

    stage-same : (n : ℕ) → IsNode P n → n ≢ a → stage_of P s' n ≡ stage_of P s n
    stage-same n i ne = let x = endings-same n i ne in let y = sym (M.around.others n i ne).phase in cc

    come_same : (n : ℕ) → IsNode P n → n ≢ a → (sz g : ℕ) (ws : List (Batch R)) → come_by (P.node n) P.batch (s'.phase n) (s'.next n) (tail_rows P s' n) sz (length ws + g) ≡ come_by (P.node n) P.batch (s.phase n) (s.next n) (tail_rows P s n) sz (length ws + g)
    come_same n i ne sz g ws =
        let o = M.around.others n i ne in
        let p = sym o.phase in
        let x = sym o.next in
        let b = sym o.built in
        let t = sym o.streamed in
        let u : tail_rows P s' n ≡ tail_rows P s n = cc in
        cc

    -- one for node a, and nothing for another
    abbrev extra : ℕ → ℕ
    extra n = upd (λ _. 0) a X.more n

    supply : (n e : ℕ) → IsNode P n → IsInput P n e → n ≢ a → (c c' : ℕ) → c' + extra e ≤ c → length (s'.waiting e) + (c' + outs P s' e) ≤ length (s.waiting e) + (c + outs P s e)
    supply n e i p ne c c' l =
        let u = p.user in
        let ie : IsNode P e = (p.node, (let z = p.before in let y = i.1 in omega arith)) in
        let w = ap length (M.around.added e (input_edge P W n e i p) (λ q. ne (sym u ∙ q))) in
        let w' = length-append (s.waiting e) (new_at a new e) in
        elim (same_or e a) [
          | inl q ↦
              let x = new-length e in
              let y = X.goes in
              let z = ap (outs P s') q in
              let z' = ap (outs P s) q in
              let m = ap extra q ∙ upd-here (λ _. 0) a X.more in
              omega arith
          | inr q ↦
              let x = ap length (upd-else (λ _. []) a new e q) in
              let y = outs-same e ie q in
              omega arith
        ]

    abbrev Less : ℕ → ℕ → Type 0
    Less k n =
        IsNode P n → n ≤ suc k
        → come_at P s' n (weigh size (future P (suc k) s' n)) (to_come P k s' (streams_from P n) + outs P s' (streams_from P n)) + extra n
        ≤ come_at P s n (weigh size (future P (suc k) s n)) (to_come P k s (streams_from P n) + outs P s (streams_from P n))

    module _ (k : ℕ) (h : (e : ℕ) → IsNode P e → e ≤ k → to_come P k s' e + extra e ≤ to_come P k s e) where
      -- what comes to another node
      supply-at : (n : ℕ) → IsNode P n → n ≤ suc k → n ≢ a → Streams (P.node n) → length (s'.waiting (streams_from P n)) + (to_come P k s' (streams_from P n) + outs P s' (streams_from P n)) ≤ length (s.waiting (streams_from P n)) + (to_come P k s (streams_from P n) + outs P s (streams_from P n))
      supply-at n i l ne st =
          let p = streams_input P W n i st in
          let ie : IsNode P (streams_from P n) = (p.node, (let z = p.before in let y = i.1 in omega arith)) in
          supply n (streams_from P n) i p ne (to_come P k s (streams_from P n)) (to_come P k s' (streams_from P n)) (h (streams_from P n) ie (let z = p.before in omega arith))

      come-else : (n : ℕ) → n ≢ a → Less k n
      come-else n ne i l =
          let e : ℕ = streams_from P n in
          let g' : ℕ = to_come P k s' e + outs P s' e in
          let sz : ℕ = weigh size (future P (suc k) s n) in
          let sz' : ℕ = weigh size (future P (suc k) s' n) in
          let z = sizes (suc k) n i l in
          let z' = ap (weigh size) (upd-else (λ _. []) a new n ne) in
          let q : sz' ≡ sz = omega arith in
          let x = come_same n i ne sz' g' (s'.waiting e) in
          let y = ap (λ j. come_by (P.node n) P.batch (s.phase n) (s.next n) (tail_rows P s n) j (length (s'.waiting e) + g')) q in
          let m = come-less (P.node n) P.batch (s.phase n) (s.next n) (tail_rows P s n) sz (length (s.waiting e) + (to_come P k s e + outs P s e)) (length (s'.waiting e) + g')
          (λ p j. supply-at n i l ne (inr (S.fit.started.folding n i p, j))) (λ p. supply-at n i l ne (S.fit.started.streaming n i p)) in
          let u = upd-else (λ _. 0) a X.more n ne in
          omega arith

      come-here : Less k a
      come-here i l =
          let e : ℕ = streams_from P a in
          let z = sizes (suc k) a i l in
          let z' = ap (weigh size) (upd-here (λ _. []) a new) in
          let u = upd-here (λ _. 0) a X.more in
          let c = X.come (weigh size (future P (suc k) s a)) (weigh size (future P (suc k) s' a)) (to_come P k s e + outs P s e) (to_come P k s' e + outs P s' e) (omega arith)
          (λ st.
          let p = streams_input P W a i st in
          let ie : IsNode P e = (p.node, (let z = p.before in let y = i.1 in omega arith)) in
          let y = h e ie (let z = p.before in omega arith) in
          let o = outs-same e ie (λ q. let z = p.before in absurd (omega arith)) in
          omega arith)
          (λ p n. tail-size s' a k p n) in
          omega arith

      come-level : (n : ℕ) → Less k n
      come-level n = elim (same_or n a) [ inl q ↦ subst (Less k) (sym q) come-here | inr q ↦ come-else n q ]

    come-turned : (k n : ℕ) → IsNode P n → n ≤ k → to_come P k s' n + extra n ≤ to_come P k s n
    unfolding to_come
    come-turned zero n i l = absurd (let z = i.0 in omega arith)
    come-turned (suc k) n i l = come-level k (come-turned k) n i l

    -- the whole cost falls
    pub spent : IsNode P a → total P s' + 1 ≤ total P s
    spent i =
        let f : ℕ → ℕ = λ n. 10 * to_come P P.sink s' n + stage_of P s' n in
        let g : ℕ → ℕ = λ n. 10 * to_come P P.sink s n + stage_of P s n in
        let c = sum-change P.sink a f g i.0 i.1 (λ j x y ne.
        let d = come-turned P.sink j (x, y) y in
        let e = stage-same j (x, y) ne in
        omega arith) in
        let d = come-turned P.sink a i i.1 in
        let u = upd-here (λ _. 0) a X.more in
        let p = X.pays in
        omega arith
