-- No edge is loaded with more than `pause` and one for each worker.
use Rattle.std.proofs.Common.{◌≡◌, ℕ, zero, suc, ◌+◌, ◌<◌, ◌≤◌, Bool, true, false, cond, nat_eq, nat_lt, ◌⊎◌, ◌&&◌, ◌||◌, List, [], ◌∷◌, ◌++◌, length, inl, inr, refl, sym, ap, ◌∙◌, eq-eqb, ne_eqb, arith, subst, length-append, Option, Some, None}
use Rattle.std.proofs.lemmas.Bool.{cases_eq, cases_lt}
use Rattle.plan_machine.specs.declared.entry.Job.{Job}
use Rattle.plan_machine.specs.declared.entry.Job.TheVariants.{Emit, Fold, Seal, Stream, Close, Tail}
use Rattle.plan_machine.specs.declared.entry.Entry.{Entry}
use Rattle.plan_machine.specs.declared.entry.Entry.TheVariants.{Claim, Deliver, Pause, Resume, Finish, Stop, Fail}
use Rattle.plan_machine.specs.Lists.{upd, at_or, without, sum_to, gather}
use Rattle.plan_machine.specs.Batch.{Batch, blank, piece, rows_of}
use Rattle.plan_machine.specs.Plan.{Plan, IsEdge, IsWorker, folds_from, streams_from}
use Rattle.plan_machine.specs.State.{State, Task, opening}
use Rattle.plan_machine.specs.Enabled.{Enabled, CanDo, Ready}
use Rattle.plan_machine.specs.After.{after, task_of, sent, left_of, below, delivered, landed, back, is_done, claimed, stopped}
use Rattle.plan_machine.specs.History.{replay, IsLegal, peak, IsHistory, state_after}
use Rattle.plan_machine.specs.Bound.{gives, takes, load_of, load}
use Rattle.plan_machine.proofs.Weigh.{upd-here, upd-else}
use Rattle.plan_machine.proofs.Sums.{sum_ones, sum_changed}

pub without-length : {A : Type 0} (p : ℕ) (xs : List A) → p < length xs → length (without p xs) + 1 ≡ length xs
without-length p [] h = absurd (omega arith)
without-length zero (x ∷ xs) h = omega arith
without-length (suc p) (x ∷ xs) h = let a = without-length p xs (omega arith) in omega arith

-- an element taken from the list at k, or put behind it
pub taken-length : {A : Type 0} (f : ℕ → List A) (k p e : ℕ) → p < length (f k) → length (upd f k (without p (f k)) e) + cond (nat_eq k e) 1 0 ≡ length (f e)
taken-length f k p e h = go (cases_eq e k)
  where
    go : (e ≡ k) ⊎ (e ≡ k → ⊥) → length (upd f k (without p (f k)) e) + cond (nat_eq k e) 1 0 ≡ length (f e)
    go (inl q) = subst (λ i. length (upd f k (without p (f k)) i) + cond (nat_eq k i) 1 0 ≡ length (f i)) (sym q) (rw (upd-here, eq-eqb k k refl) (without-length p (f k) h))
    go (inr ne) = rw (upd-else f k (without p (f k)) e ne, ne_eqb k e (λ d. ne (sym d))) (omega arith)

pub put-length : {A : Type 0} (f : ℕ → List A) (k e : ℕ) (x : A) → length (upd f k (f k ++ x ∷ []) e) ≡ length (f e) + cond (nat_eq k e) 1 0
put-length f k e x = go (cases_eq e k)
  where
    go : (e ≡ k) ⊎ (e ≡ k → ⊥) → length (upd f k (f k ++ x ∷ []) e) ≡ length (f e) + cond (nat_eq k e) 1 0
    go (inl q) = subst (λ i. length (upd f k (f k ++ x ∷ []) i) ≡ length (f i) + cond (nat_eq k i) 1 0) (sym q) (rw (upd-here, eq-eqb k k refl) (let a = length-append (f k) (x ∷ []) in omega arith))
    go (inr ne) = rw (upd-else f k (f k ++ x ∷ []) e ne, ne_eqb k e (λ d. ne (sym d))) (omega arith)

gives_one : (job : Job) → gives job ≤ 1
gives_one Emit = omega arith
gives_one Fold = omega arith
gives_one Seal = omega arith
gives_one Stream = omega arith
gives_one Close = omega arith
gives_one Tail = omega arith

cond_one : (b : Bool) (m n : ℕ) → m ≤ 1 → n ≤ 1 → cond b m n ≤ 1
cond_one true m n p q = p
cond_one false m n p q = q

one_or_none : {A : Type 0} (b : Bool) (x : A) → length (cond b (x ∷ []) []) ≤ 1
one_or_none true x = omega arith
one_or_none false x = omega arith

module _ {R : Type 0} (P : Plan R) where
  takes_one : (e n : ℕ) (job : Job) → takes P e n job ≤ 1
  takes_one e n Emit = omega arith
  takes_one e n Fold = cond_one (nat_eq (folds_from P n) e) 1 0 (omega arith) (omega arith)
  takes_one e n Seal = omega arith
  takes_one e n Stream = cond_one (nat_eq (streams_from P n) e) 1 0 (omega arith) (omega arith)
  takes_one e n Close = omega arith
  takes_one e n Tail = omega arith

  load_one : (e : ℕ) (t : Option (Task R)) → load_of P e t ≤ 1
  load_one e None = omega arith
  load_one e (Some t) = cond_one (nat_eq t.node e) (gives t.job) (takes P e t.node t.job) (gives_one t.job) (takes_one e t.node t.job)

  abbrev held : (ℕ → Option (Task R)) → ℕ → ℕ
  held tasks e = sum_to P.workers (λ w. load_of P e (tasks w))

  held_changed : (tasks : ℕ → Option (Task R)) (w : ℕ) (x : Option (Task R)) (e : ℕ) → IsWorker P w → held (upd tasks w x) e + load_of P e (tasks w) ≡ held tasks e + load_of P e x
  held_changed tasks w x e at =
      let a = sum_changed P.workers (λ v. load_of P e (tasks v)) (λ v. load_of P e (upd tasks w x v)) w at.0 at.1 (λ j ne. ap (load_of P e) (upd-else tasks w x j ne)) in
      let b = ap (load_of P e) (upd-here tasks w x) in
      omega arith

  held_most : (tasks : ℕ → Option (Task R)) (e : ℕ) → held tasks e ≤ P.workers
  held_most tasks e = sum_ones P.workers (λ w. load_of P e (tasks w)) (λ w. load_one e (tasks w))

  abbrev pub most_held : ℕ
  most_held = P.pause + P.workers

  -- What a turn may do to an edge, where the worker's task counted `old` there and now counts `new`: it
  -- holds no more than before, or no more wait than `pause`.
  abbrev Keeps : (before after : List (Batch R)) (old new : ℕ) → Type 0
  Keeps before after old new = (length after + new ≤ length before + old) ⊎ (length after ≤ P.pause)

  keeps_bound : (s : State R) (after : List (Batch R)) (w : ℕ) (x : Option (Task R)) (e : ℕ) → IsWorker P w → load P s e ≤ most_held → Keeps (s.waiting e) after (load_of P e (s.tasks w)) (load_of P e x) → length after + held (upd s.tasks w x) e ≤ most_held
  keeps_bound s after w x e at h (inl k) = let a = held_changed s.tasks w x e at in omega arith
  keeps_bound s after w x e at h (inr k) = let a = held_most (upd s.tasks w x) e in omega arith

  abbrev pub IsBounded : State R → Type 0
  IsBounded s = (e : ℕ) → IsEdge P e → load P s e ≤ most_held

  -- where an edge's producer may claim a job that gives, no more wait than `pause`
  not_over : (s : State R) (w n e : ℕ) → IsEdge P e → Ready P s w n → s.paused n ≡ false → n ≡ e → length (s.waiting e) ≤ P.pause
  not_over s w n e edge ready unpaused q = go (cases_lt P.pause (length (s.waiting e)))
    where
      go : (P.pause < length (s.waiting e)) ⊎ (length (s.waiting e) ≤ P.pause) → length (s.waiting e) ≤ P.pause
      go (inl h) = absurd (ready.no_pause e (edge, h, (sym (ap s.paused q) ∙ unpaused)))
      go (inr h) = h

  abbrev pub counts : ℕ → ℕ → Job → ℕ
  counts e n job = cond (nat_eq n e) (gives job) (takes P e n job)

  counts_none : (e n : ℕ) (job : Job) → gives job ≡ 0 → counts e n job ≤ takes P e n job
  counts_none e n job h = go (nat_eq n e)
    where
      go : (b : Bool) → cond b (gives job) (takes P e n job) ≤ takes P e n job
      go true = omega arith
      go false = omega arith

  -- a job that gives a batch, and leaves an edge with a list that is no longer
  giving : (s : State R) (w n : ℕ) (job : Job) (e : ℕ) (after : List (Batch R)) → IsEdge P e → Ready P s w n → s.paused n ≡ false → length after + takes P e n job ≤ length (s.waiting e) → Keeps (s.waiting e) after 0 (counts e n job)
  giving s w n job e after edge ready unpaused h = go (cases_eq n e)
    where
      go : (n ≡ e) ⊎ (n ≡ e → ⊥) → Keeps (s.waiting e) after 0 (counts e n job)
      go (inl q) = let a = not_over s w n e edge ready unpaused q in inr (omega arith)
      go (inr ne) = inl (rw (ne_eqb n e ne) (omega arith))

  claim_keeps : (s : State R) (w n : ℕ) (job : Job) (k : ℕ) (e : ℕ) → IsEdge P e → Ready P s w n → CanDo P s n job k → Keeps (s.waiting e) ((claimed P s w n job k).waiting e) 0 (counts e n job)
  claim_keeps s w n Emit i e edge ready can = giving s w n Emit e (s.waiting e) edge ready can.3 (omega arith)
  claim_keeps s w n Fold p e edge ready can =
      let a = taken-length s.waiting (folds_from P n) p e can.1 in
      let b = counts_none e n Fold refl in
      inl (omega arith)
  claim_keeps s w n Seal p e edge ready can = let b = counts_none e n Seal refl in inl (omega arith)
  claim_keeps s w n Stream p e edge ready can =
      let a = taken-length s.waiting (streams_from P n) p e can.1 in
      giving s w n Stream e (upd s.waiting (streams_from P n) (without p (s.waiting (streams_from P n))) e) edge ready can.2 (omega arith)
  claim_keeps s w n Close p e edge ready can = let b = counts_none e n Close refl in inl (omega arith)
  claim_keeps s w n Tail k e edge ready can = giving s w n Tail e (s.waiting e) edge ready can.3 (omega arith)

  back_one : (t : Task R) → length (back P t) ≤ 1
  back_one t = one_or_none ((P.node t.node).cuts && nat_lt P.batch (length (left_of P t))) (record { index = t.batch.index; rows = t.batch.rows; from = t.batch.from + P.batch })

  given_back : (s : State R) (t : Task R) (e : ℕ) → length (upd s.waiting (streams_from P t.node) (back P t ++ s.waiting (streams_from P t.node)) e) ≤ length (s.waiting e) + takes P e t.node Stream
  given_back s t e = go (cases_eq (streams_from P t.node) e)
    where
      go : (streams_from P t.node ≡ e) ⊎ (streams_from P t.node ≡ e → ⊥) → length (upd s.waiting (streams_from P t.node) (back P t ++ s.waiting (streams_from P t.node)) e) ≤ length (s.waiting e) + takes P e t.node Stream
      go (inl q) =
          subst (λ i. length (upd s.waiting (streams_from P t.node) (back P t ++ s.waiting (streams_from P t.node)) i) ≤ length (s.waiting i) + takes P i t.node Stream) q
          (rw (upd-here, eq-eqb (streams_from P t.node) (streams_from P t.node) refl)
          (let a = length-append (back P t) (s.waiting (streams_from P t.node)) in let b = back_one t in omega arith))
      go (inr ne) = rw (upd-else s.waiting (streams_from P t.node) (back P t ++ s.waiting (streams_from P t.node)) e (λ d. ne (sym d))) (omega arith)

  -- a list put in place at the node, with one batch more than the edge had
  put_at : (s : State R) (n e : ℕ) (f : ℕ → List (Batch R)) (x : Batch R) (job : Job) → gives job ≡ 1 → length (f e) ≤ length (s.waiting e) + takes P e n job → length (upd f n (s.waiting n ++ x ∷ []) e) ≤ length (s.waiting e) + counts e n job
  put_at s n e f x job one h = go (cases_eq n e)
    where
      go : (n ≡ e) ⊎ (n ≡ e → ⊥) → length (upd f n (s.waiting n ++ x ∷ []) e) ≤ length (s.waiting e) + counts e n job
      go (inl q) =
          subst (λ i. length (upd f n (s.waiting n ++ x ∷ []) i) ≤ length (s.waiting i) + counts i n job) q
          (rw (upd-here, eq-eqb n n refl) (let a = length-append (s.waiting n) (x ∷ []) in omega arith))
      go (inr ne) = rw (upd-else f n (s.waiting n ++ x ∷ []) e (λ d. ne (sym d)), ne_eqb n e ne) h

  landed_keeps : (s : State R) (w : ℕ) (t : Task R) (job : Job) (e : ℕ) → length ((landed P s w t job).waiting e) ≤ length (s.waiting e) + counts e t.node job
  landed_keeps s w t Emit e = put_at s t.node e s.waiting (piece (P.node t.node).kept P.batch (P.node t.node).table t.number) Emit refl (omega arith)
  landed_keeps s w t Fold e = omega arith
  landed_keeps s w t Seal e = omega arith
  landed_keeps s w t Stream e = put_at s t.node e (upd s.waiting (streams_from P t.node) (back P t ++ s.waiting (streams_from P t.node))) (sent P t) Stream refl (given_back s t e)
  landed_keeps s w t Close e = omega arith
  landed_keeps s w t Tail e = put_at s t.node e s.waiting (piece (P.node t.node).kept P.batch ((P.node t.node).rest t.built (rows_of t.streamed)) t.number) Tail refl (omega arith)

  bounded_opening : IsBounded (opening P)
  bounded_opening e edge = let a = held_most (λ _. None) e in omega arith

  -- a worker's turn that leaves it the task x
  turn_bounded : (s s' : State R) (w : ℕ) (x : Option (Task R)) → IsBounded s → IsWorker P w → s'.tasks ≡ upd s.tasks w x → ((e : ℕ) → IsEdge P e → Keeps (s.waiting e) (s'.waiting e) (load_of P e (s.tasks w)) (load_of P e x)) → IsBounded s'
  turn_bounded s s' w x h at same keeps e edge =
      subst (λ (tasks : ℕ → Option (Task R)). length (s'.waiting e) + held tasks e ≤ most_held) (sym same)
      (keeps_bound s (s'.waiting e) w x e at (h e edge) (keeps e edge))

  -- the task that a claim puts in flight counts as its job does
  pub claimed_tasks : (s : State R) (w n : ℕ) (job : Job) (k : ℕ) → (t : Task R) × ((claimed P s w n job k).tasks ≡ upd s.tasks w (Some t)) × ((e : ℕ) → load_of P e (Some t) ≡ counts e n job)
  claimed_tasks s w n Emit i = (task_of s n Emit i blank [], refl, (λ e. refl))
  claimed_tasks s w n Fold p = (task_of s n Fold p (at_or blank p (s.waiting (folds_from P n))) (s.locals n w), refl, (λ e. refl))
  claimed_tasks s w n Seal k = (task_of s n Seal k blank (gather P.workers (s.locals n)), refl, (λ e. refl))
  claimed_tasks s w n Stream p = (task_of s n Stream p (at_or blank p (s.waiting (streams_from P n))) (s.locals n w), refl, (λ e. refl))
  claimed_tasks s w n Close k = (task_of s n Close k blank (gather P.workers (s.locals n)), refl, (λ e. refl))
  claimed_tasks s w n Tail k = (task_of s n Tail k blank [], refl, (λ e. refl))

  bounded_claim : (s : State R) (w n : ℕ) (job : Job) (k : ℕ) → IsBounded s → Ready P s w n → CanDo P s n job k → IsBounded (claimed P s w n job k)
  bounded_claim s w n job k h ready can =
      let (t, same, counted) = claimed_tasks s w n job k in
      turn_bounded s (claimed P s w n job k) w (Some t) h ready.worker same (λ e edge. keep e edge t (counted e) (claim_keeps s w n job k e edge ready can))
    where
      keep : (e : ℕ) → IsEdge P e → (t : Task R) → load_of P e (Some t) ≡ counts e n job → Keeps (s.waiting e) ((claimed P s w n job k).waiting e) 0 (counts e n job) → Keeps (s.waiting e) ((claimed P s w n job k).waiting e) (load_of P e (s.tasks w)) (load_of P e (Some t))
      keep e edge t c a = rw (c, ap (load_of P e) ready.free) a

  pub landed_tasks : (s : State R) (w : ℕ) (t : Task R) (job : Job) → (landed P s w t job).tasks ≡ upd s.tasks w None
  landed_tasks s w t Emit = refl
  landed_tasks s w t Fold = refl
  landed_tasks s w t Seal = refl
  landed_tasks s w t Stream = refl
  landed_tasks s w t Close = refl
  landed_tasks s w t Tail = refl

  bounded_deliver : (s : State R) (w : ℕ) (t : Task R) → IsBounded s → IsWorker P w → s.tasks w ≡ Some t → IsBounded (delivered P s w (Some t))
  bounded_deliver s w t h at is = go (s.failed || is_done (s.phase t.node))
    where
      go : (b : Bool) → IsBounded (cond b (record s { tasks = upd s.tasks w None }) (landed P s w t t.job))
      go true = turn_bounded s (record s { tasks = upd s.tasks w None }) w None h at refl (λ e edge. inl (omega arith))
      go false =
          turn_bounded s (landed P s w t t.job) w None h at (landed_tasks s w t t.job)
          (λ e edge. let a = landed_keeps s w t t.job e in let b = ap (load_of P e) is in inl (omega arith))

  bounded_stop : (s : State R) (n : ℕ) → IsBounded s → IsBounded (stopped P s n)
  bounded_stop s n h e edge = let a = h e edge in let b = less (below P e n) (s.waiting e) in omega arith
    where
      less : (b : Bool) (xs : List (Batch R)) → length (cond b [] xs) ≤ length xs
      less true xs = omega arith
      less false xs = omega arith

  bounded_after : (s : State R) (x : Entry) → IsBounded s → Enabled P s x → IsBounded (after P s x)
  unfolding after
  bounded_after s (Claim w n job k) h enabled = bounded_claim s w n job k h enabled.0 enabled.1
  bounded_after s (Deliver w) h enabled = let (at, (t, is)) = enabled in rw is (bounded_deliver s w t h at is)
  bounded_after s (Pause e) h enabled = h
  bounded_after s (Resume e) h enabled = h
  bounded_after s (Finish n) h enabled = h
  bounded_after s (Stop n) h enabled = bounded_stop s n h
  bounded_after s (Fail w) h enabled = turn_bounded s (record s { failed = true; tasks = upd s.tasks w None }) w None h enabled.0 refl (λ e edge. inl (omega arith))

  pub bounded_replay : (es : List Entry) (s : State R) → IsBounded s → IsLegal P es s → (e : ℕ) → IsEdge P e → (load P (replay P es s) e ≤ P.pause + P.workers) × (peak P e es s ≤ P.pause + P.workers)
  unfolding replay peak
  bounded_replay [] s h legal e edge = let a = h e edge in (a, omega arith)
  bounded_replay (x ∷ es) s h legal e edge =
      let (a, b) = bounded_replay es (after P s x) (bounded_after s x h legal.0) legal.1 e edge in
      let c = h e edge in
      (a, omega arith)

  pub bounded_history : (es : List Entry) → IsHistory P es → (e : ℕ) → IsEdge P e → (load P (state_after P es) e ≤ P.pause + P.workers) × (peak P e es (opening P) ≤ P.pause + P.workers)
  bounded_history es legal e edge = bounded_replay es (opening P) bounded_opening legal e edge
