-- What is always known of nodes and tasks: the phase of a node fits its kind, and its next number what it
-- has to give.
use Rattle.std.proofs.Common.{◌≡◌, ℕ, ◌+◌, ◌<◌, ◌≤◌, Bool, true, false, cond, ◌≢◌, ◌⊎◌, ◌||◌, List, [], ◌∷◌, inl, inr, refl, sym, ◌∙◌, ap, arith, subst, Option, Some, None}
use Rattle.std.proofs.lemmas.Bool.{cases_eq, cases_lt}
use Rattle.plan_machine.specs.declared.entry.Phase.{Phase}
use Rattle.plan_machine.specs.declared.entry.Phase.TheVariants.{Emitting, Folding, Streaming, Tailing, Sealed, Done}
use Rattle.plan_machine.specs.declared.entry.Job.{Job}
use Rattle.plan_machine.specs.declared.entry.Job.TheVariants.{Emit, Fold, Seal, Stream, Close, Tail}
use Rattle.plan_machine.specs.declared.entry.Entry.{Entry}
use Rattle.plan_machine.specs.declared.entry.Entry.TheVariants.{Claim, Deliver, Pause, Resume, Finish, Stop, Fail}
use Rattle.plan_machine.specs.Phases.{phase_after_seal_of}
use Rattle.plan_machine.specs.Lists.{upd, at_or, gather}
use Rattle.plan_machine.specs.Batch.{Batch, blank, parts, gathered}
use Rattle.plan_machine.specs.Plan.{Plan, IsNode, IsWorker, IsSource, Folds, OnlyStreams, folds_from, streams_from}
use Rattle.plan_machine.specs.State.{State, Task, IsIdle, tail_rows, opening}
use Rattle.plan_machine.specs.Enabled.{Enabled, CanDo, Ready}
use Rattle.plan_machine.specs.After.{after, below, delivered, landed, is_done, claimed, stopped, task_of}
use Rattle.plan_machine.specs.History.{replay, IsLegal, IsHistory, state_after}
use Rattle.plan_machine.specs.WellFormed.{WellFormed, Streams}
use Rattle.plan_machine.proofs.Flight.{none-flying}
use Rattle.plan_machine.proofs.Weigh.{upd-here, upd-else}

-- a job that ends a phase
abbrev pub Ends : Job → Type 0
Ends job = (job ≡ Seal) ⊎ (job ≡ Close)

-- the phase in which a node is while such a job is in flight there, but for a node that was stopped
abbrev pub PhaseFits : Phase → Job → Type 0
PhaseFits p Emit = Unit {0}
PhaseFits p Fold = Unit {0}
PhaseFits p Seal = (p ≡ Folding) ⊎ (p ≡ Done)
PhaseFits p Stream = Unit {0}
PhaseFits p Close = (p ≡ Streaming) ⊎ (p ≡ Done)
PhaseFits p Tail = Unit {0}

fits_done : (p : Phase) (job : Job) → p ≡ Done → PhaseFits p job
fits_done p Emit h = tt
fits_done p Fold h = tt
fits_done p Seal h = inr h
fits_done p Stream h = tt
fits_done p Close h = inr h
fits_done p Tail h = tt

fits_plain : (p : Phase) (job : Job) → (Ends job → ⊥) → PhaseFits p job
fits_plain p Emit h = tt
fits_plain p Fold h = tt
fits_plain p Seal h = absurd (h (inl refl))
fits_plain p Stream h = tt
fits_plain p Close h = absurd (h (inr refl))
fits_plain p Tail h = tt

same_some : {A : Type 0} {x y : A} → Some x ≡ Some y → x ≡ y
same_some e = cc

module _ {R : Type 0} where
  -- a task in flight fits the phase of its node, and no other that ends a phase is in flight there
  pub record TasksFit (phase : ℕ → Phase) (tasks : ℕ → Option (Task R)) : Type 0 where
    pub fits : (w : ℕ) (t : Task R) → tasks w ≡ Some t → PhaseFits (phase t.node) t.job
    pub alone : (v w : ℕ) (t u : Task R) → tasks v ≡ Some t → tasks w ≡ Some u → t.node ≡ u.node → Ends t.job → Ends u.job → v ≡ w

  -- the task of worker v, after worker w's became x
  abbrev Was : (ℕ → Option (Task R)) → ℕ → Option (Task R) → ℕ → Task R → Type 0
  Was tasks w x v t = ((v ≡ w) × (x ≡ Some t)) ⊎ ((v ≡ w → ⊥) × (tasks v ≡ Some t))

  task_cases : (tasks : ℕ → Option (Task R)) (w : ℕ) (x : Option (Task R)) (v : ℕ) (t : Task R) → upd tasks w x v ≡ Some t → Was tasks w x v t
  task_cases tasks w x v t e = go (cases_eq v w)
    where
      go : (v ≡ w) ⊎ (v ≡ w → ⊥) → Was tasks w x v t
      go (inl d) = inl (d, sym (upd-here tasks w x) ∙ (ap (upd tasks w x) (sym d) ∙ e))
      go (inr ne) = inr (ne, sym (upd-else tasks w x v ne) ∙ e)

  pub tasks_drop : (phase : ℕ → Phase) (tasks : ℕ → Option (Task R)) (w : ℕ) → TasksFit phase tasks → TasksFit phase (upd tasks w None)
  tasks_drop phase tasks w h =
      record {
        fits = λ v t e. h.fits v t (was v t e);
        alone = λ v v' t u e e' same a b. h.alone v v' t u (was v t e) (was v' u e') same a b;
      }
    where
      was : (v : ℕ) (t : Task R) → upd tasks w None v ≡ Some t → tasks v ≡ Some t
      was v t e = elim (task_cases tasks w None v t e) [ inl d ↦ absurd (let x = d.1 in cc) | inr d ↦ d.1 ]

  pub tasks_put : (phase : ℕ → Phase) (tasks : ℕ → Option (Task R)) (w : ℕ) (t : Task R) → TasksFit phase tasks → PhaseFits (phase t.node) t.job → (Ends t.job → (v : ℕ) (u : Task R) → tasks v ≡ Some u → u.node ≡ t.node → ⊥) → TasksFit phase (upd tasks w (Some t))
  tasks_put phase tasks w t h fit only =
      record {
        fits = λ v u e. fits' v u (task_cases tasks w (Some t) v u e);
        alone = λ v v' u u' e e' same a b. alone' v v' u u' same a b (task_cases tasks w (Some t) v u e) (task_cases tasks w (Some t) v' u' e');
      }
    where
      fits' : (v : ℕ) (u : Task R) → Was tasks w (Some t) v u → PhaseFits (phase u.node) u.job
      fits' v u (inl d) = subst (λ (x : Task R). PhaseFits (phase x.node) x.job) (same_some d.1) fit
      fits' v u (inr d) = h.fits v u d.1

      alone' : (v v' : ℕ) (u u' : Task R) → u.node ≡ u'.node → Ends u.job → Ends u'.job → Was tasks w (Some t) v u → Was tasks w (Some t) v' u' → v ≡ v'
      alone' v v' u u' same a b (inl d) (inl d') = d.0 ∙ sym d'.0
      alone' v v' u u' same a b (inl d) (inr d') = let e = same_some d.1 in absurd (only (subst (λ (x : Task R). Ends x.job) (sym e) a) v' u' d'.1 (sym same ∙ sym (ap (λ (x : Task R). x.node) e)))
      alone' v v' u u' same a b (inr d) (inl d') = let e = same_some d'.1 in absurd (only (subst (λ (x : Task R). Ends x.job) (sym e) b) v u d.1 (same ∙ sym (ap (λ (x : Task R). x.node) e)))
      alone' v v' u u' same a b (inr d) (inr d') = h.alone v v' u u' d.1 d'.1 same a b

  pub tasks_phase : (phase phase' : ℕ → Phase) (tasks : ℕ → Option (Task R)) → TasksFit phase tasks → ((w : ℕ) (t : Task R) → tasks w ≡ Some t → (phase' t.node ≡ phase t.node) ⊎ ((phase' t.node ≡ Done) ⊎ (Ends t.job → ⊥))) → TasksFit phase' tasks
  tasks_phase phase phase' tasks h how = record { fits = λ w t e. go w t e (how w t e); alone = h.alone }
    where
      go : (w : ℕ) (t : Task R) → tasks w ≡ Some t → (phase' t.node ≡ phase t.node) ⊎ ((phase' t.node ≡ Done) ⊎ (Ends t.job → ⊥)) → PhaseFits (phase' t.node) t.job
      go w t e (inl d) = rw d (h.fits w t e)
      go w t e (inr (inl d)) = fits_done (phase' t.node) t.job d
      go w t e (inr (inr d)) = fits_plain (phase' t.node) t.job d

module _ {R : Type 0} (P : Plan R) where
  abbrev pub NodeFits : State R → ℕ → Phase → Type 0
  NodeFits s n Emitting = IsSource (P.node n) × (s.next n ≤ parts P.batch (P.node n).table)
  NodeFits s n Folding = Folds (P.node n) × (s.next n ≡ 0)
  NodeFits s n Streaming = Streams (P.node n) × (s.next n ≡ 0)
  NodeFits s n Tailing = s.next n ≤ parts P.batch (tail_rows P s n)
  NodeFits s n Sealed = Unit {0}
  NodeFits s n Done = Unit {0}

  pub record Fits (s : State R) : Type 0 where
    pub nodes : (n : ℕ) → IsNode P n → NodeFits s n (s.phase n)
    pub tasks : TasksFit s.phase s.tasks
    pub outside : (w : ℕ) → (IsWorker P w → ⊥) → s.tasks w ≡ None
    pub sink_runs : s.paused P.sink ≡ false

  node_agrees : (s s' : State R) (n : ℕ) (p : Phase) → s'.next n ≡ s.next n → s'.built n ≡ s.built n → s'.streamed n ≡ s.streamed n → NodeFits s n p → NodeFits s' n p
  node_agrees s s' n Emitting a b c h = (h.0, rw a h.1)
  node_agrees s s' n Folding a b c h = (h.0, rw a h.1)
  node_agrees s s' n Streaming a b c h = (h.0, rw a h.1)
  node_agrees s s' n Tailing a b c h = let e : tail_rows P s' n ≡ tail_rows P s n = cc in subst (λ (x : List R). s'.next n ≤ parts P.batch x) (sym e) (rw a h)
  node_agrees s s' n Sealed a b c h = tt
  node_agrees s s' n Done a b c h = tt

  fits_opening : WellFormed P → Fits (opening P)
  fits_opening well =
      record {
        nodes = λ n node. go n (well.nodes n node).starts;
        tasks = record { fits = λ w t e. absurd (cc); alone = λ v w t u e e' same a b. absurd (cc) };
        outside = λ w out. refl;
        sink_runs = refl;
      }
    where
      go : (n : ℕ) → IsSource (P.node n) ⊎ (Folds (P.node n) ⊎ OnlyStreams (P.node n)) → NodeFits (opening P) n (P.node n).start
      go n (inl e) = subst (λ p. NodeFits (opening P) n p) (sym e) (e, omega arith)
      go n (inr (inl e)) = subst (λ p. NodeFits (opening P) n p) (sym e) (e, refl)
      go n (inr (inr e)) = subst (λ p. NodeFits (opening P) n p) (sym e) (inl e, refl)

  worker_cases : (v : ℕ) → IsWorker P v ⊎ (IsWorker P v → ⊥)
  worker_cases v = go (cases_lt 0 v) (cases_lt P.workers v)
    where
      go : (0 < v) ⊎ (v ≤ 0) → (P.workers < v) ⊎ (v ≤ P.workers) → IsWorker P v ⊎ (IsWorker P v → ⊥)
      go (inl a) (inl b) = inr (λ d. let e = d.1 in absurd (omega arith))
      go (inl a) (inr b) = inl (omega arith, b)
      go (inr a) b = inr (λ d. let e = d.0 in absurd (omega arith))

  -- an idle node has no task in flight
  idle_none : (s : State R) (n : ℕ) → Fits s → IsIdle P s n → (v : ℕ) (u : Task R) → s.tasks v ≡ Some u → u.node ≡ n → ⊥
  idle_none s n h idle v u e same = go (worker_cases v)
    where
      go : IsWorker P v ⊎ (IsWorker P v → ⊥) → ⊥
      go (inl d) = none-flying P s.tasks n idle v u d e same
      go (inr out) = let a = h.outside v out in cc

  outside_still : (s : State R) (w : ℕ) (x : Option (Task R)) → Fits s → IsWorker P w → (v : ℕ) → (IsWorker P v → ⊥) → upd s.tasks w x v ≡ None
  outside_still s w x h at v out = upd-else s.tasks w x v (λ d. out (subst (λ j. IsWorker P j) (sym d) at)) ∙ h.outside v out

  not_end : (job : Job) → (job ≡ Seal → ⊥) → (job ≡ Close → ⊥) → Ends job → ⊥
  not_end job a b (inl d) = a d
  not_end job a b (inr d) = b d

  -- a claim that changes no node but in its next number, which fits
  claim_fits : (s s' : State R) (w : ℕ) (t : Task R) → Fits s → IsWorker P w → s'.phase ≡ s.phase → s'.tasks ≡ upd s.tasks w (Some t) → s'.paused ≡ s.paused → ((n : ℕ) → IsNode P n → NodeFits s' n (s.phase n)) → PhaseFits (s.phase t.node) t.job → (Ends t.job → IsIdle P s t.node) → Fits s'
  claim_fits s s' w t h at phases tasks paused nodes fit idle =
      record {
        nodes = λ n node. subst (λ (f : ℕ → Phase). NodeFits s' n (f n)) (sym phases) (nodes n node);
        tasks =
            subst (λ (f : ℕ → Phase). TasksFit f s'.tasks) (sym phases)
            (subst (λ (f : ℕ → Option (Task R)). TasksFit s.phase f) (sym tasks)
            (tasks_put s.phase s.tasks w t h.tasks fit (λ ends v u e same. idle_none s t.node h (idle ends) v u e same)));
        outside = λ v out. ap (λ (f : ℕ → Option (Task R)). f v) tasks ∙ outside_still s w (Some t) h at v out;
        sink_runs = ap (λ (f : ℕ → Bool). f P.sink) paused ∙ h.sink_runs;
      }

  -- the next number counted up at node n, in phase p
  next_fits : (s s' : State R) (n k : ℕ) (p : Phase) → Fits s → s.phase n ≡ p → s'.next ≡ upd s.next n k → s'.built ≡ s.built → s'.streamed ≡ s.streamed → NodeFits s' n p → (m : ℕ) → IsNode P m → NodeFits s' m (s.phase m)
  next_fits s s' n k p h is next built streamed fit m node = go (cases_eq m n)
    where
      go : (m ≡ n) ⊎ (m ≡ n → ⊥) → NodeFits s' m (s.phase m)
      go (inl d) = subst (λ j. NodeFits s' j (s.phase j)) (sym d) (subst (λ q. NodeFits s' n q) (sym is) fit)
      go (inr ne) = node_agrees s s' m (s.phase m) (ap (λ (f : ℕ → ℕ). f m) next ∙ upd-else s.next n k m ne) (ap (λ (f : ℕ → List R). f m) built) (ap (λ (f : ℕ → List (Batch R)). f m) streamed) (h.nodes m node)

  pub in_phase : (s : State R) (n : ℕ) (p : Phase) → Fits s → IsNode P n → s.phase n ≡ p → NodeFits s n p
  in_phase s n p h node is = subst (λ q. NodeFits s n q) is (h.nodes n node)

  claimed_fits : (s : State R) (w n : ℕ) (job : Job) (k : ℕ) → Fits s → Ready P s w n → CanDo P s n job k → Fits (claimed P s w n job k)
  claimed_fits s w n Emit i h ready can =
      let t = task_of s n Emit i blank [] in
      let s' = claimed P s w n Emit i in
      let src : NodeFits s n Emitting = in_phase s n Emitting h ready.node can.0 in
      let here : upd s.next n (i + 1) n ≤ parts P.batch (P.node n).table = rw (upd-here s.next n (i + 1)) (let c = can.2 in omega arith) in
      claim_fits s s' w t h ready.worker refl refl refl (next_fits s s' n (i + 1) Emitting h can.0 refl refl refl (src.0, here)) tt (λ e. absurd (not_end Emit (λ d. cc) (λ d. cc) e))
  claimed_fits s w n Fold p h ready can =
      let t = task_of s n Fold p (at_or blank p (s.waiting (folds_from P n))) (s.locals n w) in
      let s' = claimed P s w n Fold p in
      claim_fits s s' w t h ready.worker refl refl refl (λ m node. node_agrees s s' m (s.phase m) refl refl refl (h.nodes m node)) tt (λ e. absurd (not_end Fold (λ d. cc) (λ d. cc) e))
  claimed_fits s w n Seal k h ready can =
      let t = task_of s n Seal k blank (gather P.workers (s.locals n)) in
      let s' = claimed P s w n Seal k in
      claim_fits s s' w t h ready.worker refl refl refl (λ m node. node_agrees s s' m (s.phase m) refl refl refl (h.nodes m node)) (inl can.0) (λ e. can.1)
  claimed_fits s w n Stream p h ready can =
      let t = task_of s n Stream p (at_or blank p (s.waiting (streams_from P n))) (s.locals n w) in
      let s' = claimed P s w n Stream p in
      claim_fits s s' w t h ready.worker refl refl refl (λ m node. node_agrees s s' m (s.phase m) refl refl refl (h.nodes m node)) tt (λ e. absurd (not_end Stream (λ d. cc) (λ d. cc) e))
  claimed_fits s w n Close k h ready can =
      let t = task_of s n Close k blank (gather P.workers (s.locals n)) in
      let s' = claimed P s w n Close k in
      claim_fits s s' w t h ready.worker refl refl refl (λ m node. node_agrees s s' m (s.phase m) refl refl refl (h.nodes m node)) (inl can.0) (λ e. can.1)
  claimed_fits s w n Tail k h ready can =
      let t = task_of s n Tail k blank [] in
      let s' = claimed P s w n Tail k in
      let here : upd s.next n (k + 1) n ≤ parts P.batch (tail_rows P s n) = rw (upd-here s.next n (k + 1)) (let c = can.2 in omega arith) in
      claim_fits s s' w t h ready.worker refl refl refl (next_fits s s' n (k + 1) Tailing h can.0 refl refl refl here) tt (λ e. absurd (not_end Tail (λ d. cc) (λ d. cc) e))

  -- a worker's task let go, in a state whose nodes are as they were
  dropped_fits : (s s' : State R) (w : ℕ) → Fits s → IsWorker P w → s'.phase ≡ s.phase → s'.tasks ≡ upd s.tasks w None → s'.paused ≡ s.paused → s'.next ≡ s.next → s'.built ≡ s.built → s'.streamed ≡ s.streamed → Fits s'
  dropped_fits s s' w h at phases tasks paused next built streamed =
      record {
        nodes = λ n node. subst (λ (f : ℕ → Phase). NodeFits s' n (f n)) (sym phases) (node_agrees s s' n (s.phase n) (ap (λ (f : ℕ → ℕ). f n) next) (ap (λ (f : ℕ → List R). f n) built) (ap (λ (f : ℕ → List (Batch R)). f n) streamed) (h.nodes n node));
        tasks = subst (λ (f : ℕ → Phase). TasksFit f s'.tasks) (sym phases) (subst (λ (f : ℕ → Option (Task R)). TasksFit s.phase f) (sym tasks) (tasks_drop s.phase s.tasks w h.tasks));
        outside = λ v out. ap (λ (f : ℕ → Option (Task R)). f v) tasks ∙ outside_still s w None h at v out;
        sink_runs = ap (λ (f : ℕ → Bool). f P.sink) paused ∙ h.sink_runs;
      }

  after_seal : (s : State R) (n : ℕ) → Folds (P.node n) → s.next n ≡ 0 → NodeFits s n (phase_after_seal_of (P.node n).streams (P.node n).tails)
  after_seal s n folds next = go (P.node n).streams (P.node n).tails refl
    where
      go : (b c : Bool) → (P.node n).streams ≡ b → NodeFits s n (phase_after_seal_of b c)
      go true c e = (inr (folds, e), next)
      go false true e = rw next (omega arith)
      go false false e = tt

  -- a task that ends the phase of its node, and brings it into phase q, which its kind fits
  ended_fits : (s s' : State R) (w : ℕ) (t : Task R) (q : Phase) → Fits s → IsWorker P w → s.tasks w ≡ Some t → Ends t.job → s'.phase ≡ upd s.phase t.node q → s'.tasks ≡ upd s.tasks w None → s'.paused ≡ s.paused → (IsNode P t.node → NodeFits s' t.node q) → ((n : ℕ) → n ≢ t.node → NodeFits s n (s.phase n) → NodeFits s' n (s.phase n)) → Fits s'
  ended_fits s s' w t q h at is ends phases tasks paused here there =
      record {
        nodes = λ n node. subst (λ (f : ℕ → Phase). NodeFits s' n (f n)) (sym phases) (nodes n node (cases_eq n t.node));
        tasks =
            subst (λ (f : ℕ → Phase). TasksFit f s'.tasks) (sym phases)
            (subst (λ (f : ℕ → Option (Task R)). TasksFit (upd s.phase t.node q) f) (sym tasks)
            (tasks_phase s.phase (upd s.phase t.node q) (upd s.tasks w None) (tasks_drop s.phase s.tasks w h.tasks) (λ v u e. how v u e (cases_eq u.node t.node))));
        outside = λ v out. ap (λ (f : ℕ → Option (Task R)). f v) tasks ∙ outside_still s w None h at v out;
        sink_runs = ap (λ (f : ℕ → Bool). f P.sink) paused ∙ h.sink_runs;
      }
    where
      nodes : (n : ℕ) → IsNode P n → (n ≡ t.node) ⊎ (n ≡ t.node → ⊥) → NodeFits s' n (upd s.phase t.node q n)
      nodes n node (inl d) = subst (λ j. NodeFits s' j (upd s.phase t.node q j)) (sym d) (subst (λ p. NodeFits s' t.node p) (sym (upd-here s.phase t.node q)) (here (subst (λ j. IsNode P j) d node)))
      nodes n node (inr ne) = subst (λ p. NodeFits s' n p) (sym (upd-else s.phase t.node q n ne)) (there n ne (h.nodes n node))

      only : (v : ℕ) (u : Task R) → u.node ≡ t.node → Ends u.job → Was s.tasks w None v u → ⊥
      only v u d a (inl b) = let c = b.1 in cc
      only v u d a (inr b) = b.0 (h.tasks.alone v w u t b.1 is d a ends)

      how : (v : ℕ) (u : Task R) → upd s.tasks w None v ≡ Some u → (u.node ≡ t.node) ⊎ (u.node ≡ t.node → ⊥) → (upd s.phase t.node q u.node ≡ s.phase u.node) ⊎ ((upd s.phase t.node q u.node ≡ Done) ⊎ (Ends u.job → ⊥))
      how v u e (inl d) = inr (inr (λ a. only v u d a (task_cases s.tasks w None v u e)))
      how v u e (inr ne) = inl (upd-else s.phase t.node q u.node ne)

  not_done : (p q : Phase) → is_done p ≡ false → (p ≡ q) ⊎ (p ≡ Done) → p ≡ q
  not_done p q e (inl d) = d
  not_done p q e (inr d) = let x : true ≡ false = sym (ap is_done d) ∙ e in absurd (cc)

  landed_fits : (s : State R) (w : ℕ) (t : Task R) (job : Job) → t.job ≡ job → s.tasks w ≡ Some t → is_done (s.phase t.node) ≡ false → Fits s → IsWorker P w → Fits (landed P s w t job)
  landed_fits s w t Emit e is live h at = dropped_fits s (landed P s w t Emit) w h at refl refl refl refl refl refl
  landed_fits s w t Fold e is live h at = dropped_fits s (landed P s w t Fold) w h at refl refl refl refl refl refl
  landed_fits s w t Seal e is live h at =
      let s' = landed P s w t Seal in
      let folding = not_done (s.phase t.node) Folding live (subst (λ j. PhaseFits (s.phase t.node) j) e (h.tasks.fits w t is)) in
      ended_fits s s' w t (phase_after_seal_of (P.node t.node).streams (P.node t.node).tails) h at is (inl e) refl refl refl
      (λ node. let f : NodeFits s t.node Folding = in_phase s t.node Folding h node folding in after_seal s' t.node f.0 f.1)
      (λ n ne f. node_agrees s s' n (s.phase n) refl (upd-else s.built t.node (gathered t.took) n ne) refl f)
  landed_fits s w t Stream e is live h at = dropped_fits s (landed P s w t Stream) w h at refl refl refl refl refl refl
  landed_fits s w t Close e is live h at =
      let s' = landed P s w t Close in
      let streaming = not_done (s.phase t.node) Streaming live (subst (λ j. PhaseFits (s.phase t.node) j) e (h.tasks.fits w t is)) in
      ended_fits s s' w t Tailing h at is (inr e) refl refl refl
      (λ node. let f : NodeFits s t.node Streaming = in_phase s t.node Streaming h node streaming in rw f.1 (omega arith))
      (λ n ne f. node_agrees s s' n (s.phase n) refl refl (upd-else s.streamed t.node t.took n ne) f)
  landed_fits s w t Tail e is live h at = dropped_fits s (landed P s w t Tail) w h at refl refl refl refl refl refl

  delivered_fits : (s : State R) (w : ℕ) (t : Task R) → Fits s → IsWorker P w → s.tasks w ≡ Some t → Fits (delivered P s w (Some t))
  delivered_fits s w t h at is = go s.failed (is_done (s.phase t.node)) refl
    where
      drop : Fits (record s { tasks = upd s.tasks w None })
      drop = dropped_fits s (record s { tasks = upd s.tasks w None }) w h at refl refl refl refl refl refl

      go : (a b : Bool) → is_done (s.phase t.node) ≡ b → Fits (cond (a || b) (record s { tasks = upd s.tasks w None }) (landed P s w t t.job))
      go true b e = drop
      go false true e = drop
      go false false e = landed_fits s w t t.job refl is e h at

  -- phases that become Done where they change, and edges that go on
  phases_fit : (s s' : State R) → Fits s → s'.tasks ≡ s.tasks → s'.next ≡ s.next → s'.built ≡ s.built → s'.streamed ≡ s.streamed → s'.paused P.sink ≡ false → ((n : ℕ) → (s'.phase n ≡ s.phase n) ⊎ (s'.phase n ≡ Done)) → Fits s'
  phases_fit s s' h tasks next built streamed sink how =
      record {
        nodes = λ n node. go n (h.nodes n node) (how n);
        tasks = subst (λ (f : ℕ → Option (Task R)). TasksFit s'.phase f) (sym tasks) (tasks_phase s.phase s'.phase s.tasks h.tasks (λ w t e. elim (how t.node) [ inl d ↦ inl d | inr d ↦ inr (inl d) ]));
        outside = λ v out. ap (λ (f : ℕ → Option (Task R)). f v) tasks ∙ h.outside v out;
        sink_runs = sink;
      }
    where
      go : (n : ℕ) → NodeFits s n (s.phase n) → (s'.phase n ≡ s.phase n) ⊎ (s'.phase n ≡ Done) → NodeFits s' n (s'.phase n)
      go n f (inl d) = subst (λ p. NodeFits s' n p) (sym d) (node_agrees s s' n (s.phase n) (ap (λ (f : ℕ → ℕ). f n) next) (ap (λ (f : ℕ → List R). f n) built) (ap (λ (f : ℕ → List (Batch R)). f n) streamed) f)
      go n f (inr d) = subst (λ p. NodeFits s' n p) (sym d) tt

  after_fits : (s : State R) (x : Entry) → Fits s → Enabled P s x → Fits (after P s x)
  unfolding after
  after_fits s (Claim w n job k) h enabled = claimed_fits s w n job k h enabled.0 enabled.1
  after_fits s (Deliver w) h enabled = let (at, (t, is)) = enabled in rw is (delivered_fits s w t h at is)
  after_fits s (Pause e) h enabled =
      let edge = enabled.1.0 in
      phases_fit s (record s { paused = upd s.paused e true }) h refl refl refl refl (upd-else s.paused e true P.sink (λ d. let a = edge.1 in absurd (omega arith)) ∙ h.sink_runs) (λ n. inl refl)
  after_fits s (Resume e) h enabled =
      let edge = enabled.1.0 in
      phases_fit s (record s { paused = upd s.paused e false }) h refl refl refl refl (upd-else s.paused e false P.sink (λ d. let a = edge.1 in absurd (omega arith)) ∙ h.sink_runs) (λ n. inl refl)
  after_fits s (Finish n) h enabled = phases_fit s (record s { phase = upd s.phase n Done }) h refl refl refl refl h.sink_runs (λ m. go m (cases_eq m n))
    where
      go : (m : ℕ) → (m ≡ n) ⊎ (m ≡ n → ⊥) → (upd s.phase n Done m ≡ s.phase m) ⊎ (upd s.phase n Done m ≡ Done)
      go m (inl d) = inr (subst (λ j. upd s.phase n Done j ≡ Done) (sym d) (upd-here s.phase n Done))
      go m (inr ne) = inl (upd-else s.phase n Done m ne)
  after_fits s (Stop n) h enabled = phases_fit s (stopped P s n) h refl refl refl refl (sink (below P P.sink n)) (λ m. go m (below P m n))
    where
      sink : (b : Bool) → cond b false (s.paused P.sink) ≡ false
      sink true = refl
      sink false = h.sink_runs

      go : (m : ℕ) (b : Bool) → (cond b Done (s.phase m) ≡ s.phase m) ⊎ (cond b Done (s.phase m) ≡ Done)
      go m true = inr refl
      go m false = inl refl
  after_fits s (Fail w) h enabled = dropped_fits s (record s { failed = true; tasks = upd s.tasks w None }) w h enabled.0 refl refl refl refl refl refl

  pub fits_replay : (es : List Entry) (s : State R) → Fits s → IsLegal P es s → Fits (replay P es s)
  unfolding replay
  fits_replay [] s h legal = h
  fits_replay (x ∷ es) s h legal = fits_replay es (after P s x) (after_fits s x h legal.0) legal.1

  pub fits_history : WellFormed P → (es : List Entry) → IsHistory P es → Fits (state_after P es)
  fits_history well es legal = fits_replay es (opening P) (fits_opening well) legal
