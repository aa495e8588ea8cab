-- What is known of every state that a legal history reaches without a Fail.
use Rattle.std.proofs.Common.{◌≡◌, ◌≢◌, ℕ, ◌⊎◌, inl, inr, Bool, true, false, cond, List, [], ◌∷◌, Option, Some, None, refl, sym, ap, subst, ◌∙◌}
use Rattle.plan_machine.specs.declared.entry.Phase.{Phase}
use Rattle.plan_machine.specs.declared.entry.Phase.TheVariants.{Emitting, Folding, Streaming, Tailing, Done}
use Rattle.plan_machine.specs.declared.entry.Job.{Job}
use Rattle.plan_machine.specs.declared.entry.Job.TheVariants.{Emit, Fold, Seal, Stream, Close, Tail}
use Rattle.plan_machine.specs.declared.entry.Entry.{Entry}
use Rattle.plan_machine.specs.declared.entry.Entry.TheVariants.{Claim, Deliver, Pause, Resume, Finish, Stop, Fail}
use Rattle.plan_machine.specs.Phases.{phase_after_seal_of}
use Rattle.plan_machine.specs.Lists.{upd}
use Rattle.plan_machine.specs.Plan.{Plan, IsNode, IsWorker, IsSource, Folds, OnlyStreams}
use Rattle.plan_machine.specs.State.{State, Task, opening}
use Rattle.plan_machine.specs.Enabled.{Enabled}
use Rattle.plan_machine.specs.After.{after, claimed, landed, delivered, stopped, below, is_done}
use Rattle.plan_machine.specs.History.{IsHistory, IsLegal, replay, state_after}
use Rattle.plan_machine.specs.WellFormed.{Lawful, WellFormed}
use Rattle.plan_machine.specs.InFlight.{phase_of, TaskFits}
use Rattle.plan_machine.proofs.Weigh.{upd-here, upd-else, same_or}
use Rattle.plan_machine.proofs.Flight.{flying, flying-gone, none-flying}
use Rattle.plan_machine.proofs.Steps.{Good, step, delivered-is, failed-stays, good-opening}
use Rattle.run_state.specs.Known.{Known}

module _ {R : Type 0} (P : Plan R) where
  -- a task that was just claimed
  record IsNew (s : State R) (w : ℕ) (t : Task R) : Type 0 where
    pub worker : IsWorker P w
    pub built : t.built ≡ s.built t.node
    pub streamed : t.streamed ≡ s.streamed t.node

  -- Nodes stay in their phases or are Done, nothing is built or streamed anew, and tasks in flight were so before or are new.
  record Stays (s s' : State R) : Type 0 where
    pub phases : (n : ℕ) → (s'.phase n ≡ s.phase n) ⊎ (s'.phase n ≡ Done)
    pub built : s'.built ≡ s.built
    pub streamed : s'.streamed ≡ s.streamed
    pub tasks : (w : ℕ) (t : Task R) → s'.tasks w ≡ Some t → (s.tasks w ≡ Some t) ⊎ IsNew s w t

  known_stays : (s s' : State R) → Stays s s' → Known P s → Known P s'
  known_stays s s' S K =
      record {
        tasks = λ w t i busy live. go w t i live (S.phases t.node) (S.tasks w t busy);
        unbuilt = λ n i p. elim (S.phases n) [ inl e ↦ ap (λ (f : ℕ → List R). f n) S.built ∙ K.unbuilt n i (sym e ∙ p) | inr d ↦ let no = sym d ∙ p in cc ];
        unstreamed = λ n i p. ap (λ (f : ℕ → _). f n) S.streamed ∙ un n i (S.phases n) p;
        emitting = λ n i p. elim (S.phases n) [ inl e ↦ K.emitting n i (sym e ∙ p) | inr d ↦ let no = sym d ∙ p in cc ];
        tailing = λ n i p. elim (S.phases n) [ inl e ↦ K.tailing n i (sym e ∙ p) | inr d ↦ let no = sym d ∙ p in cc ];
        no_other = λ w t busy. elim (S.tasks w t busy) [ inl old ↦ K.no_other w t old | inr new ↦ new.worker ];
      }
    where
      un : (n : ℕ) → IsNode P n → (s'.phase n ≡ s.phase n) ⊎ (s'.phase n ≡ Done) → (s'.phase n ≡ Folding) ⊎ (s'.phase n ≡ Streaming) → s.streamed n ≡ []
      un n i (inl e) (inl p) = K.unstreamed n i (inl (sym e ∙ p))
      un n i (inl e) (inr p) = K.unstreamed n i (inr (sym e ∙ p))
      un n i (inr d) (inl p) = let no = sym d ∙ p in cc
      un n i (inr d) (inr p) = let no = sym d ∙ p in cc

      here : (w : ℕ) (t : Task R) → IsWorker P w → is_done (s.phase t.node) ≡ false → (s.tasks w ≡ Some t) ⊎ IsNew s w t → (t.built ≡ s.built t.node) × (t.streamed ≡ s.streamed t.node)
      here w t i live (inl old) = K.tasks w t i old live
      here w t i live (inr new) = (new.built, new.streamed)

      go : (w : ℕ) (t : Task R) → IsWorker P w → is_done (s'.phase t.node) ≡ false → (s'.phase t.node ≡ s.phase t.node) ⊎ (s'.phase t.node ≡ Done) → (s.tasks w ≡ Some t) ⊎ IsNew s w t → (t.built ≡ s'.built t.node) × (t.streamed ≡ s'.streamed t.node)
      go w t i live (inr d) x = let no = sym (ap is_done d) ∙ live in absurd (cc)
      go w t i live (inl e) x =
          let h = here w t i (ap is_done (sym e) ∙ live) x in
          (h.0 ∙ sym (ap (λ (f : ℕ → List R). f t.node) S.built), h.1 ∙ sym (ap (λ (f : ℕ → _). f t.node) S.streamed))

  -- one worker's task changes, and no node
  stays_by : (s s' : State R) (w : ℕ) (x : Option (Task R)) → s'.phase ≡ s.phase → s'.built ≡ s.built → s'.streamed ≡ s.streamed → s'.tasks ≡ upd s.tasks w x → ((t : Task R) → x ≡ Some t → IsNew s w t) → Stays s s'
  stays_by s s' w x p b m e new =
      record {
        phases = λ n. inl (ap (λ (f : ℕ → Phase). f n) p);
        built = b;
        streamed = m;
        tasks = λ v t busy.
            let is : upd s.tasks w x v ≡ Some t = sym (ap (λ (f : ℕ → Option (Task R)). f v) e) ∙ busy in
            elim (same_or v w) [
              | inl q ↦ inr (subst (λ j. IsNew s j t) (sym q) (new t (sym (upd-here s.tasks w x) ∙ (sym (ap (upd s.tasks w x) q) ∙ is))))
              | inr ne ↦ inl (sym (upd-else s.tasks w x v ne) ∙ is)
            ];
      }

  -- no task changes
  stays_dimmed : (s s' : State R) → ((n : ℕ) → (s'.phase n ≡ s.phase n) ⊎ (s'.phase n ≡ Done)) → s'.built ≡ s.built → s'.streamed ≡ s.streamed → s'.tasks ≡ s.tasks → Stays s s'
  stays_dimmed s s' p b m e = record { phases = p; built = b; streamed = m; tasks = λ v t busy. inl (sym (ap (λ (f : ℕ → Option (Task R)). f v) e) ∙ busy) }

  new_task : (s : State R) (w : ℕ) (t u : Task R) → IsWorker P w → t.built ≡ s.built t.node → t.streamed ≡ s.streamed t.node → Some t ≡ Some u → IsNew s w u
  new_task s w t u i b m e = let same : t ≡ u = cc in subst (λ v. IsNew s w v) same (record { worker = i; built = b; streamed = m })

  stays_claimed : (s : State R) (w n : ℕ) (job : Job) (k : ℕ) → IsWorker P w → Stays s (claimed P s w n job k)
  stays_claimed s w n Emit k i = stays_by s (claimed P s w n Emit k) w _ refl refl refl refl (λ u e. new_task s w _ u i refl refl e)
  stays_claimed s w n Fold k i = stays_by s (claimed P s w n Fold k) w _ refl refl refl refl (λ u e. new_task s w _ u i refl refl e)
  stays_claimed s w n Seal k i = stays_by s (claimed P s w n Seal k) w _ refl refl refl refl (λ u e. new_task s w _ u i refl refl e)
  stays_claimed s w n Stream k i = stays_by s (claimed P s w n Stream k) w _ refl refl refl refl (λ u e. new_task s w _ u i refl refl e)
  stays_claimed s w n Close k i = stays_by s (claimed P s w n Close k) w _ refl refl refl refl (λ u e. new_task s w _ u i refl refl e)
  stays_claimed s w n Tail k i = stays_by s (claimed P s w n Tail k) w _ refl refl refl refl (λ u e. new_task s w _ u i refl refl e)

  none_new : (s : State R) (w : ℕ) (t : Task R) → None ≡ Some t → IsNew s w t
  none_new s w t e = cc

  -- Node a goes on to another phase, where no task is in flight.
  record Turns (s s' : State R) (a : ℕ) : Type 0 where
    pub tasks : (w : ℕ) (t : Task R) → s'.tasks w ≡ Some t → s.tasks w ≡ Some t
    pub idle : (w : ℕ) (t : Task R) → IsWorker P w → s'.tasks w ≡ Some t → t.node ≡ a → ⊥
    pub phase : (n : ℕ) → n ≢ a → s'.phase n ≡ s.phase n
    pub built : (n : ℕ) → n ≢ a → s'.built n ≡ s.built n
    pub streamed : (n : ℕ) → n ≢ a → s'.streamed n ≡ s.streamed n
    pub unbuilt : s'.phase a ≡ Folding → ⊥
    pub unstreamed : (s'.phase a ≡ Streaming) → s'.streamed a ≡ []
    pub emitting : s'.phase a ≡ Emitting → ⊥
    pub tailing : s'.phase a ≡ Tailing → (P.node a).tails ≡ true

  known_turns : (s s' : State R) (a : ℕ) → Turns s s' a → Known P s → Known P s'
  known_turns s s' a T K =
      record {
        tasks = λ w t i busy live. elim (same_or t.node a) [
          | inl q ↦ absurd (T.idle w t i busy q)
          | inr ne ↦
              let h = K.tasks w t i (T.tasks w t busy) (ap is_done (sym (T.phase t.node ne)) ∙ live) in
              (h.0 ∙ sym (T.built t.node ne), h.1 ∙ sym (T.streamed t.node ne))
        ];
        unbuilt = λ n i p. elim (same_or n a) [ inl q ↦ absurd (T.unbuilt (sym (ap s'.phase q) ∙ p)) | inr ne ↦ T.built n ne ∙ K.unbuilt n i (sym (T.phase n ne) ∙ p) ];
        unstreamed = λ n i p. un n i (same_or n a) p;
        emitting = λ n i p. elim (same_or n a) [ inl q ↦ absurd (T.emitting (sym (ap s'.phase q) ∙ p)) | inr ne ↦ K.emitting n i (sym (T.phase n ne) ∙ p) ];
        tailing = λ n i p. elim (same_or n a) [ inl q ↦ ap (λ m. (P.node m).tails) q ∙ T.tailing (sym (ap s'.phase q) ∙ p) | inr ne ↦ K.tailing n i (sym (T.phase n ne) ∙ p) ];
        no_other = λ w t busy. K.no_other w t (T.tasks w t busy);
      }
    where
      un : (n : ℕ) → IsNode P n → (n ≡ a) ⊎ (n ≢ a) → (s'.phase n ≡ Folding) ⊎ (s'.phase n ≡ Streaming) → s'.streamed n ≡ []
      un n i (inl q) (inl p) = absurd (T.unbuilt (sym (ap s'.phase q) ∙ p))
      un n i (inl q) (inr p) = ap s'.streamed q ∙ T.unstreamed (sym (ap s'.phase q) ∙ p)
      un n i (inr ne) (inl p) = T.streamed n ne ∙ K.unstreamed n i (inl (sym (T.phase n ne) ∙ p))
      un n i (inr ne) (inr p) = T.streamed n ne ∙ K.unstreamed n i (inr (sym (T.phase n ne) ∙ p))

  without_task : (tasks : ℕ → Option (Task R)) (w v : ℕ) (u : Task R) → upd tasks w None v ≡ Some u → tasks v ≡ Some u
  without_task tasks w v u e =
      elim (same_or v w) [
        | inl q ↦ let no = sym (upd-here tasks w None) ∙ (sym (ap (upd tasks w None) q) ∙ e) in cc
        | inr ne ↦ sym (upd-else tasks w None v ne) ∙ e
      ]

  sealed_unfolds : (streams tails : Bool) → phase_after_seal_of streams tails ≡ Folding → ⊥
  sealed_unfolds true tails e = cc
  sealed_unfolds false true e = cc
  sealed_unfolds false false e = cc

  sealed_unemits : (streams tails : Bool) → phase_after_seal_of streams tails ≡ Emitting → ⊥
  sealed_unemits true tails e = cc
  sealed_unemits false true e = cc
  sealed_unemits false false e = cc

  sealed_tails : (streams tails : Bool) → phase_after_seal_of streams tails ≡ Tailing → tails ≡ true
  sealed_tails true tails e = cc
  sealed_tails false true e = refl
  sealed_tails false false e = cc

  module _ (s : State R) (K : Known P s) (w : ℕ) (t : Task R) (iw : IsWorker P w) (busy : s.tasks w ≡ Some t) (at : IsNode P t.node) where
    alone : flying P s.tasks t.node ≡ t ∷ [] → (v : ℕ) (u : Task R) → IsWorker P v → upd s.tasks w None v ≡ Some u → u.node ≡ t.node → ⊥
    alone one v u iv e q = none-flying P (upd s.tasks w None) t.node (flying-gone P s.tasks w t t t.node iw busy refl one) v u iv e q

    known_landed : (j : Job) → s.phase t.node ≡ phase_of j → TaskFits P s t.node w t j → Known P (landed P s w t j)
    known_landed Emit p f = known_stays s (landed P s w t Emit) (stays_by s (landed P s w t Emit) w None refl refl refl refl (none_new s w)) K
    known_landed Fold p f = known_stays s (landed P s w t Fold) (stays_by s (landed P s w t Fold) w None refl refl refl refl (none_new s w)) K
    known_landed Stream p f = known_stays s (landed P s w t Stream) (stays_by s (landed P s w t Stream) w None refl refl refl refl (none_new s w)) K
    known_landed Tail p f = known_stays s (landed P s w t Tail) (stays_by s (landed P s w t Tail) w None refl refl refl refl (none_new s w)) K
    known_landed Seal p f =
        let next = phase_after_seal_of (P.node t.node).streams (P.node t.node).tails in
        let is : upd s.phase t.node next t.node ≡ next = upd-here s.phase t.node next in
        known_turns s (landed P s w t Seal) t.node
        record {
          tasks = without_task s.tasks w;
          idle = alone f.0;
          phase = λ n ne. upd-else s.phase t.node next n ne;
          built = λ n ne. upd-else s.built t.node _ n ne;
          streamed = λ n ne. refl;
          unbuilt = λ e. sealed_unfolds (P.node t.node).streams (P.node t.node).tails (sym is ∙ e);
          unstreamed = λ e. K.unstreamed t.node at (inl p);
          emitting = λ e. sealed_unemits (P.node t.node).streams (P.node t.node).tails (sym is ∙ e);
          tailing = λ e. sealed_tails (P.node t.node).streams (P.node t.node).tails (sym is ∙ e);
        }
        K
    known_landed Close p f =
        let is : upd s.phase t.node Tailing t.node ≡ Tailing = upd-here s.phase t.node Tailing in
        known_turns s (landed P s w t Close) t.node
        record {
          tasks = without_task s.tasks w;
          idle = alone f.0;
          phase = λ n ne. upd-else s.phase t.node Tailing n ne;
          built = λ n ne. refl;
          streamed = λ n ne. upd-else s.streamed t.node t.took n ne;
          unbuilt = λ e. let no = sym is ∙ e in cc;
          unstreamed = λ e. let no = sym is ∙ e in cc;
          emitting = λ e. let no = sym is ∙ e in cc;
          tailing = λ e. f.3;
        }
        K

  upd_or : (f : ℕ → Phase) (n m : ℕ) → (upd f n Done m ≡ f m) ⊎ (upd f n Done m ≡ Done)
  upd_or f n m = elim (same_or m n) [ inl q ↦ inr (ap (upd f n Done) q ∙ upd-here f n Done) | inr ne ↦ inl (upd-else f n Done m ne) ]

  stopped_or : (b : Bool) (p : Phase) → (cond b Done p ≡ p) ⊎ (cond b Done p ≡ Done)
  stopped_or true p = inr refl
  stopped_or false p = inl refl

  module _ (L : Lawful P) (W : WellFormed P) where
    known_after : (s : State R) (e : Entry) → Good P L W s → s.failed ≡ false → Enabled P s e → (after P s e).failed ≡ false → Known P s → Known P (after P s e)
    unfolding after
    known_after s (Claim w n job k) G ok can ok' K = known_stays s (claimed P s w n job k) (stays_claimed s w n job k can.0.worker) K
    known_after s (Deliver w) G ok can ok' K =
        let t : Task R = can.1.0 in
        let busy = can.1.1 in
        let F = G.sound.fit in
        subst (λ (o : Option (Task R)). Known P (delivered P s w o)) (sym busy)
        (delivered-is P L W (Known P) s w t can.0 busy F ok
        (λ d. known_stays s (record s { tasks = upd s.tasks w None }) (stays_by s (record s { tasks = upd s.tasks w None }) w None refl refl refl refl (none_new s w)) K)
        (λ p f. known_landed s K w t can.0 busy (F.tasks w t can.0 busy).0 t.job p f))
    known_after s (Pause e) G ok can ok' K = known_stays s (record s { paused = upd s.paused e true }) (stays_dimmed s (record s { paused = upd s.paused e true }) (λ n. inl refl) refl refl refl) K
    known_after s (Resume e) G ok can ok' K = known_stays s (record s { paused = upd s.paused e false }) (stays_dimmed s (record s { paused = upd s.paused e false }) (λ n. inl refl) refl refl refl) K
    known_after s (Finish n) G ok can ok' K = known_stays s (record s { phase = upd s.phase n Done }) (stays_dimmed s (record s { phase = upd s.phase n Done }) (upd_or s.phase n) refl refl refl) K
    known_after s (Stop n) G ok can ok' K = known_stays s (stopped P s n) (stays_dimmed s (stopped P s n) (λ m. stopped_or (below P m n) (s.phase m)) refl refl refl) K
    known_after s (Fail w) G ok can ok' K = cc

    failed_replay : (es : List Entry) (s : State R) → s.failed ≡ true → (replay P es s).failed ≡ true
    unfolding replay
    failed_replay [] s f = f
    failed_replay (e ∷ es) s f = failed_replay es (after P s e) (failed-stays P L W s e f)

    not_failed : (es : List Entry) (s : State R) → (replay P es s).failed ≡ false → s.failed ≡ false
    not_failed es s ok = go s.failed refl
      where
        go : (b : Bool) → s.failed ≡ b → s.failed ≡ false
        go true f = let no = sym (failed_replay es s f) ∙ ok in cc
        go false f = f

    known_run : (es : List Entry) (s : State R) → Good P L W s → IsLegal P es s → (replay P es s).failed ≡ false → Known P s → Known P (replay P es s)
    unfolding replay
    known_run [] s G l ok K = K
    known_run (e ∷ es) s G l ok K =
        let before = not_failed (e ∷ es) s ok in
        let behind = not_failed es (after P s e) ok in
        known_run es (after P s e) (step P L W s e G before l.0 behind).good l.1 ok (known_after s e G before l.0 behind K)

    known_opening : Known P (opening P)
    known_opening =
        record {
          tasks = λ w t i busy live. cc;
          unbuilt = λ n i p. refl;
          unstreamed = λ n i p. refl;
          emitting = λ n i p. p;
          tailing = λ n i p. starts n p (W.nodes n i).starts;
          no_other = λ w t busy. cc;
        }
      where
        starts : (n : ℕ) → (P.node n).start ≡ Tailing → IsSource (P.node n) ⊎ (Folds (P.node n) ⊎ OnlyStreams (P.node n)) → (P.node n).tails ≡ true
        starts n p (inl e) = let no = sym e ∙ p in cc
        starts n p (inr (inl e)) = let no = sym e ∙ p in cc
        starts n p (inr (inr e)) = let no = sym e ∙ p in cc

pub known : {R : Type 0} (P : Plan R) → Lawful P → WellFormed P → (es : List Entry) → IsHistory P es → (state_after P es).failed ≡ false → Known P (state_after P es)
known P L W es h sound = known_run P L W es (opening P) (good-opening P L W) h sound (known_opening P L W)
