-- Tasks in flight stand at nodes of the plan and are those of its workers, also after a Fail, and none is at a sink that
-- is Done.
use Rattle.std.proofs.Common.{◌≡◌, ℕ, zero, suc, Bool, true, false, cond, ◌&&◌, ◌||◌, ltb, eqb, List, [], ◌∷◌, Option, Some, None, refl, sym, ap, subst, ◌∙◌, ◌⊎◌, inl, inr, arith}
use Rattle.std.proofs.lemmas.Bool.{le-ltb}
use Rattle.plan_machine.specs.declared.entry.Phase.{Phase}
use Rattle.plan_machine.specs.declared.entry.Phase.TheVariants.{Tailing, Done}
use Rattle.plan_machine.specs.declared.entry.Job.{Job}
use Rattle.plan_machine.specs.declared.entry.Job.TheVariants.{Emit, Fold, Seal, Stream, Close, Tail}
use Rattle.plan_machine.specs.declared.entry.Entry.{Entry}
use Rattle.plan_machine.specs.declared.entry.Entry.TheVariants.{Claim, Deliver, Pause, Resume, Finish, Stop, Fail}
use Rattle.plan_machine.specs.Phases.{phase_after_seal_of}
use Rattle.plan_machine.specs.Lists.{upd, at_or, gather}
use Rattle.plan_machine.specs.Batch.{blank}
use Rattle.plan_machine.specs.Plan.{Plan, IsNode, IsWorker, folds_from, streams_from}
use Rattle.plan_machine.specs.State.{State, Task, opening}
use Rattle.plan_machine.specs.Enabled.{Enabled, Ready, CanDo}
use Rattle.plan_machine.specs.After.{after, claimed, landed, delivered, stopped, task_of, is_done, leads}
use Rattle.plan_machine.specs.History.{replay, IsLegal, IsHistory, state_after}
use Rattle.plan_machine.proofs.Weigh.{upd-here, upd-else, same_or}
use Rattle.plan_machine.proofs.BoundLoad.{landed_tasks}
use Rattle.plan_machine.proofs.Flight.{none-flying}

not_done_sealed : (a b : Bool) → phase_after_seal_of a b ≡ Done → ⊥
not_done_sealed true b e = cc
not_done_sealed false true e = cc
not_done_sealed false false e = cc

module _ {R : Type 0} (P : Plan R) where
  pub record Seated (s : State R) : Type 0 where
    pub at_node : (w : ℕ) (t : Task R) → s.tasks w ≡ Some t → IsNode P t.node
    pub of_worker : (w : ℕ) (t : Task R) → s.tasks w ≡ Some t → IsWorker P w
    pub open_sink : (w : ℕ) (t : Task R) → s.tasks w ≡ Some t → t.node ≡ P.sink → s.phase P.sink ≡ Done → ⊥

  -- the worker takes a task
  taken : (s s' : State R) (w : ℕ) (t : Task R) → s'.tasks ≡ upd s.tasks w (Some t) → s'.phase ≡ s.phase → IsNode P t.node → IsWorker P w → (t.node ≡ P.sink → s.phase P.sink ≡ Done → ⊥) → Seated s → Seated s'
  taken s s' w t tasks phase node worker unless h =
      record {
        at_node = λ v u e. elim (is v u e) [ inl q ↦ subst (λ (x : Task R). IsNode P x.node) q.1 node | inr q ↦ h.at_node v u q ];
        of_worker = λ v u e. elim (is v u e) [ inl q ↦ subst (λ (x : ℕ). IsWorker P x) (sym q.0) worker | inr q ↦ h.of_worker v u q ];
        open_sink = λ v u e at d.
            let d' : s.phase P.sink ≡ Done = sym (ap (λ (f : ℕ → Phase). f P.sink) phase) ∙ d in
            elim (is v u e) [ inl q ↦ unless (ap (λ (x : Task R). x.node) q.1 ∙ at) d' | inr q ↦ h.open_sink v u q at d' ];
      }
    where
      is : (v : ℕ) (u : Task R) → s'.tasks v ≡ Some u → ((v ≡ w) × (t ≡ u)) ⊎ (s.tasks v ≡ Some u)
      is v u e =
          let e' : upd s.tasks w (Some t) v ≡ Some u = sym (ap (λ (f : ℕ → Option (Task R)). f v) tasks) ∙ e in
          elim (same_or v w) [
            | inl q ↦ let m : Some t ≡ Some u = sym (ap (upd s.tasks w (Some t)) q ∙ upd-here s.tasks w (Some t)) ∙ e' in inl (q, (let r : t ≡ u = cc in r))
            | inr q ↦ inr (sym (upd-else s.tasks w (Some t) v q) ∙ e')
          ]

  -- tasks are no more than before, and the sink is not Done by it where it has one
  fewer : (s s' : State R) → ((v : ℕ) (u : Task R) → s'.tasks v ≡ Some u → s.tasks v ≡ Some u) → ((v : ℕ) (u : Task R) → s.tasks v ≡ Some u → u.node ≡ P.sink → s'.phase P.sink ≡ Done → s.phase P.sink ≡ Done) → Seated s → Seated s'
  fewer s s' tasks phase h =
      record {
        at_node = λ v u e. h.at_node v u (tasks v u e);
        of_worker = λ v u e. h.of_worker v u (tasks v u e);
        open_sink = λ v u e at d. h.open_sink v u (tasks v u e) at (phase v u (tasks v u e) at d);
      }

  emptied_seat : (ts : ℕ → Option (Task R)) (w v : ℕ) (u : Task R) → upd ts w None v ≡ Some u → ts v ≡ Some u
  emptied_seat ts w v u e =
      elim (same_or v w) [
        | inl q ↦ let m : None ≡ Some u = sym (ap (upd ts w None) q ∙ upd-here ts w None) ∙ e in cc
        | inr q ↦ sym (upd-else ts w None v q) ∙ e
      ]

  seated_claim : (s : State R) (w n : ℕ) (job : Job) (k : ℕ) → Seated s → Ready P s w n → CanDo P s n job k → Seated (claimed P s w n job k)
  seated_claim s w n Emit k h r can = taken s (claimed P s w n Emit k) w (task_of s n Emit k blank []) refl refl r.node r.worker (λ q d. let c = can.0 in let m = ap s.phase q in cc) h
  seated_claim s w n Fold k h r can = taken s (claimed P s w n Fold k) w (task_of s n Fold k (at_or blank k (s.waiting (folds_from P n))) (s.locals n w)) refl refl r.node r.worker (λ q d. let c = can.0 in let m = ap s.phase q in cc) h
  seated_claim s w n Seal k h r can = taken s (claimed P s w n Seal k) w (task_of s n Seal k blank (gather P.workers (s.locals n))) refl refl r.node r.worker (λ q d. let c = can.0 in let m = ap s.phase q in cc) h
  seated_claim s w n Stream k h r can = taken s (claimed P s w n Stream k) w (task_of s n Stream k (at_or blank k (s.waiting (streams_from P n))) (s.locals n w)) refl refl r.node r.worker (λ q d. let c = can.0 in let m = ap s.phase q in cc) h
  seated_claim s w n Close k h r can = taken s (claimed P s w n Close k) w (task_of s n Close k blank (gather P.workers (s.locals n))) refl refl r.node r.worker (λ q d. let c = can.0 in let m = ap s.phase q in cc) h
  seated_claim s w n Tail k h r can = taken s (claimed P s w n Tail k) w (task_of s n Tail k blank []) refl refl r.node r.worker (λ q d. let c = can.0 in let m = ap s.phase q in cc) h

  turned : (f : ℕ → Phase) (n m : ℕ) (q : Phase) → (q ≡ Done → ⊥) → upd f n q m ≡ Done → f m ≡ Done
  turned f n m q live e =
      elim (same_or m n) [
        | inl x ↦ absurd (live (sym (ap (upd f n q) x ∙ upd-here f n q) ∙ e))
        | inr x ↦ sym (upd-else f n q m x) ∙ e
      ]

  landed_done : (s : State R) (w : ℕ) (t : Task R) (job : Job) → (landed P s w t job).phase P.sink ≡ Done → s.phase P.sink ≡ Done
  landed_done s w t Emit d = d
  landed_done s w t Fold d = d
  landed_done s w t Seal d = turned s.phase t.node P.sink (phase_after_seal_of (P.node t.node).streams (P.node t.node).tails) (not_done_sealed (P.node t.node).streams (P.node t.node).tails) d
  landed_done s w t Stream d = d
  landed_done s w t Close d = turned s.phase t.node P.sink Tailing (λ e. cc) d
  landed_done s w t Tail d = d

  seated_delivered : (s : State R) (w : ℕ) (t : Option (Task R)) → Seated s → Seated (delivered P s w t)
  seated_delivered s w None h = h
  seated_delivered s w (Some t) h = go (s.failed || is_done (s.phase t.node))
    where
      go : (b : Bool) → Seated (cond b (record s { tasks = upd s.tasks w None }) (landed P s w t t.job))
      go true = fewer s (record s { tasks = upd s.tasks w None }) (λ v u e. emptied_seat s.tasks w v u e) (λ v u e at d. d) h
      go false =
          fewer s (landed P s w t t.job)
          (λ v u e. emptied_seat s.tasks w v u (sym (ap (λ (f : ℕ → Option (Task R)). f v) (landed_tasks P s w t t.job)) ∙ e))
          (λ v u e at d. landed_done s w t t.job d) h

  pub sink_leads : (k n : ℕ) → leads P k P.sink n ≡ false
  sink_leads zero n = refl
  sink_leads (suc k) n = off (ltb 0 P.sink) (ltb P.sink P.sink) (eqb (P.user P.sink) n || leads P k (P.user P.sink) n) (le-ltb P.sink P.sink (omega arith))
    where
      off : (a b c : Bool) → b ≡ false → ((a && b) && c) ≡ false
      off true true c e = cc
      off true false c e = refl
      off false b c e = refl

  seated_after : (s : State R) (x : Entry) → Seated s → Enabled P s x → Seated (after P s x)
  unfolding after
  seated_after s (Claim w n job k) h can = seated_claim s w n job k h can.0 can.1
  seated_after s (Deliver w) h can = seated_delivered s w (s.tasks w) h
  seated_after s (Pause e) h can = fewer s (record s { paused = upd s.paused e true }) (λ v u e. e) (λ v u e at d. d) h
  seated_after s (Resume e) h can = fewer s (record s { paused = upd s.paused e false }) (λ v u e. e) (λ v u e at d. d) h
  seated_after s (Finish n) h can =
      fewer s (record s { phase = upd s.phase n Done }) (λ v u e. e)
      (λ v u e at d. elim (same_or P.sink n) [
        | inl q ↦ absurd (none-flying P s.tasks n can.2 v u (h.of_worker v u e) e (at ∙ q))
        | inr q ↦ sym (upd-else s.phase n Done P.sink q) ∙ d
      ]) h
  seated_after s (Stop n) h can =
      fewer s (stopped P s n) (λ v u e. e)
      (λ v u e at d. sym (ap (λ (b : Bool). cond b Done (s.phase P.sink)) (sink_leads P.sink n)) ∙ d) h
  seated_after s (Fail w) h can = fewer s (record s { failed = true; tasks = upd s.tasks w None }) (λ v u e. emptied_seat s.tasks w v u e) (λ v u e at d. d) h

  seated_replay : (es : List Entry) (s : State R) → Seated s → IsLegal P es s → Seated (replay P es s)
  unfolding replay
  seated_replay [] s h l = h
  seated_replay (x ∷ es) s h l = seated_replay es (after P s x) (seated_after s x h l.0) l.1

  pub seated : (es : List Entry) → IsHistory P es → Seated (state_after P es)
  seated es l =
      seated_replay es (opening P)
      (record {
        at_node = λ w t e. let m : None ≡ Some t = e in cc;
        of_worker = λ w t e. let m : None ≡ Some t = e in cc;
        open_sink = λ w t e at d. let m : None ≡ Some t = e in cc;
      }) l
