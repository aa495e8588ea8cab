-- Histories that grow, and what is known of those of the lone driver.
use Rattle.std.proofs.Common.{◌≡◌, ◌≢◌, ℕ, Bool, true, false, cond, max, ◌||◌, List, [], ◌∷◌, length, refl, sym, ◌∙◌, ap, arith, subst, Option, Some, None}
use Rattle.plan_machine.specs.declared.entry.Job.{Job}
use Rattle.plan_machine.specs.declared.entry.Job.TheVariants.{Emit, Fold, Seal, Stream, Close, Tail}
use Rattle.plan_machine.specs.declared.entry.Entry.{Entry}
use Rattle.plan_machine.specs.declared.entry.Entry.TheVariants.{Claim, Deliver, Pause, Resume, Finish, Stop, Fail}
use Rattle.plan_machine.specs.Lists.{upd}
use Rattle.plan_machine.specs.Plan.{Plan}
use Rattle.plan_machine.specs.State.{State, Task, opening}
use Rattle.plan_machine.specs.Enabled.{Enabled, Ready, HasTask}
use Rattle.plan_machine.specs.After.{after, stopped, claimed, delivered, landed, is_done}
use Rattle.plan_machine.specs.History.{replay, IsLegal, peak}
use Rattle.plan_machine.specs.Driver.{IsDriverEntry, IsDrivenFrom}
use Rattle.plan_machine.specs.DriverLaws.{GrowsBy}
use Rattle.plan_machine.specs.declared.entry.Phase.TheVariants.{Done}
use Rattle.plan_machine.proofs.BoundLoad.{claimed_tasks, landed_tasks}
use Rattle.plan_machine.proofs.Weigh.{upd-else}

max_assoc : (a b c : ℕ) → max a (max b c) ≡ max (max a b) c
max_assoc a b c = omega arith

module _ {R : Type 0} (P : Plan R) where
  pub grows : (es : List Entry) (x : Entry) (s : State R) → GrowsBy P es x s
  unfolding replay peak
  grows [] x s = record { state = refl; peaks = λ e. refl; legal = λ l can. (can, tt); driven = λ d is. (is, tt) }
  grows (y ∷ es) x s =
      let g = grows es x (after P s y) in
      record {
        state = g.state;
        peaks = λ e. ap (λ m. max (length (s.waiting e)) m) (g.peaks e) ∙ max_assoc (length (s.waiting e)) (peak P e es (after P s y)) (length ((after P (replay P es (after P s y)) x).waiting e));
        legal = λ l can. (l.0, g.legal l.1 can);
        driven = λ d is. (d.0, g.driven d.1 is);
      }

  pub driver_enabled : (s : State R) (x : Entry) → IsDriverEntry P s x → Enabled P s x
  driver_enabled s (Claim w n job k) d = let (ready, can) = d.3.0 in (subst (λ v. Ready P s v n) (sym d.0) ready, can)
  driver_enabled s (Deliver w) d = subst (λ v. HasTask P s v) (sym d.0) d.1
  driver_enabled s (Pause e) d = d.2.1.0
  driver_enabled s (Resume e) d = d.2.3.0
  driver_enabled s (Finish n) d = d.2.2.0
  driver_enabled s (Stop n) d = d.2.0
  driver_enabled s (Fail w) d = absurd d

  pub driven_legal : (es : List Entry) (s : State R) → IsDrivenFrom P es s → IsLegal P es s
  driven_legal [] s d = tt
  driven_legal (x ∷ es) s d = (driver_enabled s x d.0, driven_legal es (after P s x) d.1)

  -- no Fail came, and only worker 1 has a task
  pub record Alone (s : State R) : Type 0 where
    pub sound : s.failed ≡ false
    pub others : (w : ℕ) → w ≢ 1 → s.tasks w ≡ None

  alone_turn : (s s' : State R) (w : ℕ) (x : Option (Task R)) → w ≡ 1 → s'.failed ≡ s.failed → s'.tasks ≡ upd s.tasks w x → Alone s → Alone s'
  alone_turn s s' w x at sound tasks a =
      record {
        sound = sound ∙ a.sound;
        others = λ v ne. ap (λ (f : ℕ → Option (Task R)). f v) tasks ∙ (upd-else s.tasks w x v (λ d. ne (d ∙ at)) ∙ a.others v ne);
      }

  claimed_sound : (s : State R) (w n : ℕ) (job : Job) (k : ℕ) → (claimed P s w n job k).failed ≡ s.failed
  claimed_sound s w n Emit k = refl
  claimed_sound s w n Fold k = refl
  claimed_sound s w n Seal k = refl
  claimed_sound s w n Stream k = refl
  claimed_sound s w n Close k = refl
  claimed_sound s w n Tail k = refl

  landed_sound : (s : State R) (w : ℕ) (t : Task R) (job : Job) → (landed P s w t job).failed ≡ s.failed
  landed_sound s w t Emit = refl
  landed_sound s w t Fold = refl
  landed_sound s w t Seal = refl
  landed_sound s w t Stream = refl
  landed_sound s w t Close = refl
  landed_sound s w t Tail = refl

  alone_delivered : (s : State R) (w : ℕ) (t : Option (Task R)) → w ≡ 1 → Alone s → Alone (delivered P s w t)
  alone_delivered s w None at a = a
  alone_delivered s w (Some t) at a = go (s.failed || is_done (s.phase t.node))
    where
      go : (b : Bool) → Alone (cond b (record s { tasks = upd s.tasks w None }) (landed P s w t t.job))
      go true = alone_turn s (record s { tasks = upd s.tasks w None }) w None at refl refl a
      go false = alone_turn s (landed P s w t t.job) w None at (landed_sound s w t t.job) (landed_tasks P s w t t.job) a

  alone_same : (s s' : State R) → s'.failed ≡ s.failed → s'.tasks ≡ s.tasks → Alone s → Alone s'
  alone_same s s' sound tasks a = record { sound = sound ∙ a.sound; others = λ w ne. ap (λ (f : ℕ → Option (Task R)). f w) tasks ∙ a.others w ne }

  alone_after : (s : State R) (x : Entry) → IsDriverEntry P s x → Alone s → Alone (after P s x)
  unfolding after
  alone_after s (Claim w n job k) d a =
      let (t, same, counted) = claimed_tasks P s w n job k in
      alone_turn s (claimed P s w n job k) w (Some t) d.0 (claimed_sound s w n job k) same a
  alone_after s (Deliver w) d a = alone_delivered s w (s.tasks w) d.0 a
  alone_after s (Pause e) d a = alone_same s (record s { paused = upd s.paused e true }) refl refl a
  alone_after s (Resume e) d a = alone_same s (record s { paused = upd s.paused e false }) refl refl a
  alone_after s (Finish n) d a = alone_same s (record s { phase = upd s.phase n Done }) refl refl a
  alone_after s (Stop n) d a = alone_same s (stopped P s n) refl refl a
  alone_after s (Fail w) d a = absurd d

  pub driven_alone : (es : List Entry) (s : State R) → IsDrivenFrom P es s → Alone s → Alone (replay P es s)
  unfolding replay
  driven_alone [] s d a = a
  driven_alone (x ∷ es) s d a = driven_alone es (after P s x) d.1 (alone_after s x d.0 a)

  pub opening_alone : Alone (opening P)
  opening_alone = record { sound = refl; others = λ w ne. refl }
