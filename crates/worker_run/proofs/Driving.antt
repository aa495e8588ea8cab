-- The lone driver goes on: what each of its turns leaves is a history that it made, with nothing in hand.
use Rattle.std.proofs.Common.{◌≡◌, ℕ, ◌<◌, ◌≤◌, Result, Ok, Err, OnOk, IfOk, Bool, true, false, cond, ◌||◌, List, [], ◌∷◌, ◌++◌, length, Option, Some, None, refl, sym, ap, subst, ◌∙◌, arith}
use Rattle.std.proofs.lemmas.List.{length-append}
use Rattle.scalar_value.specs.declared.value.Value.{Value}
use Rattle.plan_machine.specs.declared.entry.Job.{Job}
use Rattle.plan_machine.specs.declared.entry.Entry.{Entry}
use Rattle.plan_machine.specs.declared.entry.Entry.TheVariants.{Claim, Deliver, Pause, Resume, Finish, Stop, Fail}
use Rattle.plan_machine.specs.Lists.{upd}
use Rattle.plan_machine.specs.Plan.{Plan, IsWorker}
use Rattle.plan_machine.specs.State.{State, Task, opening}
use Rattle.plan_machine.specs.After.{after, delivered, landed, is_done}
use Rattle.plan_machine.specs.History.{IsHistory, IsEnded, state_after, replay}
use Rattle.plan_machine.specs.Driver.{IsDriverEntry, IsDrivenFrom, IsUpkeepChoice, IsClaimChoice, IsDriven, NoUpkeep}
use Rattle.plan_machine.proofs.BoundLoad.{claimed_tasks, landed_tasks}
use Rattle.plan_machine.proofs.DriverHistory.{grows}
use Rattle.plan_machine.proofs.Weigh.{upd-here}
use Rattle.plan_store.specs.Told.{Given, Told, plan_of, state_of, site_of, with_entry}
use Rattle.run_state.specs.declared.result.Finished.{Finished}
use Rattle.run_state.specs.Opening.{IsFinished}
use Rattle.worker_run.specs.Driving.{IsDriving, WentOn, Worked}

module _ {R : Type 0} (P : Plan R) where
  free_upkeep : (s : State R) (x : Entry) → IsUpkeepChoice P s x → s.tasks 1 ≡ None → (after P s x).tasks 1 ≡ None
  unfolding after
  free_upkeep s (Stop n) c q = q
  free_upkeep s (Pause e) c q = q
  free_upkeep s (Finish n) c q = q
  free_upkeep s (Resume e) c q = q
  free_upkeep s (Claim w n job k) c q = absurd c
  free_upkeep s (Deliver w) c q = absurd c
  free_upkeep s (Fail w) c q = absurd c

  upkeep_driven : (s : State R) (x : Entry) → IsUpkeepChoice P s x → s.tasks 1 ≡ None → (IsEnded P s → ⊥) → IsDriverEntry P s x
  upkeep_driven s (Stop n) c q on = (q, on, c)
  upkeep_driven s (Pause e) c q on = (q, on, c)
  upkeep_driven s (Finish n) c q on = (q, on, c)
  upkeep_driven s (Resume e) c q on = (q, on, c)
  upkeep_driven s (Claim w n job k) c q on = absurd c
  upkeep_driven s (Deliver w) c q on = absurd c
  upkeep_driven s (Fail w) c q on = absurd c

  pub in_hand : (s : State R) (n : ℕ) (job : Job) (k : ℕ) → (t : Task R) × ((after P s (Claim 1 n job k)).tasks 1 ≡ Some t)
  unfolding after
  in_hand s n job k =
      let c = claimed_tasks P s 1 n job k in
      (c.0, ap (λ (f : ℕ → Option (Task R)). f 1) c.1 ∙ upd-here s.tasks 1 (Some c.0))

  free_landed : (s : State R) (t : Task R) (b : Bool) → (cond b (record s { tasks = upd s.tasks 1 None }) (landed P s 1 t t.job)).tasks 1 ≡ None
  free_landed s t true = upd-here s.tasks 1 None
  free_landed s t false = ap (λ (f : ℕ → Option (Task R)). f 1) (landed_tasks P s 1 t t.job) ∙ upd-here s.tasks 1 None

  free_delivered : (s : State R) (t : Task R) → s.tasks 1 ≡ Some t → (after P s (Deliver 1)).tasks 1 ≡ None
  unfolding after
  free_delivered s t e = subst (λ o. (delivered P s 1 o).tasks 1 ≡ None) (sym e) (free_landed s t (s.failed || is_done (s.phase t.node)))

-- one entry more
longer : (es : List Entry) (x : Entry) → length es < length (es ++ x ∷ [])
longer es x = let a = length-append es (x ∷ []) in omega arith

pub went_on_upkeep : (t : Told) (x : Entry) → IsDriving t → (IsEnded (plan_of t.given) (state_of t) → ⊥) → IsUpkeepChoice (plan_of t.given) (state_of t) x → (used : ℕ) → WentOn t (with_entry t x used)
went_on_upkeep t x h on c used =
    let P = plan_of t.given in
    let g = grows P t.history x (opening P) in
    record {
      given = refl;
      driving = record {
        driven = g.driven h.driven (upkeep_driven P (state_of t) x c h.free on);
        free = ap (λ (s : State (List Value)). s.tasks 1) g.state ∙ free_upkeep P (state_of t) x c h.free;
      };
      longer = longer t.history x;
    }

module _ (t : Told) (w-node : ℕ) (w-job : Job) (w-number : ℕ) where
  abbrev claim : Entry
  claim = Claim 1 w-node w-job w-number

  abbrev claimed_es : List Entry
  claimed_es = t.history ++ claim ∷ []

  hand : (x : Task (List Value)) × ((state_after (plan_of t.given) claimed_es).tasks 1 ≡ Some x)
  hand =
      let c = in_hand (plan_of t.given) (state_of t) w-node w-job w-number in
      (c.0, ap (λ (s : State (List Value)). s.tasks 1) (grows (plan_of t.given) t.history claim (opening (plan_of t.given))).state ∙ c.1)

  worked_on : IsDriving t → IsWorker (plan_of t.given) 1 → (IsEnded (plan_of t.given) (state_of t) → ⊥) → NoUpkeep (plan_of t.given) (state_of t) → IsClaimChoice (plan_of t.given) (state_of t) 1 w-node w-job w-number
      → WentOn t (with_entry (with_entry t claim 2) (Deliver 1) 0)
  worked_on h one on none chosen =
      let P = plan_of t.given in
      let g1 = grows P t.history claim (opening P) in
      let g2 = grows P claimed_es (Deliver 1) (opening P) in
      record {
        given = refl;
        driving = record {
          driven = g2.driven (g1.driven h.driven (refl, on, none, chosen)) (refl, (one, hand));
          free = ap (λ (s : State (List Value)). s.tasks 1) g2.state ∙ free_delivered P (state_after P claimed_es) hand.0 hand.1;
        };
        longer = (let a = longer t.history claim in let b = longer claimed_es (Deliver 1) in omega arith);
      }

pub went_on_work : (t now : Told) → IsDriving t → IsWorker (plan_of t.given) 1 → (IsEnded (plan_of t.given) (state_of t) → ⊥) → NoUpkeep (plan_of t.given) (state_of t) → Worked t now → WentOn t now
went_on_work t now h one on none w = subst (λ x. WentOn t x) (sym w.told) (worked_on t w.node w.job w.number h one on none w.chosen)

pub site_batch : (g : Given) (n : ℕ) → (site_of g n).batch ≡ g.pace.batch
unfolding site_of
site_batch g n = refl

-- ---- with more room the run is as it was

pub driving_reserved : (t u : Told) (room : ℕ) → u ≡ record t { room = room } → IsDriving t → IsDriving u
driving_reserved t u room same h = subst (λ x. IsDriving x) (sym same) (record { driven = h.driven; free = h.free })

pub running_reserved : (t u : Told) (room : ℕ) → u ≡ record t { room = room } → (IsEnded (plan_of t.given) (state_of t) → ⊥) → IsEnded (plan_of u.given) (state_of u) → ⊥
running_reserved t u room same on e = on (subst (λ x. IsEnded (plan_of x.given) (state_of x)) same e)

pub from_reserved : (t u : Told) (room : ℕ) → u ≡ record t { room = room } → (now : Told) → WentOn u now → WentOn t now
from_reserved t u room same now h =
    let k = subst (λ x. WentOn x now) same h in
    record { given = k.given; driving = k.driving; longer = k.longer }

pub went_on_ok : {E : Type 0} (r : Result (Unit {0}) E) (A B : Type 0) → (A → B) → OnOk r A → OnOk r B
went_on_ok (Ok x) A B f h = f h
went_on_ok (Err e) A B f h = tt

-- ---- how a run begins, and what it gives

pub begun : (g : Given) → IsDriving (record { given = g; history = []; room = 0 })
unfolding replay
begun g = record { driven = tt; free = refl }

pub driven_result : {E : Type 0} (r : Result Finished E) (g : Given) (es : List Entry) → IsDrivenFrom (plan_of g) es (opening (plan_of g))
    → IfOk r (IsFinished g) → IfOk r (λ f. f.history ≡ es) → IfOk r (λ f. IsDriven (plan_of g) f.history)
driven_result (Ok f) g es d h e = record { driven = subst (λ xs. IsDrivenFrom (plan_of g) xs (opening (plan_of g))) (sym e) d; ended = h.ended }
driven_result (Err e) g es d h same = tt

pub most_result : {E : Type 0} (r : Result Finished E) (g : Given) (most : ℕ) → ((es : List Entry) → IsHistory (plan_of g) es → length es ≤ most)
    → IfOk r (IsFinished g) → IfOk r (λ f. length f.history ≤ most)
most_result (Ok f) g most all h = all f.history h.legal
most_result (Err e) g most all h = tt
