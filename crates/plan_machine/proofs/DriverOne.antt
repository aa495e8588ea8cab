-- Two histories of the lone driver are one.
use Rattle.std.proofs.Common.{◌≡◌, ℕ, ◌<◌, ◌≤◌, ◌⊎◌, List, [], ◌∷◌, inl, inr, refl, sym, ◌∙◌, ap, arith, subst, Some, None}
use Rattle.std.proofs.lemmas.Bool.{cases_lt}
use Rattle.plan_machine.specs.declared.entry.Job.{Job}
use Rattle.plan_machine.specs.Upkeep.{IsUpkeep}
use Rattle.plan_machine.specs.declared.entry.Entry.{Entry}
use Rattle.plan_machine.specs.declared.entry.Entry.TheVariants.{Claim, Deliver, Pause, Resume, Finish, Stop, Fail}
use Rattle.plan_machine.specs.Plan.{Plan}
use Rattle.plan_machine.specs.State.{State}
use Rattle.plan_machine.specs.Enabled.{Enabled, HasTask}
use Rattle.plan_machine.specs.After.{after}
use Rattle.plan_machine.specs.History.{replay, IsEnded}
use Rattle.plan_machine.specs.Driver.{NoUpkeep, NoneOf, IsLowest, IsPreferred, place_of, IsDriverEntry, IsDrivenFrom, IsUpkeepChoice, IsClaimChoice}

module _ {R : Type 0} (P : Plan R) where
  lowest_same : (s : State R) (entry : ℕ → Entry) (m n : ℕ) → IsLowest P s entry m → IsLowest P s entry n → entry m ≡ entry n
  lowest_same s entry m n a b = ap entry (go (cases_lt m n) (cases_lt n m))
    where
      go : (m < n) ⊎ (n ≤ m) → (n < m) ⊎ (m ≤ n) → m ≡ n
      go (inl low) d = absurd (b.1 m low a.0)
      go (inr le) (inl low) = absurd (a.1 n low b.0)
      go (inr le) (inr ge) = omega arith

  -- of two claims that are each preferred to the other
  claims_same : (m n : ℕ) (i j : Job) (k l : ℕ) → IsPreferred m i k n j l → IsPreferred n j l m i k → Claim 1 m i k ≡ Claim 1 n j l
  claims_same m n i j k l (inl a) (inl b) = absurd (omega arith)
  claims_same m n i j k l (inl a) (inr b) = absurd (let e = b.0 in omega arith)
  claims_same m n i j k l (inr a) (inl b) = absurd (let e = a.0 in omega arith)
  claims_same m n i j k l (inr a) (inr b) = go a.1 b.1
    where
      go : (place_of i < place_of j) ⊎ ((i ≡ j) × (k ≤ l)) → (place_of j < place_of i) ⊎ ((j ≡ i) × (l ≤ k)) → Claim 1 m i k ≡ Claim 1 n j l
      go (inl c) (inl d) = absurd (omega arith)
      go (inl c) (inr d) = absurd (let e = ap place_of d.0 in omega arith)
      go (inr c) (inl d) = absurd (let e = ap place_of c.0 in omega arith)
      go (inr c) (inr d) = let e = a.0 in let f = c.0 in let g : k ≡ l = omega (arith, c.1, d.1) in cc

  stop_chosen : (s : State R) (x : Entry) (n : ℕ) → IsUpkeepChoice P s x → IsLowest P s Stop n → x ≡ Stop n
  stop_chosen s (Claim w m job k) n c h = absurd c
  stop_chosen s (Deliver w) n c h = absurd c
  stop_chosen s (Pause m) n c h = absurd (c.0 n h.0)
  stop_chosen s (Resume m) n c h = absurd (c.0 n h.0)
  stop_chosen s (Finish m) n c h = absurd (c.0 n h.0)
  stop_chosen s (Stop m) n c h = lowest_same s Stop m n c h
  stop_chosen s (Fail w) n c h = absurd c

  pause_chosen : (s : State R) (x : Entry) (n : ℕ) → IsUpkeepChoice P s x → NoneOf P s Stop → IsLowest P s Pause n → x ≡ Pause n
  pause_chosen s (Claim w m job k) n c no_stop h = absurd c
  pause_chosen s (Deliver w) n c no_stop h = absurd c
  pause_chosen s (Pause m) n c no_stop h = lowest_same s Pause m n c.1 h
  pause_chosen s (Resume m) n c no_stop h = absurd (c.1 n h.0)
  pause_chosen s (Finish m) n c no_stop h = absurd (c.1 n h.0)
  pause_chosen s (Stop m) n c no_stop h = absurd (no_stop m c.0)
  pause_chosen s (Fail w) n c no_stop h = absurd c

  finish_chosen : (s : State R) (x : Entry) (n : ℕ) → IsUpkeepChoice P s x → NoneOf P s Stop → NoneOf P s Pause → IsLowest P s Finish n → x ≡ Finish n
  finish_chosen s (Claim w m job k) n c no_stop no_pause h = absurd c
  finish_chosen s (Deliver w) n c no_stop no_pause h = absurd c
  finish_chosen s (Pause m) n c no_stop no_pause h = absurd (no_pause m c.1.0)
  finish_chosen s (Resume m) n c no_stop no_pause h = absurd (c.2 n h.0)
  finish_chosen s (Finish m) n c no_stop no_pause h = lowest_same s Finish m n c.2 h
  finish_chosen s (Stop m) n c no_stop no_pause h = absurd (no_stop m c.0)
  finish_chosen s (Fail w) n c no_stop no_pause h = absurd c

  resume_chosen : (s : State R) (x : Entry) (n : ℕ) → IsUpkeepChoice P s x → NoneOf P s Stop → NoneOf P s Pause → NoneOf P s Finish → IsLowest P s Resume n → x ≡ Resume n
  resume_chosen s (Claim w m job k) n c no_stop no_pause no_finish h = absurd c
  resume_chosen s (Deliver w) n c no_stop no_pause no_finish h = absurd c
  resume_chosen s (Pause m) n c no_stop no_pause no_finish h = absurd (no_pause m c.1.0)
  resume_chosen s (Resume m) n c no_stop no_pause no_finish h = lowest_same s Resume m n c.3 h
  resume_chosen s (Finish m) n c no_stop no_pause no_finish h = absurd (no_finish m c.2.0)
  resume_chosen s (Stop m) n c no_stop no_pause no_finish h = absurd (no_stop m c.0)
  resume_chosen s (Fail w) n c no_stop no_pause no_finish h = absurd c

  -- with nothing in hand, and upkeep due, the driver does the upkeep that is chosen
  upkeep_due : (s : State R) (x y : Entry) → s.tasks 1 ≡ None → IsUpkeep y → Enabled P s y → IsDriverEntry P s x → IsUpkeepChoice P s x
  upkeep_due s (Claim w n job k) y free up can d = absurd (d.2 y up can)
  upkeep_due s (Deliver w) y free up can d = let (at, (t, e)) = d.1 in let f : Some t ≡ None = sym e ∙ free in absurd (cc)
  upkeep_due s (Pause e) y free up can d = d.2
  upkeep_due s (Resume e) y free up can d = d.2
  upkeep_due s (Finish n) y free up can d = d.2
  upkeep_due s (Stop n) y free up can d = d.2
  upkeep_due s (Fail w) y free up can d = absurd d

  in_hand : (s : State R) (x : Entry) → HasTask P s 1 → IsDriverEntry P s x → x ≡ Deliver 1
  in_hand s (Claim w n job k) (at, (t, e)) d = let f : Some t ≡ None = sym e ∙ d.3.0.0.free in absurd (cc)
  in_hand s (Deliver w) (at, (t, e)) d = ap Deliver d.0
  in_hand s (Pause n) (at, (t, e)) d = let f : Some t ≡ None = sym e ∙ d.0 in absurd (cc)
  in_hand s (Resume n) (at, (t, e)) d = let f : Some t ≡ None = sym e ∙ d.0 in absurd (cc)
  in_hand s (Finish n) (at, (t, e)) d = let f : Some t ≡ None = sym e ∙ d.0 in absurd (cc)
  in_hand s (Stop n) (at, (t, e)) d = let f : Some t ≡ None = sym e ∙ d.0 in absurd (cc)
  in_hand s (Fail w) h d = absurd d

  claims : (s : State R) (x : Entry) (n : ℕ) (job : Job) (k : ℕ) → s.tasks 1 ≡ None → NoUpkeep P s → IsClaimChoice P s 1 n job k → IsDriverEntry P s x → x ≡ Claim 1 n job k
  claims s (Claim w m i l) n job k free quiet c d =
      let other = d.3 in
      let e = d.0 in
      let same = claims_same m n i job l k (other.1 n job k c.0) (c.1 m i l other.0) in
      cc
  claims s (Deliver w) n job k free quiet c d = let (at, (t, e)) = d.1 in let f : Some t ≡ None = sym e ∙ free in absurd (cc)
  claims s (Pause m) n job k free quiet c d = absurd (quiet (Pause m) tt d.2.1.0)
  claims s (Resume m) n job k free quiet c d = absurd (quiet (Resume m) tt d.2.3.0)
  claims s (Finish m) n job k free quiet c d = absurd (quiet (Finish m) tt d.2.2.0)
  claims s (Stop m) n job k free quiet c d = absurd (quiet (Stop m) tt d.2.0)
  claims s (Fail w) n job k free quiet c d = absurd d

  pub same_entry : (s : State R) (x y : Entry) → IsDriverEntry P s x → IsDriverEntry P s y → x ≡ y
  same_entry s x (Claim w n job k) a b = let q = claims s x n job k b.3.0.0.free b.2 b.3 a in let e = b.0 in cc
  same_entry s x (Deliver w) a b = in_hand s x b.1 a ∙ ap Deliver (sym b.0)
  same_entry s x (Pause n) a b = pause_chosen s x n (upkeep_due s x (Pause n) b.0 tt b.2.1.0 a) b.2.0 b.2.1
  same_entry s x (Resume n) a b = resume_chosen s x n (upkeep_due s x (Resume n) b.0 tt b.2.3.0 a) b.2.0 b.2.1 b.2.2 b.2.3
  same_entry s x (Finish n) a b = finish_chosen s x n (upkeep_due s x (Finish n) b.0 tt b.2.2.0 a) b.2.0 b.2.1 b.2.2
  same_entry s x (Stop n) a b = stop_chosen s x n (upkeep_due s x (Stop n) b.0 tt b.2.0 a) b.2
  same_entry s x (Fail w) a b = absurd b

  none_ended : (s : State R) (x : Entry) → IsEnded P s → IsDriverEntry P s x → ⊥
  none_ended s (Claim w n job k) e d = d.1 e
  none_ended s (Deliver w) e d = let (at, (t, is)) = d.1 in let f : Some t ≡ None = sym is ∙ e.idle 1 at in cc
  none_ended s (Pause n) e d = d.1 e
  none_ended s (Resume n) e d = d.1 e
  none_ended s (Finish n) e d = d.1 e
  none_ended s (Stop n) e d = d.1 e
  none_ended s (Fail w) e d = d

  pub driven_same : (es es' : List Entry) (s : State R) → IsDrivenFrom P es s → IsEnded P (replay P es s) → IsDrivenFrom P es' s → IsEnded P (replay P es' s) → es ≡ es'
  unfolding replay
  driven_same [] [] s d e d' e' = refl
  driven_same [] (y ∷ es') s d e d' e' = absurd (none_ended s y e d'.0)
  driven_same (x ∷ es) [] s d e d' e' = absurd (none_ended s x e' d.0)
  driven_same (x ∷ es) (y ∷ es') s d e d' e' =
      let q = same_entry s x y d.0 d'.0 in
      let r = driven_same es es' (after P s x) d.1 e (subst (λ z. IsDrivenFrom P es' (after P s z)) (sym q) d'.1) (subst (λ z. IsEnded P (replay P es' (after P s z))) (sym q) e') in
      cc
