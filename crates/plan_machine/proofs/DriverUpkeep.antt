-- It can be told what upkeep is due, and the first of it.
use Rattle.std.proofs.Common.{◌≡◌, ℕ, zero, suc, ◌+◌, ◌<◌, ◌≤◌, Bool, true, false, cond, max, ◌⊎◌, List, [], ◌∷◌, length, inl, inr, refl, sym, ◌∙◌, arith, subst, Option, Some, None, eqb-true}
use Rattle.std.proofs.lemmas.Bool.{cases_eq, cases_lt}
use Rattle.plan_machine.specs.declared.entry.Phase.{Phase}
use Rattle.plan_machine.specs.declared.entry.Phase.TheVariants.{Emitting, Folding, Streaming, Tailing, Sealed, Done}
use Rattle.plan_machine.specs.declared.entry.Entry.{Entry}
use Rattle.plan_machine.specs.declared.entry.Entry.TheVariants.{Claim, Deliver, Pause, Resume, Finish, Stop, Fail}
use Rattle.plan_machine.specs.Batch.{Batch, parts, has_key, key, count_at}
use Rattle.plan_machine.specs.Plan.{Plan, IsNode, IsEdge, folds_from, streams_from}
use Rattle.plan_machine.specs.State.{State, IsEndedEdge, tail_rows, tasks_at}
use Rattle.plan_machine.specs.Enabled.{Enabled, MayFinish, CanStop, HasFront, front}
use Rattle.plan_machine.specs.Driver.{NoUpkeep, IsUpkeepChoice, NoneOf}
use Rattle.plan_machine.specs.Upkeep.{IsUpkeep}
use Rattle.plan_machine.proofs.DriverSearch.{Known, both, known_by, known_lt, known_le, known_bool, known_nil, known_phase, known_three, known_four, known_not, Lowest, lowest}

module _ {R : Type 0} where
  -- above all indexes of the batches
  top : List (Batch R) → ℕ
  top [] = 0
  top (x ∷ xs) = max (suc (key x)) (top xs)

  count_top : (i : ℕ) (xs : List (Batch R)) → top xs ≤ i → count_at i xs ≡ 0
  unfolding top
  count_top i [] h = refl
  count_top i (x ∷ xs) h = go (has_key i x) refl (count_top i xs (omega arith))
    where
      go : (b : Bool) → has_key i x ≡ b → count_at i xs ≡ 0 → cond b 1 0 + count_at i xs ≡ 0
      go true e rest = let d = eqb-true (key x) i e in absurd (omega arith)
      go false e rest = omega arith

  abbrev There : List (Batch R) → ℕ → Type 0
  There xs k = (i : ℕ) → i < k → 1 ≤ count_at i xs

  known_there : (xs : List (Batch R)) (k : ℕ) → Known (There xs k)
  known_there xs zero = inl (λ i low. absurd (omega arith))
  known_there xs (suc k) = go (known_there xs k) (known_le 1 (count_at k xs))
    where
      go : Known (There xs k) → Known (1 ≤ count_at k xs) → Known (There xs (suc k))
      go (inl t) (inl c) = inl (λ i low. elim (cases_eq i k) [ inl e ↦ subst (λ j. 1 ≤ count_at j xs) (sym e) c | inr ne ↦ t i (omega arith) ])
      go (inl t) (inr nc) = inr (λ u. nc (u k (omega arith)))
      go (inr nt) c = inr (λ u. nt (λ i low. u i (omega arith)))

  -- no more are there without a gap than there are indexes
  there_low : (xs : List (Batch R)) (k : ℕ) → There xs k → k ≤ top xs
  there_low xs k t = go (cases_lt (top xs) k)
    where
      go : (top xs < k) ⊎ (k ≤ top xs) → k ≤ top xs
      go (inl low) = let a = t (top xs) low in let b = count_top (top xs) xs (omega arith) in absurd (omega arith)
      go (inr le) = le

  known_front : (xs : List (Batch R)) (wanted : ℕ) → Known (HasFront xs wanted)
  known_front xs wanted =
      go (lowest (λ k. There xs k × (wanted ≤ length (front k xs))) (top xs)
      (λ k. both (known_there xs k) (known_le wanted (length (front k xs)))) (λ k q. there_low xs k q.0))
    where
      go : Lowest (λ k. There xs k × (wanted ≤ length (front k xs))) ⊎ ((k : ℕ) → There xs k × (wanted ≤ length (front k xs)) → ⊥) → Known (HasFront xs wanted)
      go (inl l) = inl (record { upto = l.at; there = l.holds.0; enough = l.holds.1 })
      go (inr none) = inr (λ f. none f.upto (f.there, f.enough))

module _ {R : Type 0} (P : Plan R) where
  pub known_node : (n : ℕ) → Known (IsNode P n)
  known_node n = both (known_le 1 n) (known_le n P.sink)

  known_edge : (e : ℕ) → Known (IsEdge P e)
  known_edge e = both (known_le 1 e) (known_lt e P.sink)

  abbrev StopParts : State R → ℕ → ℕ → Type 0
  StopParts s n wanted = ((IsNode P n × (s.phase n ≡ Folding)) × (s.phase (folds_from P n) ≡ Done → ⊥)) × HasFront (s.folded n) wanted

  known_stop : (s : State R) (n : ℕ) → Known (CanStop P s n)
  known_stop s n = go (P.node n).wanted refl
    where
      made : (wanted : ℕ) → (P.node n).wanted ≡ Some wanted → StopParts s n wanted → CanStop P s n
      made wanted e p = record { node = p.0.0.0; wanted = wanted; is_fetch = e; folding = p.0.0.1; open_input = p.0.1; front = p.1 }

      taken : (wanted : ℕ) → (P.node n).wanted ≡ Some wanted → CanStop P s n → StopParts s n wanted
      taken wanted e c =
          let same : Some c.wanted ≡ Some wanted = sym c.is_fetch ∙ e in
          let d : c.wanted ≡ wanted = cc in
          (((c.node, c.folding), c.open_input), subst (λ m. HasFront (s.folded n) m) d c.front)

      go : (o : Option ℕ) → (P.node n).wanted ≡ o → Known (CanStop P s n)
      go None e = inr (λ c. let d : Some c.wanted ≡ None = sym c.is_fetch ∙ e in absurd (cc))
      go (Some wanted) e =
          known_by (made wanted e) (taken wanted e)
          (both (both (both (known_node n) (known_phase (s.phase n) Folding)) (known_not (known_phase (s.phase (folds_from P n)) Done))) (known_front (s.folded n) wanted))

  pub known_ended : (s : State R) (e : ℕ) → Known (IsEndedEdge P s e)
  known_ended s e = both (known_phase (s.phase e) Done) (known_nil (s.waiting e))

  known_finish : (s : State R) (n : ℕ) (p : Phase) → Known (MayFinish P s n p)
  known_finish s n Emitting = cases_eq (s.next n) (parts P.batch (P.node n).table)
  known_finish s n Folding = inr (λ h. h)
  known_finish s n Streaming = both (known_bool (P.node n).tails false) (known_ended s (streams_from P n))
  known_finish s n Tailing = cases_eq (s.next n) (parts P.batch (tail_rows P s n))
  known_finish s n Sealed = inl tt
  known_finish s n Done = inr (λ h. h)

  lowest_stop : (s : State R) → Lowest (λ n. Enabled P s (Stop n)) ⊎ NoneOf P s Stop
  lowest_stop s = lowest (λ n. Enabled P s (Stop n)) P.sink (λ n. both (known_bool s.failed false) (known_stop s n)) (λ n h. h.1.node.1)

  lowest_pause : (s : State R) → Lowest (λ n. Enabled P s (Pause n)) ⊎ NoneOf P s Pause
  lowest_pause s =
      lowest (λ n. Enabled P s (Pause n)) P.sink
      (λ n. both (known_bool s.failed false) (known_three (known_edge n) (known_lt P.pause (length (s.waiting n))) (known_bool (s.paused n) false)))
      (λ n h. let a = h.1.0.1 in omega arith)

  lowest_finish : (s : State R) → Lowest (λ n. Enabled P s (Finish n)) ⊎ NoneOf P s Finish
  lowest_finish s =
      lowest (λ n. Enabled P s (Finish n)) P.sink
      (λ n. known_four (known_bool s.failed false) (known_node n) (known_nil (tasks_at P s n)) (known_finish s n (s.phase n)))
      (λ n h. h.1.1)

  lowest_resume : (s : State R) → Lowest (λ n. Enabled P s (Resume n)) ⊎ NoneOf P s Resume
  lowest_resume s =
      lowest (λ n. Enabled P s (Resume n)) P.sink
      (λ n. both (known_bool s.failed false) (known_three (known_edge n) (known_bool (s.paused n) true) (known_le (length (s.waiting n)) P.resume)))
      (λ n h. let a = h.1.0.1 in omega arith)

  -- the upkeep that is chosen, or there is none
  pub upkeep_or_none : (s : State R) → ((x : Entry) × IsUpkeep x × IsUpkeepChoice P s x) ⊎ NoUpkeep P s
  upkeep_or_none s = go (lowest_stop s) (lowest_pause s) (lowest_finish s) (lowest_resume s)
    where
      none : NoneOf P s Stop → NoneOf P s Pause → NoneOf P s Finish → NoneOf P s Resume → NoUpkeep P s
      none a b c d (Claim w n job k) up can = absurd up
      none a b c d (Deliver w) up can = absurd up
      none a b c d (Pause e) up can = b e can
      none a b c d (Resume e) up can = d e can
      none a b c d (Finish n) up can = c n can
      none a b c d (Stop n) up can = a n can
      none a b c d (Fail w) up can = absurd up

      go : Lowest (λ n. Enabled P s (Stop n)) ⊎ NoneOf P s Stop → Lowest (λ n. Enabled P s (Pause n)) ⊎ NoneOf P s Pause → Lowest (λ n. Enabled P s (Finish n)) ⊎ NoneOf P s Finish → Lowest (λ n. Enabled P s (Resume n)) ⊎ NoneOf P s Resume → ((x : Entry) × IsUpkeep x × IsUpkeepChoice P s x) ⊎ NoUpkeep P s
      go (inl l) b c d = inl (Stop l.at, tt, (l.holds, l.none_below))
      go (inr a) (inl l) c d = inl (Pause l.at, tt, (a, (l.holds, l.none_below)))
      go (inr a) (inr b) (inl l) d = inl (Finish l.at, tt, (a, b, (l.holds, l.none_below)))
      go (inr a) (inr b) (inr c) (inl l) = inl (Resume l.at, tt, (a, b, c, (l.holds, l.none_below)))
      go (inr a) (inr b) (inr c) (inr d) = inr (none a b c d)
