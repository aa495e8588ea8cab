-- A worker that can claim has a preferred claim.
use Rattle.std.proofs.Common.{◌≡◌, ℕ, zero, suc, ◌+◌, ◌<◌, ◌≤◌, true, false, ◌⊎◌, length, inl, inr, refl, sym, ◌∙◌, ap, arith, subst}
use Rattle.std.proofs.lemmas.Bool.{cases_eq, cases_lt}
use Rattle.plan_machine.specs.declared.entry.Phase.TheVariants.{Emitting, Folding, Streaming, Tailing}
use Rattle.plan_machine.specs.declared.entry.Job.{Job}
use Rattle.plan_machine.specs.declared.entry.Job.TheVariants.{Emit, Fold, Seal, Stream, Close, Tail}
use Rattle.plan_machine.specs.Batch.{parts}
use Rattle.plan_machine.specs.Plan.{Plan, IsNode, folds_from, streams_from}
use Rattle.plan_machine.specs.State.{State, tail_rows, tasks_at}
use Rattle.plan_machine.specs.Enabled.{Ready, CanDo}
use Rattle.plan_machine.specs.Driver.{IsClaimChoice, CanWork, IsPreferred, place_of}
use Rattle.plan_machine.proofs.DriverUpkeep.{known_node, known_ended}
use Rattle.plan_machine.proofs.DriverSearch.{Known, both, known_lt, known_bool, known_nil, known_phase, known_three, known_four, Lowest, lowest}

-- jobs told apart by their places
job_at : ℕ → Job
job_at zero = Emit
job_at (suc zero) = Fold
job_at (suc (suc zero)) = Seal
job_at (suc (suc (suc zero))) = Stream
job_at (suc (suc (suc (suc zero)))) = Close
job_at (suc (suc (suc (suc (suc n))))) = Tail

job_back : (j : Job) → job_at (place_of j) ≡ j
unfolding job_at
job_back Emit = refl
job_back Fold = refl
job_back Seal = refl
job_back Stream = refl
job_back Close = refl
job_back Tail = refl

pub same_place : (a b : Job) → place_of a ≡ place_of b → a ≡ b
same_place a b e = sym (job_back a) ∙ (ap job_at e ∙ job_back b)

place_low : (j : Job) → place_of j ≤ 5
place_low Emit = omega arith
place_low Fold = omega arith
place_low Seal = omega arith
place_low Stream = omega arith
place_low Close = omega arith
place_low Tail = omega arith

module _ {R : Type 0} (P : Plan R) where
  -- the lowest batch of a job at a node
  pub record FirstBatch (s : State R) (n : ℕ) (job : Job) : Type 0 where
    pub batch : ℕ
    pub can : CanDo P s n job batch
    pub least : (k : ℕ) → CanDo P s n job k → batch ≤ k

  abbrev NoBatch : State R → ℕ → Job → Type 0
  NoBatch s n job = (k : ℕ) → CanDo P s n job k → ⊥

  -- a fact on its own decides whether a job has a batch, where it says which one
  by_fact : {A : Type 0} (s : State R) (n : ℕ) (job : Job) (k : ℕ) → (A → CanDo P s n job k) → ((j : ℕ) → CanDo P s n job j → A × (k ≤ j)) → Known A → FirstBatch s n job ⊎ NoBatch s n job
  by_fact s n job k can back (inl a) = inl (record { batch = k; can = can a; least = λ j c. (back j c).1 })
  by_fact s n job k can back (inr na) = inr (λ j c. na (back j c).0)

  first_batch : (s : State R) (n : ℕ) (job : Job) → FirstBatch s n job ⊎ NoBatch s n job
  first_batch s n Emit =
      by_fact s n Emit (s.next n) (λ a. (a.0, refl, a.1, a.2)) (λ j c. ((c.0, subst (λ m. m < parts P.batch (P.node n).table) (sym c.1) c.2, c.3), (let e = c.1 in omega arith)))
      (known_three (known_phase (s.phase n) Emitting) (known_lt (s.next n) (parts P.batch (P.node n).table)) (known_bool (s.paused n) false))
  first_batch s n Fold =
      by_fact s n Fold 0 (λ a. a) (λ j c. ((c.0, (let e = c.1 in omega arith)), omega arith))
      (both (known_phase (s.phase n) Folding) (known_lt 0 (length (s.waiting (folds_from P n)))))
  first_batch s n Seal =
      by_fact s n Seal 0 (λ a. (a.0, a.1, a.2, refl)) (λ j c. ((c.0, c.1, c.2), omega arith))
      (known_three (known_phase (s.phase n) Folding) (known_nil (tasks_at P s n)) (known_ended P s (folds_from P n)))
  first_batch s n Stream =
      by_fact s n Stream 0 (λ a. a) (λ j c. ((c.0, (let e = c.1 in omega arith), c.2), omega arith))
      (known_three (known_phase (s.phase n) Streaming) (known_lt 0 (length (s.waiting (streams_from P n)))) (known_bool (s.paused n) false))
  first_batch s n Close =
      by_fact s n Close 0 (λ a. (a.0, a.1, a.2, refl, a.3)) (λ j c. ((c.0, c.1, c.2, c.4), omega arith))
      (known_four (known_phase (s.phase n) Streaming) (known_nil (tasks_at P s n)) (known_ended P s (streams_from P n)) (known_bool (P.node n).tails true))
  first_batch s n Tail =
      by_fact s n Tail (s.next n) (λ a. (a.0, refl, a.1, a.2)) (λ j c. ((c.0, subst (λ m. m < parts P.batch (tail_rows P s n)) (sym c.1) c.2, c.3), (let e = c.1 in omega arith)))
      (known_three (known_phase (s.phase n) Tailing) (known_lt (s.next n) (parts P.batch (tail_rows P s n))) (known_bool (s.paused n) false))

  -- the first job at a node
  pub record FirstJob (s : State R) (n : ℕ) : Type 0 where
    pub job : Job
    pub batch : FirstBatch s n job
    pub least : (j : Job) (k : ℕ) → CanDo P s n j k → place_of job ≤ place_of j

  -- no job of an earlier place
  abbrev NoneBefore : State R → ℕ → ℕ → Type 0
  NoneBefore s n place = (j : Job) (k : ℕ) → CanDo P s n j k → place ≤ place_of j

  try_job : (s : State R) (n : ℕ) (job : Job) → NoneBefore s n (place_of job) → FirstJob s n ⊎ NoneBefore s n (place_of job + 1)
  try_job s n job none = go (first_batch s n job)
    where
      later : NoBatch s n job → (j : Job) (k : ℕ) → CanDo P s n j k → (place_of job ≡ place_of j) ⊎ (place_of job ≡ place_of j → ⊥) → place_of job + 1 ≤ place_of j
      later nb j k c (inl e) = absurd (nb k (subst (λ x. CanDo P s n x k) (sym (same_place job j e)) c))
      later nb j k c (inr ne) = let a = none j k c in omega arith

      go : FirstBatch s n job ⊎ NoBatch s n job → FirstJob s n ⊎ NoneBefore s n (place_of job + 1)
      go (inl b) = inl (record { job = job; batch = b; least = none })
      go (inr nb) = inr (λ j k c. later nb j k c (cases_eq (place_of job) (place_of j)))

  then_job : (s : State R) (n : ℕ) (job : Job) → FirstJob s n ⊎ NoneBefore s n (place_of job) → FirstJob s n ⊎ NoneBefore s n (place_of job + 1)
  then_job s n job (inl f) = inl f
  then_job s n job (inr none) = try_job s n job none

  first_job : (s : State R) (n : ℕ) → FirstJob s n ⊎ ((j : Job) (k : ℕ) → CanDo P s n j k → ⊥)
  first_job s n = go (then_job s n Tail (then_job s n Close (then_job s n Stream (then_job s n Seal (then_job s n Fold (then_job s n Emit (inr (λ j k c. omega arith))))))))
    where
      go : FirstJob s n ⊎ NoneBefore s n 6 → FirstJob s n ⊎ ((j : Job) (k : ℕ) → CanDo P s n j k → ⊥)
      go (inl f) = inl f
      go (inr none) = inr (λ j k c. let a = none j k c in let b = place_low j in omega arith)

  abbrev HasJob : State R → ℕ → Type 0
  HasJob s n = IsNode P n × FirstJob s n

  known_job : (s : State R) (n : ℕ) → Known (HasJob s n)
  known_job s n = both (known_node P n) (elim (first_job s n) [ inl f ↦ inl f | inr none ↦ inr (λ f. none f.job f.batch.batch f.batch.can) ])

  has_job : (s : State R) (n : ℕ) (j : Job) (k : ℕ) → IsNode P n → CanDo P s n j k → HasJob s n
  has_job s n j k node c = elim (first_job s n) [ inl f ↦ (node, f) | inr none ↦ absurd (none j k c) ]

  pub first_claim : (s : State R) (w : ℕ) → CanWork P s w → (n : ℕ) × (job : Job) × (k : ℕ) × IsClaimChoice P s w n job k
  first_claim s w (m, i, p, (ready, can)) = go (lowest (HasJob s) P.sink (known_job s) (λ n h. h.0.1))
    where
      ready_at : (n : ℕ) → IsNode P n → Ready P s w n
      ready_at n node = record { node = node; worker = ready.worker; free = ready.free; sound = ready.sound; no_stop = ready.no_stop; no_pause = ready.no_pause }

      by_job : (n : ℕ) (f : FirstJob s n) (j : Job) (k : ℕ) → CanDo P s n j k → (place_of f.job ≡ place_of j) ⊎ (place_of f.job ≡ place_of j → ⊥) → (place_of f.job < place_of j) ⊎ ((f.job ≡ j) × (f.batch.batch ≤ k))
      by_job n f j k c (inl e) = let d = same_place f.job j e in inr (d, f.batch.least k (subst (λ x. CanDo P s n x k) (sym d) c))
      by_job n f j k c (inr ne) = let a = f.least j k c in inl (omega arith)

      by_node : (l : Lowest (HasJob s)) (n : ℕ) (j : Job) (k : ℕ) → IsNode P n → CanDo P s n j k → (l.at ≡ n) ⊎ (l.at ≡ n → ⊥) → IsPreferred l.at l.holds.1.job l.holds.1.batch.batch n j k
      by_node l n j k node c (inl e) =
          let f = l.holds.1 in
          inr (e, by_job l.at f j k (subst (λ x. CanDo P s x j k) (sym e) c) (cases_eq (place_of f.job) (place_of j)))
      by_node l n j k node c (inr ne) = inl (above (cases_lt n l.at))
        where
          above : (n < l.at) ⊎ (l.at ≤ n) → l.at < n
          above (inl low) = absurd (l.none_below n low (has_job s n j k node c))
          above (inr le) = omega arith

      go : Lowest (HasJob s) ⊎ ((n : ℕ) → HasJob s n → ⊥) → (n : ℕ) × (job : Job) × (k : ℕ) × IsClaimChoice P s w n job k
      go (inr none) = absurd (none m (has_job s m i p ready.node can))
      go (inl l) =
          let f = l.holds.1 in
          (l.at, f.job, f.batch.batch, ((ready_at l.at l.holds.0, f.batch.can), (λ n j k e. by_node l n j k e.0.node e.1 (cases_eq l.at n))))
