-- A history of the example with two workers: edge 1 is paused and resumed, and the fetch stops the nodes
-- below it while one of them has a task in flight, whose delivery is dropped.
use Rattle.std.proofs.Common.{◌≡◌, ℕ, zero, suc, ◌<◌, ◌≤◌, Bool, true, false, nat_lt, not, ◌&&◌, ◌⊎◌, List, [], ◌∷◌, length, inl, inr, refl, arith, subst, Some, None, lit≤, lit<, lt-ltb}
use Rattle.plan_machine.specs.declared.entry.Phase.TheVariants.{Done}
use Rattle.plan_machine.specs.declared.entry.Job.TheVariants.{Emit, Fold, Seal, Stream, Tail}
use Rattle.plan_machine.specs.declared.entry.Entry.{Entry}
use Rattle.plan_machine.specs.declared.entry.Entry.TheVariants.{Claim, Deliver, Pause, Resume, Finish, Stop}
use Rattle.plan_machine.specs.Batch.{Batch, gathered, count_at}
use Rattle.plan_machine.specs.Plan.{IsNode, IsWorker}
use Rattle.plan_machine.specs.State.{State}
use Rattle.plan_machine.specs.Enabled.{Ready, CanStop, HasFront, front}
use Rattle.plan_machine.specs.After.{after}
use Rattle.plan_machine.specs.History.{replay, IsHistory, state_after, IsEnded}
use Rattle.plan_machine.proofs.WitnessRun.{both_workers}
use Rattle.plan_machine.proofs.WitnessStop.{plan, six}

abbrev pub history : List Entry
history =
    Claim 1 1 Emit 0 ∷ Deliver 1 ∷ Claim 2 1 Emit 1 ∷ Deliver 2 ∷ Pause 1 ∷ Claim 1 2 Stream 0 ∷ Deliver 1 ∷ Claim 2 3 Fold 0
    ∷ Deliver 2 ∷ Claim 1 2 Stream 0 ∷ Deliver 1 ∷ Resume 1 ∷ Claim 2 3 Fold 0 ∷ Deliver 2 ∷ Claim 1 1 Emit 2 ∷ Deliver 1
    ∷ Claim 2 2 Stream 0 ∷ Finish 1 ∷ Deliver 2 ∷ Claim 1 3 Fold 0 ∷ Finish 2 ∷ Deliver 1 ∷ Claim 1 3 Seal 0 ∷ Deliver 1
    ∷ Claim 2 3 Tail 0 ∷ Claim 1 3 Tail 1 ∷ Deliver 2 ∷ Claim 2 4 Fold 0 ∷ Deliver 2 ∷ Deliver 1 ∷ Finish 3 ∷ Claim 2 4 Fold 0
    ∷ Deliver 2 ∷ Claim 2 4 Seal 0 ∷ Deliver 2 ∷ Claim 1 4 Tail 0 ∷ Deliver 1 ∷ Claim 2 5 Fold 0 ∷ Claim 1 4 Tail 1 ∷ Deliver 2
    ∷ Stop 5 ∷ Claim 2 5 Seal 0 ∷ Deliver 2 ∷ Claim 2 5 Tail 0 ∷ Deliver 2 ∷ Finish 5 ∷ Claim 2 6 Fold 0 ∷ Deliver 1
    ∷ Deliver 2 ∷ Claim 1 6 Seal 0 ∷ Deliver 1 ∷ Finish 6 ∷ []

-- an edge that isn't to be paused
abbrev Calm : State ℕ → ℕ → Type 0
Calm s e = (nat_lt 1 (length (s.waiting e)) && not (s.paused e)) ≡ false

calm_edge : (s : State ℕ) (e : ℕ) → Calm s e → 1 < length (s.waiting e) → s.paused e ≡ false → ⊥
calm_edge s e calm over runs = go (nat_lt 1 (length (s.waiting e))) (s.paused e) (lt-ltb 1 (length (s.waiting e)) over) runs calm
  where
    go : (a b : Bool) → a ≡ true → b ≡ false → (a && not b) ≡ false → ⊥
    go true true p q r = cc
    go true false p q r = cc
    go false b p q r = cc

-- where nothing was folded no row is there from the front on
no_front : HasFront {R = ℕ} [] 1 → ⊥
no_front f = go f.upto f.there f.enough
  where
    go : (k : ℕ) → ((i : ℕ) → i < k → 1 ≤ count_at {R = ℕ} i []) → 1 ≤ length (front {R = ℕ} k []) → ⊥
    go zero there enough = omega arith
    go (suc k) there enough = let a = there k (omega arith) in omega arith

-- the fetch isn't to stop its input: it folded nothing yet, or its input has ended
no_stop : (s : State ℕ) → (s.folded 5 ≡ []) ⊎ (s.phase 4 ≡ Done) → (m : ℕ) → CanStop plan s m → ⊥
no_stop s why m stop =
    six (λ n. CanStop plan s n → ⊥) (λ c. let e = c.is_fetch in cc) (λ c. let e = c.is_fetch in cc) (λ c. let e = c.is_fetch in cc) (λ c. let e = c.is_fetch in cc)
    (λ c. fetch why c) (λ c. let e = c.is_fetch in cc) m stop.node stop
  where
    fetch : (s.folded 5 ≡ []) ⊎ (s.phase 4 ≡ Done) → CanStop plan s 5 → ⊥
    fetch (inl none) c =
        let e : Some 1 ≡ Some c.wanted = c.is_fetch in
        let d : c.wanted ≡ 1 = cc in
        no_front (subst (λ (xs : List (Batch ℕ)). HasFront xs 1) none (subst (λ k. HasFront (s.folded 5) k) d c.front))
    fetch (inr done) c = c.open_input done

ready : (s : State ℕ) (w n : ℕ) → IsNode plan n → IsWorker plan w → s.tasks w ≡ None → s.failed ≡ false → Calm s 1 × Calm s 2 × Calm s 3 × Calm s 4 × Calm s 5 → (s.folded 5 ≡ []) ⊎ (s.phase 4 ≡ Done) → Ready plan s w n
ready s w n node at free sound calm why =
    record {
      node = node;
      worker = at;
      free = free;
      sound = sound;
      no_stop = no_stop s why;
      no_pause = λ e pause.
          six (λ k. k < 6 → 1 < length (s.waiting k) → s.paused k ≡ false → ⊥)
          (λ low. calm_edge s 1 calm.0) (λ low. calm_edge s 2 calm.1) (λ low. calm_edge s 3 calm.2) (λ low. calm_edge s 4 calm.3) (λ low. calm_edge s 5 calm.4) (λ low. absurd (omega arith))
          e (pause.0.0, (let d = pause.0.1 in omega arith)) pause.0.1 pause.1 pause.2;
    }

below_one : (Q : ℕ → Type 0) → Q 0 → (i : ℕ) → i < 1 → Q i
below_one Q a zero low = a
below_one Q a (suc i) low = absurd (omega arith)

pub legal : IsHistory plan history
unfolding after gathered
legal = (
  (ready _ 1 1 (lit≤ tt, lit≤ tt) (lit≤ tt, lit≤ tt) refl refl (refl, refl, refl, refl, refl) (inl refl), (refl, refl, lit< tt, refl)),
  (
    ((lit≤ tt, lit≤ tt), (_, refl)),
    (
      (ready _ 2 1 (lit≤ tt, lit≤ tt) (lit≤ tt, lit≤ tt) refl refl (refl, refl, refl, refl, refl) (inl refl), (refl, refl, lit< tt, refl)),
      (
        ((lit≤ tt, lit≤ tt), (_, refl)),
        (
          (refl, ((lit≤ tt, lit< tt), lit< tt, refl)),
          (
            (ready _ 1 2 (lit≤ tt, lit≤ tt) (lit≤ tt, lit≤ tt) refl refl (refl, refl, refl, refl, refl) (inl refl), (refl, lit< tt, refl)),
            (
              ((lit≤ tt, lit≤ tt), (_, refl)),
              (
                (ready _ 2 3 (lit≤ tt, lit≤ tt) (lit≤ tt, lit≤ tt) refl refl (refl, refl, refl, refl, refl) (inl refl), (refl, lit< tt)),
                (
                  ((lit≤ tt, lit≤ tt), (_, refl)),
                  (
                    (ready _ 1 2 (lit≤ tt, lit≤ tt) (lit≤ tt, lit≤ tt) refl refl (refl, refl, refl, refl, refl) (inl refl), (refl, lit< tt, refl)),
                    (
                      ((lit≤ tt, lit≤ tt), (_, refl)),
                      (
                        (refl, ((lit≤ tt, lit< tt), refl, lit≤ tt)),
                        (
                          (ready _ 2 3 (lit≤ tt, lit≤ tt) (lit≤ tt, lit≤ tt) refl refl (refl, refl, refl, refl, refl) (inl refl), (refl, lit< tt)),
                          (
                            ((lit≤ tt, lit≤ tt), (_, refl)),
                            (
                              (ready _ 1 1 (lit≤ tt, lit≤ tt) (lit≤ tt, lit≤ tt) refl refl (refl, refl, refl, refl, refl) (inl refl), (refl, refl, lit< tt, refl)),
                              (
                                ((lit≤ tt, lit≤ tt), (_, refl)),
                                (
                                  (ready _ 2 2 (lit≤ tt, lit≤ tt) (lit≤ tt, lit≤ tt) refl refl (refl, refl, refl, refl, refl) (inl refl), (refl, lit< tt, refl)),
                                  (
                                    (refl, (lit≤ tt, lit≤ tt), refl, refl),
                                    (
                                      ((lit≤ tt, lit≤ tt), (_, refl)),
                                      (
                                        (ready _ 1 3 (lit≤ tt, lit≤ tt) (lit≤ tt, lit≤ tt) refl refl (refl, refl, refl, refl, refl) (inl refl), (refl, lit< tt)),
                                        (
                                          (refl, (lit≤ tt, lit≤ tt), refl, (refl, (refl, refl))),
                                          (
                                            ((lit≤ tt, lit≤ tt), (_, refl)),
                                            (
                                              (ready _ 1 3 (lit≤ tt, lit≤ tt) (lit≤ tt, lit≤ tt) refl refl (refl, refl, refl, refl, refl) (inl refl), (refl, refl, (refl, refl), refl)),
                                              (
                                                ((lit≤ tt, lit≤ tt), (_, refl)),
                                                (
                                                  (ready _ 2 3 (lit≤ tt, lit≤ tt) (lit≤ tt, lit≤ tt) refl refl (refl, refl, refl, refl, refl) (inl refl), (refl, refl, lit< tt, refl)),
                                                  (
                                                    (ready _ 1 3 (lit≤ tt, lit≤ tt) (lit≤ tt, lit≤ tt) refl refl (refl, refl, refl, refl, refl) (inl refl), (refl, refl, lit< tt, refl)),
                                                    (
                                                      ((lit≤ tt, lit≤ tt), (_, refl)),
                                                      (
                                                        (ready _ 2 4 (lit≤ tt, lit≤ tt) (lit≤ tt, lit≤ tt) refl refl (refl, refl, refl, refl, refl) (inl refl), (refl, lit< tt)),
                                                        (
                                                          ((lit≤ tt, lit≤ tt), (_, refl)),
                                                          (
                                                            ((lit≤ tt, lit≤ tt), (_, refl)),
                                                            (
                                                              (refl, (lit≤ tt, lit≤ tt), refl, refl),
                                                              (
                                                                (ready _ 2 4 (lit≤ tt, lit≤ tt) (lit≤ tt, lit≤ tt) refl refl (refl, refl, refl, refl, refl) (inl refl), (refl, lit< tt)),
                                                                (
                                                                  ((lit≤ tt, lit≤ tt), (_, refl)),
                                                                  (
                                                                    (ready _ 2 4 (lit≤ tt, lit≤ tt) (lit≤ tt, lit≤ tt) refl refl (refl, refl, refl, refl, refl) (inl refl), (refl, refl, (refl, refl), refl)),
                                                                    (
                                                                      ((lit≤ tt, lit≤ tt), (_, refl)),
                                                                      (
                                                                        (ready _ 1 4 (lit≤ tt, lit≤ tt) (lit≤ tt, lit≤ tt) refl refl (refl, refl, refl, refl, refl) (inl refl), (refl, refl, lit< tt, refl)),
                                                                        (
                                                                          ((lit≤ tt, lit≤ tt), (_, refl)),
                                                                          (
                                                                            (ready _ 2 5 (lit≤ tt, lit≤ tt) (lit≤ tt, lit≤ tt) refl refl (refl, refl, refl, refl, refl) (inl refl), (refl, lit< tt)),
                                                                            (
                                                                              (ready _ 1 4 (lit≤ tt, lit≤ tt) (lit≤ tt, lit≤ tt) refl refl (refl, refl, refl, refl, refl) (inl refl), (refl, refl, lit< tt, refl)),
                                                                              (
                                                                                ((lit≤ tt, lit≤ tt), (_, refl)),
                                                                                (
                                                                                  (refl, record { node = (lit≤ tt, lit≤ tt); wanted = 1; is_fetch = refl; folding = refl; open_input = λ e. cc; front = record { upto = 1; there = below_one _ (lit≤ tt); enough = lit≤ tt } }),
                                                                                  (
                                                                                    (ready _ 2 5 (lit≤ tt, lit≤ tt) (lit≤ tt, lit≤ tt) refl refl (refl, refl, refl, refl, refl) (inr refl), (refl, refl, (refl, refl), refl)),
                                                                                    (
                                                                                      ((lit≤ tt, lit≤ tt), (_, refl)),
                                                                                      (
                                                                                        (ready _ 2 5 (lit≤ tt, lit≤ tt) (lit≤ tt, lit≤ tt) refl refl (refl, refl, refl, refl, refl) (inr refl), (refl, refl, lit< tt, refl)),
                                                                                        (
                                                                                          ((lit≤ tt, lit≤ tt), (_, refl)),
                                                                                          (
                                                                                            (refl, (lit≤ tt, lit≤ tt), refl, refl),
                                                                                            (
                                                                                              (ready _ 2 6 (lit≤ tt, lit≤ tt) (lit≤ tt, lit≤ tt) refl refl (refl, refl, refl, refl, refl) (inr refl), (refl, lit< tt)),
                                                                                              (
                                                                                                ((lit≤ tt, lit≤ tt), (_, refl)),
                                                                                                (
                                                                                                  ((lit≤ tt, lit≤ tt), (_, refl)),
                                                                                                  (
                                                                                                    (ready _ 1 6 (lit≤ tt, lit≤ tt) (lit≤ tt, lit≤ tt) refl refl (refl, refl, refl, refl, refl) (inr refl), (refl, refl, (refl, refl), refl)),
                                                                                                    (
                                                                                                      ((lit≤ tt, lit≤ tt), (_, refl)),
                                                                                                      (
                                                                                                        (refl, (lit≤ tt, lit≤ tt), refl, tt),
                                                                                                        tt,
                                                                                                      ),
                                                                                                    ),
                                                                                                  ),
                                                                                                ),
                                                                                              ),
                                                                                            ),
                                                                                          ),
                                                                                        ),
                                                                                      ),
                                                                                    ),
                                                                                  ),
                                                                                ),
                                                                              ),
                                                                            ),
                                                                          ),
                                                                        ),
                                                                      ),
                                                                    ),
                                                                  ),
                                                                ),
                                                              ),
                                                            ),
                                                          ),
                                                        ),
                                                      ),
                                                    ),
                                                  ),
                                                ),
                                              ),
                                            ),
                                          ),
                                        ),
                                      ),
                                    ),
                                  ),
                                ),
                              ),
                            ),
                          ),
                        ),
                      ),
                    ),
                  ),
                ),
              ),
            ),
          ),
        ),
      ),
    ),
  ),
)

pub ended : IsEnded plan (state_after plan history)
unfolding after gathered replay
ended = record { done = refl; sound = refl; idle = both_workers (λ w. (state_after plan history).tasks w ≡ None) refl refl }
