-- A history of the example that ends: two workers, a batch of the join given in two parts, and its tails.
use Rattle.std.proofs.Common.{◌≡◌, ℕ, zero, suc, ◌<◌, ◌≤◌, false, List, [], ◌∷◌, length, refl, arith, Some, None, lit≤, lit<}
use Rattle.plan_machine.specs.declared.entry.Job.TheVariants.{Emit, Fold, Seal, Stream, Close, Tail}
use Rattle.plan_machine.specs.declared.entry.Entry.{Entry}
use Rattle.plan_machine.specs.declared.entry.Entry.TheVariants.{Claim, Deliver, Finish}
use Rattle.plan_machine.specs.Batch.{gathered}
use Rattle.plan_machine.specs.Plan.{IsNode, IsWorker}
use Rattle.plan_machine.specs.State.{State}
use Rattle.plan_machine.specs.Enabled.{Ready}
use Rattle.plan_machine.specs.After.{after}
use Rattle.plan_machine.specs.History.{replay, IsHistory, state_after, IsEnded}
use Rattle.plan_machine.proofs.WitnessPlan.{plan, four}

abbrev pub history : List Entry
history =
    Claim 1 1 Emit 0 ∷ Claim 2 2 Emit 0 ∷ Deliver 1 ∷ Deliver 2 ∷ Finish 1 ∷ Claim 1 2 Emit 1 ∷ Deliver 1 ∷ Finish 2
    ∷ Claim 1 3 Fold 1 ∷ Claim 2 3 Fold 0 ∷ Deliver 1 ∷ Deliver 2 ∷ Claim 2 3 Seal 0 ∷ Deliver 2
    ∷ Claim 1 3 Stream 0 ∷ Deliver 1 ∷ Claim 2 3 Stream 0 ∷ Deliver 2 ∷ Claim 1 3 Close 0 ∷ Deliver 1
    ∷ Claim 1 3 Tail 0 ∷ Deliver 1 ∷ Finish 3
    ∷ Claim 1 4 Fold 0 ∷ Claim 2 4 Fold 1 ∷ Deliver 2 ∷ Claim 2 4 Fold 0 ∷ Deliver 1 ∷ Deliver 2
    ∷ Claim 1 4 Seal 0 ∷ Deliver 1 ∷ Finish 4 ∷ []

-- none of the nodes is a fetch
no_fetch : (m wanted : ℕ) → IsNode plan m → (plan.node m).wanted ≡ Some wanted → ⊥
no_fetch m wanted node e = four (λ n. (plan.node n).wanted ≡ Some wanted → ⊥) (λ d. cc) (λ d. cc) (λ d. cc) (λ d. cc) m node e

-- a worker with no task may claim where no more than eight batches wait on an edge
ready : (s : State ℕ) (w n : ℕ) → IsNode plan n → IsWorker plan w → s.tasks w ≡ None → s.failed ≡ false → length (s.waiting 1) ≤ 8 → length (s.waiting 2) ≤ 8 → length (s.waiting 3) ≤ 8 → Ready plan s w n
ready s w n node at free sound a b c =
    record {
      node = node;
      worker = at;
      free = free;
      sound = sound;
      no_stop = λ m stop. no_fetch m stop.wanted stop.node stop.is_fetch;
      no_pause = λ e pause.
          four (λ n. (n < 4) → 8 < length (s.waiting n) → ⊥) (λ low d. omega arith) (λ low d. omega arith) (λ low d. omega arith) (λ low d. omega arith)
          e (pause.0.0, (let d = pause.0.1 in omega arith)) pause.0.1 pause.1;
    }

pub legal : IsHistory plan history
unfolding after gathered
legal = (
  (ready _ 1 1 (lit≤ tt, lit≤ tt) (lit≤ tt, lit≤ tt) refl refl (lit≤ tt) (lit≤ tt) (lit≤ tt), (refl, refl, lit< tt, refl)),
  (
    (ready _ 2 2 (lit≤ tt, lit≤ tt) (lit≤ tt, lit≤ tt) refl refl (lit≤ tt) (lit≤ tt) (lit≤ tt), (refl, refl, lit< tt, refl)),
    (
      ((lit≤ tt, lit≤ tt), (_, refl)),
      (
        ((lit≤ tt, lit≤ tt), (_, refl)),
        (
          (refl, (lit≤ tt, lit≤ tt), refl, refl),
          (
            (ready _ 1 2 (lit≤ tt, lit≤ tt) (lit≤ tt, lit≤ tt) refl refl (lit≤ tt) (lit≤ tt) (lit≤ tt), (refl, refl, lit< tt, refl)),
            (
              ((lit≤ tt, lit≤ tt), (_, refl)),
              (
                (refl, (lit≤ tt, lit≤ tt), refl, refl),
                (
                  (ready _ 1 3 (lit≤ tt, lit≤ tt) (lit≤ tt, lit≤ tt) refl refl (lit≤ tt) (lit≤ tt) (lit≤ tt), (refl, lit< tt)),
                  (
                    (ready _ 2 3 (lit≤ tt, lit≤ tt) (lit≤ tt, lit≤ tt) refl refl (lit≤ tt) (lit≤ tt) (lit≤ tt), (refl, lit< tt)),
                    (
                      ((lit≤ tt, lit≤ tt), (_, refl)),
                      (
                        ((lit≤ tt, lit≤ tt), (_, refl)),
                        (
                          (ready _ 2 3 (lit≤ tt, lit≤ tt) (lit≤ tt, lit≤ tt) refl refl (lit≤ tt) (lit≤ tt) (lit≤ tt), (refl, refl, (refl, refl), refl)),
                          (
                            ((lit≤ tt, lit≤ tt), (_, refl)),
                            (
                              (ready _ 1 3 (lit≤ tt, lit≤ tt) (lit≤ tt, lit≤ tt) refl refl (lit≤ tt) (lit≤ tt) (lit≤ tt), (refl, lit< tt, refl)),
                              (
                                ((lit≤ tt, lit≤ tt), (_, refl)),
                                (
                                  (ready _ 2 3 (lit≤ tt, lit≤ tt) (lit≤ tt, lit≤ tt) refl refl (lit≤ tt) (lit≤ tt) (lit≤ tt), (refl, lit< tt, refl)),
                                  (
                                    ((lit≤ tt, lit≤ tt), (_, refl)),
                                    (
                                      (ready _ 1 3 (lit≤ tt, lit≤ tt) (lit≤ tt, lit≤ tt) refl refl (lit≤ tt) (lit≤ tt) (lit≤ tt), (refl, refl, (refl, refl), refl, refl)),
                                      (
                                        ((lit≤ tt, lit≤ tt), (_, refl)),
                                        (
                                          (ready _ 1 3 (lit≤ tt, lit≤ tt) (lit≤ tt, lit≤ tt) refl refl (lit≤ tt) (lit≤ tt) (lit≤ tt), (refl, refl, lit< tt, refl)),
                                          (
                                            ((lit≤ tt, lit≤ tt), (_, refl)),
                                            (
                                              (refl, (lit≤ tt, lit≤ tt), refl, refl),
                                              (
                                                (ready _ 1 4 (lit≤ tt, lit≤ tt) (lit≤ tt, lit≤ tt) refl refl (lit≤ tt) (lit≤ tt) (lit≤ tt), (refl, lit< tt)),
                                                (
                                                  (ready _ 2 4 (lit≤ tt, lit≤ tt) (lit≤ tt, lit≤ tt) refl refl (lit≤ tt) (lit≤ tt) (lit≤ tt), (refl, lit< tt)),
                                                  (
                                                    ((lit≤ tt, lit≤ tt), (_, refl)),
                                                    (
                                                      (ready _ 2 4 (lit≤ tt, lit≤ tt) (lit≤ tt, lit≤ tt) refl refl (lit≤ tt) (lit≤ tt) (lit≤ tt), (refl, lit< tt)),
                                                      (
                                                        ((lit≤ tt, lit≤ tt), (_, refl)),
                                                        (
                                                          ((lit≤ tt, lit≤ tt), (_, refl)),
                                                          (
                                                            (ready _ 1 4 (lit≤ tt, lit≤ tt) (lit≤ tt, lit≤ tt) refl refl (lit≤ tt) (lit≤ tt) (lit≤ tt), (refl, refl, (refl, refl), refl)),
                                                            (
                                                              ((lit≤ tt, lit≤ tt), (_, refl)),
                                                              (
                                                                (refl, (lit≤ tt, lit≤ tt), refl, tt),
                                                                tt,
                                                              ),
                                                            ),
                                                          ),
                                                        ),
                                                      ),
                                                    ),
                                                  ),
                                                ),
                                              ),
                                            ),
                                          ),
                                        ),
                                      ),
                                    ),
                                  ),
                                ),
                              ),
                            ),
                          ),
                        ),
                      ),
                    ),
                  ),
                ),
              ),
            ),
          ),
        ),
      ),
    ),
  ),
)

-- what holds of each of two workers
pub both_workers : (Q : ℕ → Type 0) → Q 1 → Q 2 → (w : ℕ) → IsWorker plan w → Q w
both_workers Q a b zero h = absurd (let e = h.0 in omega arith)
both_workers Q a b (suc zero) h = a
both_workers Q a b (suc (suc zero)) h = b
both_workers Q a b (suc (suc (suc w))) h = absurd (let e = h.1 in omega arith)

pub ended : IsEnded plan (state_after plan history)
unfolding after gathered replay
ended = record { done = refl; sound = refl; idle = both_workers (λ w. (state_after plan history).tasks w ≡ None) refl refl }
