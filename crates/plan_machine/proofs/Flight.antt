-- Tasks in flight and workers' lists, where those of one worker change.
use Rattle.std.proofs.Common.{◌≡◌, ℕ, zero, suc, ◌+◌, ◌≤◌, ◌≢◌, inl, inr, List, [], ◌∷◌, Option, Some, None, refl, sym, ap, arith, ◌∙◌, append-nil}
use Rattle.std.proofs.lemmas.Bool.Decides.{eqb_tells}
use Rattle.plan_machine.specs.declared.entry.Job.{Job}
use Rattle.plan_machine.specs.declared.entry.Job.TheVariants.{Emit, Fold, Seal, Stream, Close, Tail}
use Rattle.plan_machine.specs.Lists.{upd, gather, weigh}
use Rattle.plan_machine.specs.Plan.{Plan, IsWorker}
use Rattle.plan_machine.specs.State.{Task, on_node}
use Rattle.plan_machine.proofs.Weigh.{upd-here, upd-else, same_or, gather-same, gather-change, gather-none, gather-nil}

-- one for a seal or a closing, and one for any other job
abbrev pub ends : Job → ℕ
ends Emit = 0
ends Fold = 0
ends Seal = 1
ends Stream = 0
ends Close = 1
ends Tail = 0

abbrev pub works : Job → ℕ
works Emit = 1
works Fold = 1
works Seal = 0
works Stream = 1
works Close = 0
works Tail = 1

pub nil-of-weigh : {A : Type 0} (xs : List A) → weigh (λ _. 1) xs ≡ 0 → xs ≡ []
nil-of-weigh [] z = refl
nil-of-weigh (x ∷ xs) z = absurd (omega arith)

-- only worker w has something
pub gather-alone : {A : Type 0} (n w : ℕ) (f : ℕ → List A) (xs : List A) → 1 ≤ w → w ≤ n → f w ≡ xs → ((j : ℕ) → 1 ≤ j → j ≤ n → j ≢ w → f j ≡ []) → gather n f ≡ xs
gather-alone zero w f xs l m e z = absurd (omega arith)
gather-alone (suc n) w f xs l m e z =
    elim (same_or w (suc n)) [
      | inl q ↦
          let a : gather n f ≡ [] = gather-nil n f (λ j a b. z j a (omega arith) (λ s. absurd (omega arith))) in
          let b : f (suc n) ≡ xs = sym (ap f q) ∙ e in
          rw (a, b) refl
      | inr q ↦
          let a = gather-alone n w f xs l (omega arith) e (λ j a b. z j a (omega arith)) in
          let b : f (suc n) ≡ [] = z (suc n) (omega arith) (omega arith) (λ s. q (sym s)) in
          rw (a, b) (append-nil xs)
    ]

module _ {R : Type 0} (P : Plan R) where
  -- the tasks at node n, of tasks by worker
  abbrev pub flying : (ℕ → Option (Task R)) → ℕ → List (Task R)
  flying ts n = gather P.workers (λ w. on_node P n (ts w))

  pub on_node-here : (n : ℕ) (t : Task R) → t.node ≡ n → on_node P n (Some t) ≡ t ∷ []
  on_node-here n t e = elim (eqb_tells t.node n) [ inl q ↦ rw q.0 refl | inr q ↦ absurd (q.1 e) ]

  pub on_node-else : (n : ℕ) (t : Task R) → t.node ≢ n → on_node P n (Some t) ≡ []
  on_node-else n t e = elim (eqb_tells t.node n) [ inl q ↦ absurd (e q.1) | inr q ↦ rw q.0 refl ]

  -- nothing changes at a node where the worker's task, before and after, is not
  pub flying-same : (ts : ℕ → Option (Task R)) (w : ℕ) (x : Option (Task R)) (n : ℕ) → on_node P n (ts w) ≡ on_node P n x → flying ts n ≡ flying (upd ts w x) n
  flying-same ts w x n e =
      gather-same P.workers (λ j. on_node P n (ts j)) (λ j. on_node P n (upd ts w x j))
      (λ j _ _. elim (same_or j w) [
        | inl q ↦ ap (λ k. on_node P n (ts k)) q ∙ e ∙ ap (on_node P n) (sym (ap (upd ts w x) q ∙ upd-here ts w x))
        | inr q ↦ ap (on_node P n) (sym (upd-else ts w x j q))
      ])

  pub flying-change : (h : Task R → ℕ) (ts : ℕ → Option (Task R)) (w : ℕ) (x : Option (Task R)) (n : ℕ) → IsWorker P w → weigh h (flying ts n) + weigh h (on_node P n x) ≡ weigh h (flying (upd ts w x) n) + weigh h (on_node P n (ts w))
  flying-change h ts w x n i =
      let c = gather-change h P.workers w (λ j. on_node P n (ts j)) (λ j. on_node P n (upd ts w x j)) i.0 i.1 (λ j q. ap (on_node P n) (sym (upd-else ts w x j q))) in
      let e = ap (λ (o : Option (Task R)). weigh h (on_node P n o)) (upd-here ts w x) in
      omega arith

  -- the worker takes a task at node n
  pub flying-more : (h : Task R → ℕ) (ts : ℕ → Option (Task R)) (w : ℕ) (t : Task R) (n : ℕ) → IsWorker P w → ts w ≡ None → t.node ≡ n → weigh h (flying ts n) + h t ≡ weigh h (flying (upd ts w (Some t)) n)
  flying-more h ts w t n i free e =
      let c = flying-change h ts w (Some t) n i in
      let a = ap (λ (o : Option (Task R)). weigh h (on_node P n o)) free in
      let b = ap (weigh h) (on_node-here n t e) in
      omega arith

  -- the worker's task at node n is done
  pub flying-less : (h : Task R → ℕ) (ts : ℕ → Option (Task R)) (w : ℕ) (t : Task R) (n : ℕ) → IsWorker P w → ts w ≡ Some t → t.node ≡ n → weigh h (flying ts n) ≡ weigh h (flying (upd ts w None) n) + h t
  flying-less h ts w t n i busy e =
      let c = flying-change h ts w None n i in
      let a = ap (λ (o : Option (Task R)). weigh h (on_node P n o)) busy in
      let b = ap (weigh h) (on_node-here n t e) in
      omega arith

  -- a task in flight is among those of its node
  pub flying-has : (h : Task R → ℕ) (ts : ℕ → Option (Task R)) (w : ℕ) (t : Task R) (n : ℕ) → IsWorker P w → ts w ≡ Some t → t.node ≡ n → h t ≤ weigh h (flying ts n)
  flying-has h ts w t n i busy e =
      let c = gather-none h P.workers w (λ j. on_node P n (ts j)) i.0 i.1 in
      let a = ap (λ (o : Option (Task R)). weigh h (on_node P n o)) busy in
      let b = ap (weigh h) (on_node-here n t e) in
      omega arith

  pub none-flying : (ts : ℕ → Option (Task R)) (n : ℕ) → flying ts n ≡ [] → (w : ℕ) (t : Task R) → IsWorker P w → ts w ≡ Some t → t.node ≡ n → ⊥
  none-flying ts n z w t i busy e =
      let c = flying-has (λ _. 1) ts w t n i busy e in
      let a = ap (weigh {A = Task R} (λ _. 1)) z in
      absurd (omega arith)

  -- where nothing was in flight, the new task is alone
  pub flying-alone : (ts : ℕ → Option (Task R)) (w : ℕ) (t : Task R) (n : ℕ) → IsWorker P w → t.node ≡ n → flying ts n ≡ [] → flying (upd ts w (Some t)) n ≡ t ∷ []
  flying-alone ts w t n i e z =
      gather-alone P.workers w (λ j. on_node P n (upd ts w (Some t) j)) (t ∷ []) i.0 i.1
      (ap (on_node P n) (upd-here ts w (Some t)) ∙ on_node-here n t e)
      (λ j a b q. ap (on_node P n) (upd-else ts w (Some t) j q) ∙ idle j a b)
    where
      idle : (j : ℕ) → 1 ≤ j → j ≤ P.workers → on_node P n (ts j) ≡ []
      idle j a b =
          let c = gather-none (λ _. 1) P.workers j (λ k. on_node P n (ts k)) a b in
          let d = ap (weigh {A = Task R} (λ _. 1)) z in
          nil-of-weigh (on_node P n (ts j)) (omega arith)

  -- where a task was alone, nothing is in flight after it
  pub flying-gone : (ts : ℕ → Option (Task R)) (w : ℕ) (t u : Task R) (n : ℕ) → IsWorker P w → ts w ≡ Some t → t.node ≡ n → flying ts n ≡ u ∷ [] → flying (upd ts w None) n ≡ []
  flying-gone ts w t u n i busy e z =
      let c = flying-less (λ _. 1) ts w t n i busy e in
      let a = ap (weigh {A = Task R} (λ _. 1)) z in
      nil-of-weigh (flying (upd ts w None) n) (omega arith)

-- the lists of all workers, where that of worker w becomes xs
pub locals-change : {A : Type 0} (h : A → ℕ) (n w : ℕ) (f : ℕ → List A) (xs : List A) → 1 ≤ w → w ≤ n → weigh h (gather n f) + weigh h xs ≡ weigh h (gather n (upd f w xs)) + weigh h (f w)
locals-change h n w f xs l m =
    let c = gather-change h n w f (upd f w xs) l m (λ j q. sym (upd-else f w xs j q)) in
    let e = ap (weigh h) (upd-here f w xs) in
    omega arith
