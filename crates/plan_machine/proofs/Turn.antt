-- An entry changes one node and gives some batches to that node's edge: then every node still gives
-- what it gave, and the rows of the sink stay the same.
use Rattle.std.proofs.Common.{◌≡◌, ℕ, zero, suc, ◌≤◌, ◌≢◌, ◌⊎◌, inl, inr, Bool, true, cond, eqb, List, [], ◌++◌, refl, sym, ap, subst, arith, ◌∙◌, append-nil}
use Rattle.std.proofs.lemmas.Bool.Decides.{eqb_tells}
use Rattle.plan_machine.specs.declared.entry.Phase.TheVariants.{Folding, Streaming, Done}
use Rattle.plan_machine.specs.Lists.{gather, weigh}
use Rattle.plan_machine.specs.Batch.{Batch}
use Rattle.plan_machine.specs.Plan.{Plan, IsNode, IsEdge, IsSource, Folds, folds_from, streams_from}
use Rattle.plan_machine.specs.State.{State, Task, tasks_at}
use Rattle.plan_machine.specs.Meaning.{SameRows}
use Rattle.plan_machine.specs.WellFormed.{Streams, Lawful, WellFormed, IsInput}
use Rattle.plan_machine.proofs.Weigh.{weigh-append, same_or, flat}
use Rattle.plan_machine.proofs.Same.{Same, IsDistinct, IsDistinct-same, SameRows-trans}
use Rattle.plan_machine.proofs.Value.{View, holds_of, gives_of, all_folded, base_by, future_by, view, coming, future_with, base_with, future, answer}
use Rattle.plan_machine.proofs.Pass.{true_or_false, Same-trans, fold_kept, Arrives, base-passed, future-passed, all_folded-same}

-- the batches that are new on edge e, where node a gives them
abbrev pub new_at : {A : Type 0} → ℕ → List A → ℕ → List A
new_at a new e = cond (eqb e a) new []

module _ {R : Type 0} (P : Plan R) (W : WellFormed P) where
  pub not_source : (n : ℕ) → Streams (P.node n) ⊎ Folds (P.node n) → IsSource (P.node n) → ⊥
  not_source n (inl (inl o)) s = let e = sym o ∙ s in cc
  not_source n (inl (inr j)) s = let e = sym j.0 ∙ s in cc
  not_source n (inr f) s = let e = sym f ∙ s in cc

  pub folds_input : (n : ℕ) → IsNode P n → Folds (P.node n) → IsInput P n (folds_from P n)
  folds_input n i f =
      elim (true_or_false (P.node n).streams) [
        | inl s ↦ let g : folds_from P n ≡ (P.node n).second = rw s refl in subst (λ (e : ℕ). IsInput P n e) (sym g) ((W.nodes n i).second (f, s))
        | inr s ↦ let g : folds_from P n ≡ (P.node n).first = rw s refl in subst (λ (e : ℕ). IsInput P n e) (sym g) ((W.nodes n i).first (not_source n (inr f)))
      ]

  pub streams_input : (n : ℕ) → IsNode P n → Streams (P.node n) → IsInput P n (streams_from P n)
  streams_input n i st = (W.nodes n i).first (not_source n (inl st))

  pub input_edge : (n e : ℕ) → IsNode P n → IsInput P n e → IsEdge P e
  input_edge n e i p = let a = p.before in let b = i.1 in (p.node, omega arith)

module _ {R : Type 0} (P : Plan R) (L : Lawful P) (W : WellFormed P) where
  -- a node that is Folding folds, and one that is Streaming streams
  pub record Started (s : State R) : Type 0 where
    pub folding : (n : ℕ) → IsNode P n → s.phase n ≡ Folding → Folds (P.node n)
    pub streaming : (n : ℕ) → IsNode P n → s.phase n ≡ Streaming → Streams (P.node n)

  abbrev pub folded_all : State R → (ℕ → List (Batch R)) → ℕ → List (Batch R)
  folded_all s f n = all_folded (view P s n) (coming P s f n)

  -- where order is kept, all batches that are folded have different indexes
  abbrev pub DistinctAt : State R → (ℕ → List (Batch R)) → ℕ → Type 0
  DistinctAt s f n = s.phase n ≡ Folding → fold_kept P L W n ≡ true → IsDistinct (folded_all s f n)

  abbrev pub AllDistinct : State R → Type 0
  AllDistinct s = (k n : ℕ) → IsNode P n → n ≤ suc k → DistinctAt s (future P k s) n

  -- all that is known of node n but for its edges is as before
  pub record Agree (s s' : State R) (n : ℕ) : Type 0 where
    pub phase : s.phase n ≡ s'.phase n
    pub locals : s.locals n ≡ s'.locals n
    pub built : s.built n ≡ s'.built n
    pub streamed : s.streamed n ≡ s'.streamed n
    pub next : s.next n ≡ s'.next n
    pub flight : tasks_at P s n ≡ tasks_at P s' n

  pub view-agrees : (s s' : State R) (n : ℕ) → Agree s s' n → view P s n ≡ view P s' n
  view-agrees s s' n A =
      let p = A.phase in
      let l = ap (λ (f : ℕ → List (Batch R)). gather P.workers f) A.locals in
      let h = ap (λ (ts : List (Task R)). flat (holds_of P) ts) A.flight in
      let g = ap (λ (ts : List (Task R)). flat (gives_of P) ts) A.flight in
      let b = A.built in
      let t = A.streamed in
      let x = A.next in
      cc

  -- what is known of what comes to node a
  pub record Known (s s' : State R) (f : ℕ → List (Batch R)) (a : ℕ) : Type 0 where
    pub none : (e : ℕ) → IsInput P a e → s'.phase e ≡ Done → f e ≡ []
    pub distinct : DistinctAt s f a

  -- an entry at node a, which gives the batches `new`
  pub record Turn (s s' : State R) (a : ℕ) (new : List (Batch R)) : Type 0 where
    pub fresh : weigh (λ x. x.from) new ≡ 0
    pub others : (n : ℕ) → IsNode P n → n ≢ a → Agree s s' n
    pub added : (e : ℕ) → IsEdge P e → P.user e ≢ a → s'.waiting e ≡ s.waiting e ++ new_at a new e
    pub gives : (f : ℕ → List (Batch R)) → Known s s' f a → Same (P.node a).kept (future_with P s f a) (new ++ future_with P s' f a)
    pub base : (f : ℕ → List (Batch R)) → Known s s' f a → SameRows (fold_kept P L W a) (base_with P s f a) (base_with P s' f a)
    pub folds : (f : ℕ → List (Batch R)) → s'.phase a ≡ Folding → (s.phase a ≡ Folding) × Same (fold_kept P L W a) (folded_all s f a) (folded_all s' f a)

  pub future-done : (k : ℕ) (s : State R) (e : ℕ) → s.phase e ≡ Done → future P k s e ≡ []
  unfolding future
  future-done zero s e d = refl
  future-done (suc k) s e d = rw d refl

  module _ (s s' : State R) (a : ℕ) (new : List (Batch R)) (S : Started s) (T : Turn s s' a new) where
    new_at-here : (n : ℕ) → n ≡ a → new_at a new n ≡ new
    new_at-here n e = elim (eqb_tells n a) [ inl q ↦ rw q.0 refl | inr q ↦ absurd (q.1 e) ]

    new_at-else : (n : ℕ) → n ≢ a → new_at a new n ≡ []
    new_at-else n e = elim (eqb_tells n a) [ inl q ↦ absurd (e q.1) | inr q ↦ rw q.0 refl ]

    fresh_at : (n : ℕ) → weigh (λ x. x.from) (new_at a new n) ≡ 0
    fresh_at n = elim (same_or n a) [ inl e ↦ rw (new_at-here n e) T.fresh | inr e ↦ rw (new_at-else n e) refl ]

    -- each input of node n gives what it gave, but for what is new on its edge
    abbrev Give : (f f' : ℕ → List (Batch R)) → ℕ → Type 0
    Give f f' n = (e : ℕ) → IsInput P n e → Same (P.node e).kept (f e) (new_at a new e ++ f' e)

    arrives : (f f' : ℕ → List (Batch R)) (n : ℕ) → IsNode P n → n ≢ a → Give f f' n → DistinctAt s f n → Arrives P L W n (s.phase n) (view P s n) (coming P s f n) (coming P s' f' n)
    arrives f f' n i ne g d =
        record {
          folds = S.folding n i;
          streams = S.streaming n i;
          folded = λ fo H t.
              let p = folds_input P W n i fo in
              let e : ℕ = folds_from P n in
              let w = ap (weigh H) (T.added e (input_edge P W n e i p) (λ u. ne (sym p.user ∙ u))) in
              let w' = weigh-append H (s.waiting e) (new_at a new e) in
              let x = weigh-append H (s.waiting e) (f e) in
              let y = weigh-append H (s'.waiting e) (f' e) in
              let z = g e p H t in
              let z' = weigh-append H (new_at a new e) (f' e) in
              omega arith;
          distinct = d;
          new = new_at a new (streams_from P n);
          fresh = fresh_at (streams_from P n);
          waiting = λ st.
              let p = streams_input P W n i st in
              let e : ℕ = streams_from P n in
              T.added e (input_edge P W n e i p) (λ u. ne (sym p.user ∙ u));
          streamed = λ st. g (streams_from P n) (streams_input P W n i st);
        }

    -- node a before the entry, with what its inputs give afterwards
    nears : (f f' : ℕ → List (Batch R)) → IsNode P a → Give f f' a → DistinctAt s f a → Arrives P L W a (s.phase a) (view P s a) (coming P s f a) (coming P s f' a)
    nears f f' i g d =
        let near : (e : ℕ) → IsInput P a e → Same (P.node e).kept (f e) (f' e) = λ e p H t.
        let q = p.before in
        let z = ap (weigh H) (new_at-else e (λ w. absurd (omega arith))) in
        let z' = weigh-append H (new_at a new e) (f' e) in
        let x = g e p H t in
        omega arith in
        record {
          folds = S.folding a i;
          streams = S.streaming a i;
          folded = λ fo H t.
              let e : ℕ = folds_from P a in
              let x = weigh-append H (s.waiting e) (f e) in
              let y = weigh-append H (s.waiting e) (f' e) in
              let z = near e (folds_input P W a i fo) H t in
              omega arith;
          distinct = d;
          new = [];
          fresh = refl;
          waiting = λ st. sym (append-nil (s.waiting (streams_from P a)));
          streamed = λ st. near (streams_from P a) (streams_input P W a i st);
        }

    nears-distinct : (f f' : ℕ → List (Batch R)) → IsNode P a → Give f f' a → DistinctAt s f a → DistinctAt s f' a
    nears-distinct f f' i g d q ke =
        let A = nears f f' i g d in
        let m = all_folded-same P L W a i (view P s a) (coming P s f a) (coming P s f' a) (s.phase a) A (S.folding a i q) in
        IsDistinct-same _ _ (subst (λ (b : Bool). Same b (folded_all s f a) (folded_all s f' a)) ke m) (d q ke)

    known : (f f' : ℕ → List (Batch R)) → IsNode P a → Give f f' a → ((e : ℕ) → s'.phase e ≡ Done → f' e ≡ []) → DistinctAt s f a → Known s s' f' a
    known f f' i g nil' d = record { none = λ e p. nil' e; distinct = nears-distinct f f' i g d }

    gives-here : (f f' : ℕ → List (Batch R)) → IsNode P a → Give f f' a → ((e : ℕ) → s'.phase e ≡ Done → f' e ≡ []) → DistinctAt s f a → Same (P.node a).kept (future_with P s f a) (new ++ future_with P s' f' a)
    gives-here f f' i g nil' d =
        Same-trans (P.node a).kept _ _ _
        (future-passed P L W a i (view P s a) (coming P s f a) (coming P s f' a) (s.phase a) (nears f f' i g d))
        (T.gives f' (known f f' i g nil' d))

    base-here : (f f' : ℕ → List (Batch R)) → IsNode P a → Give f f' a → ((e : ℕ) → s'.phase e ≡ Done → f' e ≡ []) → DistinctAt s f a → SameRows (fold_kept P L W a) (base_with P s f a) (base_with P s' f' a)
    base-here f f' i g nil' d =
        SameRows-trans (fold_kept P L W a) _ _ _
        (base-passed P L W a i (view P s a) (coming P s f a) (coming P s f' a) (s.phase a) (nears f f' i g d))
        (T.base f' (known f f' i g nil' d))

    abbrev GivesHere : (f f' : ℕ → List (Batch R)) → ℕ → Type 0
    GivesHere f f' m = IsNode P m → Give f f' m → DistinctAt s f m → Same (P.node m).kept (future_with P s f m) (new_at a new m ++ future_with P s' f' m)

    -- one level: what node n gives, given what its inputs give
    level : (f f' : ℕ → List (Batch R)) (n : ℕ) → IsNode P n → Give f f' n → ((e : ℕ) → s'.phase e ≡ Done → f' e ≡ []) → DistinctAt s f n → Same (P.node n).kept (future_with P s f n) (new_at a new n ++ future_with P s' f' n)
    level f f' n i g nil' d =
        elim (same_or n a) [
          | inl e ↦
              let z : GivesHere f f' a = λ i g d. rw (new_at-here a refl) (gives-here f f' i g nil' d) in
              subst (GivesHere f f') (sym e) z i g d
          | inr e ↦
              let A = arrives f f' n i e g d in
              let p = future-passed P L W n i (view P s n) (coming P s f n) (coming P s' f' n) (s.phase n) A in
              let q : Same (P.node n).kept (future_with P s f n) (future_with P s' f' n) =
              subst (λ (X : View R). Same (P.node n).kept (future_with P s f n) (future_by (P.node n) P.batch X.phase X (coming P s' f' n))) (view-agrees s s' n (T.others n i e)) p in
              rw (new_at-else n e) q
        ]

    module _ (D : AllDistinct s) where
      pub turned : (k n : ℕ) → IsNode P n → n ≤ k → Same (P.node n).kept (future P k s n) (new_at a new n ++ future P k s' n)
      unfolding future
      turned zero n i l = absurd (let z = i.0 in omega arith)
      turned (suc k) n i l =
          level (future P k s) (future P k s') n i
          (λ e p. turned k e (p.node, (let b = p.before in let c = i.1 in omega arith)) (let b = p.before in omega arith))
          (future-done k s') (D k n i l)

      gave : (k n : ℕ) → IsNode P n → n ≤ suc k → Give (future P k s) (future P k s') n
      gave k n i l e p = turned k e (p.node, (let b = p.before in let c = i.1 in omega arith)) (let b = p.before in omega arith)

      abbrev DistinctThen : ℕ → ℕ → Type 0
      DistinctThen k m = IsNode P m → m ≤ suc k → s'.phase m ≡ Folding → fold_kept P L W m ≡ true → IsDistinct (folded_all s' (future P k s') m)

      distinct_then : (k : ℕ) → DistinctThen k a
      distinct_then k i l q ke =
          let t = T.folds (future P k s') q in
          let d = nears-distinct (future P k s) (future P k s') i (gave k a i l) (D k a i l) t.0 ke in
          IsDistinct-same _ _ (subst (λ (b : Bool). Same b (folded_all s (future P k s') a) (folded_all s' (future P k s') a)) ke t.1) d

      pub AllDistinct-turned : AllDistinct s'
      AllDistinct-turned k n i l q ke =
          elim (same_or n a) [
            | inl e ↦ subst (DistinctThen k) (sym e) (distinct_then k) i l q ke
            | inr e ↦
                let A = arrives (future P k s) (future P k s') n i e (gave k n i l) (D k n i l) in
                let v : view P s n ≡ view P s' n = view-agrees s s' n (T.others n i e) in
                let ph : s.phase n ≡ Folding = ap (λ (X : View R). X.phase) v ∙ q in
                let m = all_folded-same P L W n i (view P s n) (coming P s (future P k s) n) (coming P s' (future P k s') n) (s.phase n) A (S.folding n i ph) in
                let m' : Same (fold_kept P L W n) (folded_all s (future P k s) n) (folded_all s' (future P k s') n) =
                subst (λ (X : View R). Same (fold_kept P L W n) (folded_all s (future P k s) n) (all_folded X (coming P s' (future P k s') n))) v m in
                IsDistinct-same _ _ (subst (λ (b : Bool). Same b (folded_all s (future P k s) n) (folded_all s' (future P k s') n)) ke m') (D k n i l ph ke)
          ]

      abbrev BaseThen : ℕ → Type 0
      BaseThen m = IsNode P m → m ≤ suc P.sink → SameRows (fold_kept P L W m) (base_with P s (future P P.sink s) m) (base_with P s' (future P P.sink s') m)

      base_then : BaseThen a
      base_then i l = base-here (future P P.sink s) (future P P.sink s') i (gave P.sink a i l) (future-done P.sink s') (D P.sink a i l)

      pub answer-turned : SameRows (fold_kept P L W P.sink) (answer P s) (answer P s')
      answer-turned =
          let i : IsNode P P.sink = (W.sink_node, omega arith) in
          elim (same_or P.sink a) [
            | inl e ↦ subst BaseThen (sym e) base_then i (omega arith)
            | inr e ↦
                let A = arrives (future P P.sink s) (future P P.sink s') P.sink i e (gave P.sink P.sink i (omega arith)) (D P.sink P.sink i (omega arith)) in
                let p = base-passed P L W P.sink i (view P s P.sink) (coming P s (future P P.sink s) P.sink) (coming P s' (future P P.sink s') P.sink) (s.phase P.sink) A in
                subst (λ (X : View R). SameRows (fold_kept P L W P.sink) (answer P s) (base_by X.phase X (coming P s' (future P P.sink s') P.sink))) (view-agrees s s' P.sink (T.others P.sink i e)) p
          ]
