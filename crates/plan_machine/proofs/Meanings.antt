-- What a node means, from the meanings of its inputs.
use Rattle.std.proofs.Common.{◌≡◌, ℕ, zero, suc, ◌+◌, ◌-◌, ◌≤◌, inl, inr, false, cond, List, [], ◌++◌, refl, sym, ap, ap₂, arith, ◌∙◌}
use Rattle.plan_machine.specs.Plan.{Plan, IsNode, IsSource, Folds, IsJoin, OnlyStreams}
use Rattle.plan_machine.specs.Meaning.{whole_by, whole, meaning_within, meaning}
use Rattle.plan_machine.specs.WellFormed.{WellFormed, IsInput}
use Rattle.plan_machine.specs.Laws.{MeaningIsWhole}
use Rattle.plan_machine.proofs.Pass.{true_or_false}

module _ {R : Type 0} (P : Plan R) where
  -- what a node means, from its inputs
  pub whole-source : (n : ℕ) (x y : List R) → IsSource (P.node n) → whole (P.node n) x y ≡ (P.node n).table
  whole-source n x y e = ap (λ q. whole_by (P.node n) q x y) e

  pub whole-streams : (n : ℕ) (x y : List R) → OnlyStreams (P.node n) → whole (P.node n) x y ≡ (P.node n).part [] x
  whole-streams n x y e = ap (λ q. whole_by (P.node n) q x y) e

  pub whole-join : (n : ℕ) (x y : List R) → IsJoin (P.node n) → whole (P.node n) x y ≡ (P.node n).part y x ++ cond (P.node n).tails ((P.node n).rest y x) []
  whole-join n x y j =
      ap (λ q. whole_by (P.node n) q x y) j.0
      ∙ ap (λ c. cond c ((P.node n).part y x ++ cond (P.node n).tails ((P.node n).rest y x) []) (cond (P.node n).tails ((P.node n).rest x []) x)) j.1

  pub whole-folds : (n : ℕ) (x y : List R) → Folds (P.node n) → (P.node n).streams ≡ false → whole (P.node n) x y ≡ cond (P.node n).tails ((P.node n).rest x []) x
  whole-folds n x y f e =
      ap (λ q. whole_by (P.node n) q x y) f
      ∙ ap (λ c. cond c ((P.node n).part y x ++ cond (P.node n).tails ((P.node n).rest y x) []) (cond (P.node n).tails ((P.node n).rest x []) x)) e

module _ {R : Type 0} (P : Plan R) (W : WellFormed P) where
  -- the same inputs mean the same
  whole-same : (n : ℕ) → IsNode P n → (m m' : ℕ → List R) → ((e : ℕ) → IsInput P n e → m e ≡ m' e) → whole (P.node n) (m (P.node n).first) (m (P.node n).second) ≡ whole (P.node n) (m' (P.node n).first) (m' (P.node n).second)
  whole-same n i m m' e =
      elim (W.nodes n i).starts [
        | inl s ↦ whole-source P n (m (P.node n).first) (m (P.node n).second) s ∙ sym (whole-source P n (m' (P.node n).first) (m' (P.node n).second) s)
        | inr s ↦ elim s [
          | inl f ↦
              let a = e (P.node n).first ((W.nodes n i).first (λ z. let y = sym f ∙ z in cc)) in
              elim (true_or_false (P.node n).streams) [
                | inl j ↦ let b = e (P.node n).second ((W.nodes n i).second (f, j)) in ap₂ (whole (P.node n)) a b
                | inr j ↦
                    whole-folds P n (m (P.node n).first) (m (P.node n).second) f j
                    ∙ ap (λ x. cond (P.node n).tails ((P.node n).rest x []) x) a
                    ∙ sym (whole-folds P n (m' (P.node n).first) (m' (P.node n).second) f j)
              ]
          | inr o ↦
              let a = e (P.node n).first ((W.nodes n i).first (λ z. let y = sym o ∙ z in cc)) in
              whole-streams P n (m (P.node n).first) (m (P.node n).second) o
              ∙ ap ((P.node n).part []) a
              ∙ sym (whole-streams P n (m' (P.node n).first) (m' (P.node n).second) o)
        ]
      ]

  -- the nodes on the way are enough
  pub meaning-more : (k n : ℕ) → IsNode P n → n ≤ k → meaning_within P k n ≡ meaning_within P (suc k) n
  unfolding meaning_within
  meaning-more zero n i l = absurd (let z = i.0 in omega arith)
  meaning-more (suc k) n i l =
      whole-same n i (meaning_within P k) (meaning_within P (suc k))
      (λ e p. meaning-more k e (p.node, (let z = p.before in let y = i.1 in omega arith)) (let z = p.before in omega arith))

  pub meaning-is : (d n : ℕ) → IsNode P n → meaning_within P (d + n) n ≡ meaning P n
  meaning-is zero n i = ap (λ k. meaning_within P k n) (let e : 0 + n ≡ n = omega arith in e)
  meaning-is (suc d) n i =
      ap (λ k. meaning_within P k n) (let e : suc d + n ≡ suc (d + n) = omega arith in e)
      ∙ sym (meaning-more (d + n) n i (omega arith)) ∙ meaning-is d n i

  whole-meaning : (k n : ℕ) → k ≡ n → IsNode P n → meaning_within P k n ≡ whole (P.node n) (meaning P (P.node n).first) (meaning P (P.node n).second)
  unfolding meaning_within
  whole-meaning zero n e i = absurd (let z = i.0 in omega arith)
  whole-meaning (suc k) n e i =
      whole-same n i (meaning_within P k) (meaning P)
      (λ d p.
      let q : (k - d) + d ≡ k = (let z = p.before in omega arith) in
      ap (λ j. meaning_within P j d) (sym q) ∙ meaning-is (k - d) d (p.node, (let z = p.before in let y = i.1 in omega arith)))

pub meanings : (R : Type 0) → MeaningIsWhole R
meanings R P W n i = whole-meaning P W n n refl i
