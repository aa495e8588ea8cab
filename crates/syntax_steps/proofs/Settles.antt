-- How operators settle.
use Rattle.std.proofs.Common.{◌≡◌, ℕ, suc, ◌<◌, ◌≤◌, ◌≢◌, List, [], ◌∷◌, inl, inr, refl, sym, ◌∙◌, ap, arith}
use Rattle.token_scan.specs.declared.token.Oper.{Oper}
use Rattle.syntax_tree.specs.declared.tree.Term.{Term}
use Rattle.syntax_steps.specs.declared.frame.Frame.{Frame}
use Rattle.syntax_steps.specs.declared.state.Held.{Held}
use Rattle.syntax_tree.specs.Trees.{binary_term, unary_term}
use Rattle.syntax_steps.specs.Rules.{binary_rule, left_rule, prefix_rule}
use Rattle.syntax_steps.specs.Levels.{need}
use Rattle.syntax_steps.specs.Machine.{settle, held_of}
use Rattle.syntax_steps.proofs.Basics.{leb_true, leb_false, le_cases}

pub left_ge : (op : Oper) → binary_rule op ≤ left_rule op
left_ge Oper.Tilde = omega arith
left_ge _ = omega arith

pub left_le : (op : Oper) → left_rule op ≤ suc (binary_rule op)
left_le Oper.Tilde = omega arith
left_le _ = omega arith

-- a rule has binary operators or operators before an operand
pub apart : (op other : Oper) → binary_rule op < 10 → prefix_rule other ≡ binary_rule op → ⊥
apart op other h e = go op other h e
  where
    rules : (op : Oper) → binary_rule op < 10 → (binary_rule op < 9) × (binary_rule op ≡ 3 → ⊥)
    rules Oper.Tilde h = (omega arith, λ e. omega arith)
    rules _ h = (omega arith, λ e. omega arith)

    go : (op other : Oper) → binary_rule op < 10 → prefix_rule other ≡ binary_rule op → ⊥
    go op Oper.Not h e = (rules op h).1 (sym e)
    go op _ h e = omega (arith, (rules op h).0)

abbrev pub settle_held : ℕ → Held → Held
settle_held rule h = settle rule h.start h.term h.frames

-- where an operator may stand, nothing before its left operand settles
pub settle_stays : (op : Oper) (start : ℕ) (a : Term) (frames : List Frame) → binary_rule op < 10
    → need frames ≤ binary_rule op → settle (left_rule op) start a frames ≡ held_of start a frames
settle_stays op start a [] lt h = refl
settle_stays op start a (Frame.Right other at b ∷ frames) lt h =
    let q : binary_rule other < left_rule op = omega (arith, left_ge op) in
    rw (leb_false (left_rule op) (binary_rule other) q) refl
settle_stays op start a (Frame.Under other at ∷ frames) lt h =
    let ne : prefix_rule other ≢ binary_rule op = apart op other lt in
    let q : prefix_rule other < left_rule op = omega (arith, left_ge op) in
    rw (leb_false (left_rule op) (prefix_rule other) q) refl
settle_stays op start a _ lt h = refl

-- where an argument's value may stand, nothing before it settles
pub settle_argument : (start : ℕ) (a : Term) (frames : List Frame) → need frames ≡ 0
    → settle 0 start a frames ≡ held_of start a frames
settle_argument start a [] h = refl
settle_argument start a (Frame.Right other at b ∷ frames) h = absurd (omega arith)
settle_argument start a (Frame.Under Oper.Not at ∷ frames) h = absurd (omega arith)
settle_argument start a (Frame.Under other at ∷ frames) h = absurd (omega (arith, prefix_pos other))
  where
    prefix_pos : (op : Oper) → 0 < prefix_rule op
    prefix_pos Oper.Not = omega arith
    prefix_pos _ = omega arith
settle_argument start a _ h = refl

-- settling by a looser rule after a tighter one is settling by the looser one
pub settle-settle : (rule tight : ℕ) → rule ≤ tight → (start : ℕ) (a : Term) (frames : List Frame)
    → settle_held rule (settle tight start a frames) ≡ settle rule start a frames
settle-settle rule tight le start a [] = refl
settle-settle rule tight le start a (Frame.Right op at b ∷ frames) =
    elim (le_cases tight (binary_rule op)) [
      | inl q ↦ let p : rule ≤ binary_rule op = omega arith in
          rw (leb_true tight (binary_rule op) q, leb_true rule (binary_rule op) p)
          (settle-settle rule tight le at (binary_term at op b a) frames)
      | inr q ↦ rw (leb_false tight (binary_rule op) q) refl
    ]
settle-settle rule tight le start a (Frame.Under op at ∷ frames) =
    elim (le_cases tight (prefix_rule op)) [
      | inl q ↦ let p : rule ≤ prefix_rule op = omega arith in
          rw (leb_true tight (prefix_rule op) q, leb_true rule (prefix_rule op) p)
          (settle-settle rule tight le at (unary_term at op a) frames)
      | inr q ↦ rw (leb_false tight (prefix_rule op) q) refl
    ]
settle-settle rule tight le start a _ = refl

-- so what settles to the same by a tighter rule does by a looser one
pub settle_loosens : (rule tight : ℕ) → rule ≤ tight → (h : Held) (start : ℕ) (a : Term) (frames : List Frame)
    → settle_held tight h ≡ settle tight start a frames → settle_held rule h ≡ settle rule start a frames
settle_loosens rule tight le h start a frames e =
    sym (settle-settle rule tight le h.start h.term h.frames)
    ∙ (ap (settle_held rule) e ∙ settle-settle rule tight le start a frames)
