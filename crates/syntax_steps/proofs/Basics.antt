-- Tests on numbers, and steps that may have no answer.
use Rattle.std.proofs.Common.{◌≡◌, ℕ, ◌<◌, ◌≤◌, List, [], ◌∷◌, length, Bool, true, false, cond, eqb, leb, ltb, ◌&&◌, ◌⊎◌, inl, inr, Some, None, refl, subst, arith}
use Rattle.std.proofs.lemmas.Bool.Decides.{nat_tests}
use Rattle.std.proofs.lemmas.Option.{same_Some}
use Rattle.syntax_steps.specs.declared.frame.Frame.{Frame}
use Rattle.syntax_steps.specs.Levels.{levels, level_of}

pub leb_true : (a b : ℕ) → a ≤ b → leb a b ≡ true
leb_true a b h = grind (arith, nat_tests)

pub leb_false : (a b : ℕ) → b < a → leb a b ≡ false
leb_false a b h = grind (arith, nat_tests)

pub from_leb : (a b : ℕ) → leb a b ≡ true → a ≤ b
from_leb a b h = grind (arith, nat_tests)

pub from_leb_false : (a b : ℕ) → leb a b ≡ false → b < a
from_leb_false a b h = grind (arith, nat_tests)

pub ltb_true : (a b : ℕ) → a < b → ltb a b ≡ true
ltb_true a b h = grind (arith, nat_tests)

pub from_ltb : (a b : ℕ) → ltb a b ≡ true → a < b
from_ltb a b h = grind (arith, nat_tests)

pub from_ltb_false : (a b : ℕ) → ltb a b ≡ false → b ≤ a
from_ltb_false a b h = grind (arith, nat_tests)

pub eqb_true : (a b : ℕ) → a ≡ b → eqb a b ≡ true
eqb_true a b h = grind (arith, nat_tests)

pub from_eqb : (a b : ℕ) → eqb a b ≡ true → a ≡ b
from_eqb a b h = grind (arith, nat_tests)

pub le_cases : (a b : ℕ) → (a ≤ b) ⊎ (b < a)
le_cases a b = grind arith

pub from_and : (x y : Bool) → (x && y) ≡ true → (x ≡ true) × (y ≡ true)
from_and true y h = (refl, h)
from_and false y h = cc

pub bool_cases : (b : Bool) → (b ≡ true) ⊎ (b ≡ false)
bool_cases true = inl refl
bool_cases false = inr refl

-- what holds of the value in an answer
pub at_some : {A : Type 0} (P : A → Type 0) (x y : A) → Some x ≡ Some y → P x → P y
at_some P x y e h = subst P (same_Some x y e) h

pub no_some : {A B : Type 0} {x : A} → None ≡ Some x → B
no_some e = absurd (cc)

pub if_some : {A : Type 0} (P : A → Type 0) (b : Bool) (x y : A) → cond b (Some x) None ≡ Some y → (b ≡ true → P x) → P y
if_some P true x y e h = at_some P x y e (h refl)
if_some P false x y e h = no_some e

pub level_small : (frame : Frame) → level_of frame ≤ 1
level_small (Frame.Under op at) = omega arith
level_small _ = omega arith

pub levels_small : (frames : List Frame) → levels frames ≤ length frames
levels_small [] = omega arith
levels_small (frame ∷ frames) = omega (arith, level_small frame, levels_small frames)
