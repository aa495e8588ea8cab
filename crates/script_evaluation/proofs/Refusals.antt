-- Steps that are not refused, and what they gave.
use Rattle.std.proofs.Common.{◌≡◌, ◌≤◌, ℕ, Option, Some, None, Result, Ok, Err, refl, sym, subst, inl, inr}
use Rattle.std.proofs.lemmas.Bool.Decides.{leb_tells}
use Rattle.verb_forms.specs.declared.verb.Verb.{Verb}
use Rattle.verb_types.specs.declared.fault.VerbFault.{VerbFault}
use Rattle.plan_compile.specs.declared.tree.Tree.{Tree}
use Rattle.plan_compile.specs.declared.tree.TooLarge.{TooLarge}
use Rattle.plan_compile.specs.Trees.{with_verb, plan_size, added}
use Rattle.script_evaluation.specs.declared.fault.EvaluationFault.{EvaluationFault}
use Rattle.script_evaluation.specs.Evaluation.{Evaluated, and_then, of_check, of_size, known_or_fault}

-- ---- evaluation

pub record Before {A B : Type 0} (r : Result A EvaluationFault) (next : A → Result B EvaluationFault) (y : B) : Type 0 where
  pub value : A
  pub first : r ≡ Ok value
  pub second : next value ≡ Ok y

pub not_refused : {A B : Type 0} (r : Result A EvaluationFault) (next : A → Result B EvaluationFault) (y : B) → and_then r next ≡ Ok y → Before r next y
not_refused (Ok x) next y e = record { value = x; first = refl; second = e }
not_refused (Err f) next y e = absurd (cc)

pub check_ok : {A : Type 0} (r : Result A VerbFault) (x : A) → of_check r ≡ Ok x → r ≡ Ok x
check_ok (Ok x) y e = cc
check_ok (Err f) y e = absurd (cc)

pub size_ok : {A : Type 0} (at : ℕ) (r : Result A TooLarge) (x : A) → of_size at r ≡ Ok x → r ≡ Ok x
size_ok at (Ok x) y e = cc
size_ok at (Err f) y e = absurd (cc)

pub known_ok : (at : ℕ) (o : Option Evaluated) (e : Evaluated) → known_or_fault at o ≡ Ok e → o ≡ Some e
known_ok at None e h = absurd (cc)
known_ok at (Some x) e h = cc

-- ---- a tree that is not too large

pub added_is : (t now : Tree) (v : Verb) → added t v ≡ Ok now → (now ≡ with_verb t v) × (plan_size now ≤ 256)
added_is t now v e =
    elim (leb_tells (plan_size (with_verb t v)) 256) [
      | inl few ↦ let is : now ≡ with_verb t v = cc (rw few.0 at e) in (is, subst (λ s. plan_size s ≤ 256) (sym is) few.1)
      | inr many ↦ absurd (cc (rw many.0 at e))
    ]
