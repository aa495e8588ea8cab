-- The types of conditions and values, pair by pair, and functions of too many values.
use Rattle.std.proofs.Common.{ℕ, suc, ◌+◌, ◌<◌, ◌≤◌, ◌&&◌, Bool, true, false, ◌≡◌, refl, sym, ap, ◌∙◌, List, [], ◌∷◌, length, drop, get_or, fold, arith, drop-cons, Result, Ok, Err, Option, None}
use Rattle.std.proofs.lemmas.List.{drop_all}
use Rattle.scalar_value.specs.declared.value.ColType.{ColType}
use Rattle.scalar_value.specs.declared.value.ColType.TheVariants.{Lgl}
use Rattle.na_expr.specs.declared.expr.TypeFault.{TypeFault}
use Rattle.na_expr.specs.declared.expr.TypeFault.TheVariants.{WrongArguments}
use Rattle.na_expr.specs.declared.expr.ExprFn.{ExprFn}
use Rattle.na_expr.specs.Evaluation.{takes_list}
use Rattle.na_expr.specs.Types.{is_kind, are_truths, joining, conditions_of, values_of, takes, case_seen, case_type, case_outcome, agreed}
use Rattle.na_expr.proofs.TypeSteps.{and_assoc, and_true, four_types}

pub pair_at : (ts : List ColType) (n : ℕ) (d e : ColType) (truths : Bool) (values : Option (Option ColType)) → n + 1 < length ts → case_seen truths values (drop n ts) ≡ case_seen (truths && is_kind (get_or ts n d) Lgl) (joining values (get_or ts (n + 1) e)) (drop (n + 2) ts)
pair_at ts n d e truths values h =
    let one : suc n ≡ n + 1 = omega arith in
    let two : suc (suc n) ≡ n + 2 = omega arith in
    ap (case_seen truths values) (drop-cons ts n d (omega arith) ∙ ap (λ l. get_or ts n d ∷ l) (drop-cons ts (suc n) e (omega arith)))
    ∙ ap (λ (b : Bool). (b, fold joining (joining values (get_or ts (suc n) e)) (values_of (drop (suc (suc n)) ts)))) (and_assoc truths (is_kind (get_or ts n d) Lgl) (are_truths (conditions_of (drop (suc (suc n)) ts))))
    ∙ ap (λ (k : ℕ). case_seen (truths && is_kind (get_or ts n d) Lgl) (joining values (get_or ts k e)) (drop (suc (suc n)) ts)) one
    ∙ ap (λ (k : ℕ). case_seen (truths && is_kind (get_or ts n d) Lgl) (joining values (get_or ts (n + 1) e)) (drop k ts)) two

pub end_seen : (ts : List ColType) (n : ℕ) (truths : Bool) (values : Option (Option ColType)) → length ts ≤ n → case_seen truths values (drop n ts) ≡ (truths, values)
end_seen ts n truths values h = ap (case_seen truths values) (drop_all n ts h) ∙ ap (λ (b : Bool). (b, values)) (and_true truths)

pub default_seen : (ts : List ColType) (n : ℕ) (d : ColType) (truths : Bool) (values : Option (Option ColType)) → n + 1 ≡ length ts → d ≡ get_or ts n d → case_seen truths values (drop n ts) ≡ (truths, joining values d)
default_seen ts n d truths values h isd =
    ap (case_seen truths values) (drop-cons ts n d (omega arith) ∙ ap (λ x. x ∷ drop (suc n) ts) (sym isd) ∙ ap (λ l. d ∷ l) (drop_all (suc n) ts (omega arith)))
    ∙ ap (λ (b : Bool). (b, joining values d)) (and_true truths)

pub two_seen : (kind : ColType) (ts : List ColType) (truths : Bool) (values : Option (Option ColType)) → 2 ≤ length ts → (truths, values) ≡ case_seen true None ts → case_outcome kind truths values ≡ case_type kind ts
two_seen kind [] truths values l h = absurd (omega arith)
two_seen kind (d ∷ []) truths values l h = absurd (omega arith)
two_seen kind (a ∷ b ∷ ts) truths values l h = ap (λ (x : Bool × Option (Option ColType)). case_outcome kind x.0 x.1) h

pub four_or_more_types : (f : ExprFn) → takes_list f ≡ false → (ts : List ColType) → 4 ≤ length ts → Err WrongArguments ≡ takes f ts
four_or_more_types f p [] l = absurd (omega arith)
four_or_more_types f p (a ∷ []) l = absurd (omega arith)
four_or_more_types f p (a ∷ b ∷ []) l = absurd (omega arith)
four_or_more_types f p (a ∷ b ∷ c ∷ []) l = absurd (omega arith)
four_or_more_types f p (a ∷ b ∷ c ∷ d ∷ ts) l = sym (four_types f p a b c d ts)
