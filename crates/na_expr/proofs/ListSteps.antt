-- Calls over lists of arguments, argument by argument.
use Rattle.std.proofs.Common.{◌||◌, ℕ, suc, ◌+◌, ◌<◌, ◌≤◌, Bool, true, false, if◌then◌else◌, ◌≡◌, refl, sym, ap, ◌∙◌, List, [], ◌∷◌, length, map, drop, get_or, arith, drop-cons}
use Rattle.std.specs.List.{list_any}
use Rattle.std.proofs.lemmas.List.{drop_all}
use Rattle.scalar_value.specs.declared.value.Value.{Value}
use Rattle.scalar_value.specs.declared.value.Value.TheVariants.{Missing, Lgl}
use Rattle.scalar_value.specs.declared.value.ColType.{ColType}
use Rattle.scalar_value.specs.Truths.{is_true}
use Rattle.na_expr.specs.declared.expr.ExprFn.{ExprFn}
use Rattle.na_expr.specs.declared.expr.ExprFn.TheVariants.{Neg, Add, Sub, Mul, Div, FloorDiv, Mod, Eq, Ne, Lt, Le, Gt, Ge, Not, And, Or, IsIn, IsNa, IfElse, CaseWhen, Coalesce, Between, Abs, NChar, Substr, ToUpper, ToLower, StartsWith, EndsWith, Paste0, Year, Month, Day, Wday, AsInteger, AsNumeric, AsCharacter}
use Rattle.na_expr.specs.Evaluation.{call_value, takes_list}
use Rattle.na_expr.specs.Operators.{first_case, carried, among, is_same}

-- a function of at most three values gives a missing value for four or more
pub four_or_more : (f : ExprFn) → takes_list f ≡ false → (a b c d : Value) (vs : List Value) → call_value f (a ∷ b ∷ c ∷ d ∷ vs) ≡ Missing
four_or_more Neg p a b c d vs = refl
four_or_more Add p a b c d vs = refl
four_or_more Sub p a b c d vs = refl
four_or_more Mul p a b c d vs = refl
four_or_more Div p a b c d vs = refl
four_or_more FloorDiv p a b c d vs = refl
four_or_more Mod p a b c d vs = refl
four_or_more Eq p a b c d vs = refl
four_or_more Ne p a b c d vs = refl
four_or_more Lt p a b c d vs = refl
four_or_more Le p a b c d vs = refl
four_or_more Gt p a b c d vs = refl
four_or_more Ge p a b c d vs = refl
four_or_more Not p a b c d vs = refl
four_or_more And p a b c d vs = refl
four_or_more Or p a b c d vs = refl
four_or_more IsIn p a b c d vs = cc
four_or_more IsNa p a b c d vs = refl
four_or_more (IfElse t) p a b c d vs = refl
four_or_more (CaseWhen t) p a b c d vs = cc
four_or_more (Coalesce t) p a b c d vs = cc
four_or_more Between p a b c d vs = refl
four_or_more Abs p a b c d vs = refl
four_or_more NChar p a b c d vs = refl
four_or_more Substr p a b c d vs = refl
four_or_more ToUpper p a b c d vs = refl
four_or_more ToLower p a b c d vs = refl
four_or_more StartsWith p a b c d vs = refl
four_or_more EndsWith p a b c d vs = refl
four_or_more Paste0 p a b c d vs = cc
four_or_more Year p a b c d vs = refl
four_or_more Month p a b c d vs = refl
four_or_more Day p a b c d vs = refl
four_or_more Wday p a b c d vs = refl
four_or_more AsInteger p a b c d vs = refl
four_or_more AsNumeric p a b c d vs = refl
four_or_more AsCharacter p a b c d vs = refl

pub too_many : {E : Type 0} (f : ExprFn) (g : E → Value) (args : List E) → takes_list f ≡ false → 4 ≤ length args → Missing ≡ call_value f (map g args)
too_many f g [] p h = absurd (omega arith)
too_many f g (a ∷ []) p h = absurd (omega arith)
too_many f g (a ∷ b ∷ []) p h = absurd (omega arith)
too_many f g (a ∷ b ∷ c ∷ []) p h = absurd (omega arith)
too_many f g (a ∷ b ∷ c ∷ d ∷ rest) p h = sym (four_or_more f p (g a) (g b) (g c) (g d) (map g rest))

-- a condition that is not TRUE is passed over with its value
not_this : (t : ColType) (c v : Value) (vs : List Value) → is_true c ≡ false → first_case t (c ∷ v ∷ vs) ≡ first_case t vs
not_this t c v vs h = ap (λ (b : Bool). if b then carried t v else first_case t vs) h

pub case_step : {E : Type 0} (g : E → Value) (t : ColType) (args : List E) (n : ℕ) (c : E) → n + 1 < length args → c ≡ get_or args n c → is_true (g c) ≡ false → first_case t (map g (drop n args)) ≡ first_case t (map g (drop (n + 2) args))
case_step g t args n c h is passed =
    let first : drop n args ≡ c ∷ drop (suc n) args = drop-cons args n c (omega arith) ∙ ap (λ x. x ∷ drop (suc n) args) (sym is) in
    let second : drop (suc n) args ≡ get_or args (suc n) c ∷ drop (suc (suc n)) args = drop-cons args (suc n) c (omega arith) in
    let two : suc (suc n) ≡ n + 2 = omega arith in
    ap (λ l. first_case t (map g l)) (first ∙ ap (λ l. c ∷ l) second)
    ∙ not_this t (g c) (g (get_or args (suc n) c)) (map g (drop (suc (suc n)) args)) passed
    ∙ ap (λ k. first_case t (map g (drop k args))) two

pub last_case : {E : Type 0} (g : E → Value) (t : ColType) (args : List E) (n : ℕ) (d : E) → n + 1 ≡ length args → d ≡ get_or args n d → first_case t (map g (drop n args)) ≡ carried t (g d)
last_case g t args n d h is =
    let first : drop n args ≡ d ∷ drop (suc n) args = drop-cons args n d (omega arith) ∙ ap (λ x. x ∷ drop (suc n) args) (sym is) in
    let none : drop (suc n) args ≡ [] = drop_all (suc n) args (omega arith) in
    ap (λ l. first_case t (map g l)) (first ∙ ap (λ l. d ∷ l) none)

-- `%in%` by its first argument
pub among_first : {E : Type 0} (g : E → Value) (args : List E) (a : E) → 0 < length args → a ≡ get_or args 0 a → Lgl (list_any (is_same (g a)) (map g (drop 1 args))) ≡ among (map g args)
among_first g [] a h is = absurd (omega arith)
among_first g (x ∷ rest) a h is = ap (λ y. Lgl (list_any (is_same (g y)) (map g rest))) is

pub any_step : {E : Type 0} (test : Value → Bool) (g : E → Value) (args : List E) (n : ℕ) (a : E) → n < length args → a ≡ get_or args n a → test (g a) ≡ false → list_any test (map g (drop n args)) ≡ list_any test (map g (drop (n + 1) args))
any_step test g args n a h is passed =
    let first : drop n args ≡ a ∷ drop (suc n) args = drop-cons args n a h ∙ ap (λ x. x ∷ drop (suc n) args) (sym is) in
    let one : suc n ≡ n + 1 = omega arith in
    ap (λ l. list_any test (map g l)) first ∙ ap (λ (b : Bool). b || list_any test (map g (drop (suc n) args))) passed ∙ ap (λ k. list_any test (map g (drop k args))) one

pub any_found : {E : Type 0} (test : Value → Bool) (g : E → Value) (args : List E) (n : ℕ) (a : E) → n < length args → a ≡ get_or args n a → test (g a) ≡ true → true ≡ list_any test (map g (drop n args))
any_found test g args n a h is found =
    let first : drop n args ≡ a ∷ drop (suc n) args = drop-cons args n a h ∙ ap (λ x. x ∷ drop (suc n) args) (sym is) in
    sym (ap (λ l. list_any test (map g l)) first ∙ ap (λ (b : Bool). b || list_any test (map g (drop (suc n) args))) found)
