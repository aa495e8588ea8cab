-- The types of the parts of a call, part by part.
use Rattle.std.proofs.Common.{ℕ, suc, ◌+◌, ◌<◌, ◌≤◌, ◌&&◌, Bool, true, false, ◌≡◌, refl, sym, ap, ◌∙◌, List, [], ◌∷◌, length, map, drop, get_or, fold, arith, drop-cons, Result, Ok, Err, Option, None}
use Rattle.std.proofs.lemmas.List.{drop_all}
use Rattle.scalar_value.specs.declared.value.ColType.{ColType}
use Rattle.na_expr.specs.declared.expr.TypeFault.{TypeFault}
use Rattle.na_expr.specs.declared.expr.TypeFault.TheVariants.{WrongArguments}
use Rattle.na_expr.specs.declared.expr.ExprFn.{ExprFn}
use Rattle.na_expr.specs.declared.expr.ExprFn.TheVariants as call
use Rattle.na_expr.specs.Evaluation.{takes_list}
use Rattle.na_expr.specs.Types.{all_of, with_front, then_all, is_kind, are_truths, joining, conditions_of, values_of, agreed, takes, call_type, case_seen, case_type, case_outcome}
use Rattle.scalar_value.specs.declared.value.ColType.TheVariants.{Lgl}

pushed : {S : Type 0} (rule : List ColType → S) (t : ColType) (r : Result (List ColType) TypeFault) → then_all rule (with_front t r) ≡ then_all (λ ts. rule (t ∷ ts)) r
pushed rule t (Ok ts) = refl
pushed rule t (Err e) = refl

split_off : {E : Type 0} (args : List E) (n : ℕ) (a : E) → n < length args → a ≡ get_or args n a → drop n args ≡ a ∷ drop (suc n) args
split_off args n a h is = drop-cons args n a h ∙ ap (λ x. x ∷ drop (suc n) args) (sym is)

-- a part that has a type is put in front of the rest
pub part_typed : {E S : Type 0} (g : E → Result ColType TypeFault) (rule : List ColType → S) (args : List E) (n : ℕ) (a : E) (t : ColType) → n < length args → a ≡ get_or args n a → g a ≡ Ok t → then_all rule (all_of (map g (drop n args))) ≡ then_all (λ ts. rule (t ∷ ts)) (all_of (map g (drop (suc n) args)))
part_typed g rule args n a t h is typed =
    ap (λ l. then_all rule (all_of (map g l))) (split_off args n a h is) ∙ ap (λ r. then_all rule (all_of (r ∷ map g (drop (suc n) args)))) typed ∙ pushed rule t (all_of (map g (drop (suc n) args)))

-- a part with a fault decides
pub part_faulty : {E S : Type 0} (g : E → Result ColType TypeFault) (rule : List ColType → S) (args : List E) (n : ℕ) (a : E) (e : TypeFault) → n < length args → a ≡ get_or args n a → g a ≡ Err e → then_all rule (all_of (map g (drop n args))) ≡ Err e
part_faulty g rule args n a e h is typed =
    ap (λ l. then_all rule (all_of (map g l))) (split_off args n a h is) ∙ ap (λ r. then_all rule (all_of (r ∷ map g (drop (suc n) args)))) typed

same_rule : {S : Type 0} (p q : List ColType → S) → ((ts : List ColType) → p ts ≡ q ts) → (r : Result (List ColType) TypeFault) → then_all p r ≡ then_all q r
same_rule p q h (Ok ts) = ap (λ x. Ok x) (h ts)
same_rule p q h (Err e) = refl

pub and_assoc : (a b c : Bool) → (a && (b && c)) ≡ ((a && b) && c)
and_assoc true b c = refl
and_assoc false b c = refl

pub and_true : (a : Bool) → (a && true) ≡ a
and_true true = refl
and_true false = refl

-- a condition and its value
pub case_pair : {E : Type 0} (g : E → Result ColType TypeFault) (args : List E) (n : ℕ) (c v : E) (s t : ColType) (truths : Bool) (values : Option (Option ColType)) → n + 1 < length args → c ≡ get_or args n c → v ≡ get_or args (n + 1) v → g c ≡ Ok s → g v ≡ Ok t → then_all (case_seen truths values) (all_of (map g (drop n args))) ≡ then_all (case_seen (truths && is_kind s Lgl) (joining values t)) (all_of (map g (drop (n + 2) args)))
case_pair g args n c v s t truths values h isc isv typed_c typed_v =
    let one : n + 1 ≡ suc n = omega arith in
    let two : suc (suc n) ≡ n + 2 = omega arith in
    part_typed g (case_seen truths values) args n c s (omega arith) isc typed_c
    ∙ part_typed g (λ ts. case_seen truths values (s ∷ ts)) args (suc n) v t (omega arith) (rw one at isv) typed_v
    ∙ same_rule (λ ts. case_seen truths values (s ∷ t ∷ ts)) (case_seen (truths && is_kind s Lgl) (joining values t)) (λ ts. ap (λ (b : Bool). (b, fold joining (joining values t) (values_of ts))) (and_assoc truths (is_kind s Lgl) (are_truths (conditions_of ts)))) (all_of (map g (drop (suc (suc n)) args)))
    ∙ ap (λ (k : ℕ). then_all (case_seen (truths && is_kind s Lgl) (joining values t)) (all_of (map g (drop k args)))) two

-- the end of the list, with a default or without
pub case_end : {E : Type 0} (g : E → Result ColType TypeFault) (args : List E) (n : ℕ) (truths : Bool) (values : Option (Option ColType)) → length args ≤ n → then_all (case_seen truths values) (all_of (map g (drop n args))) ≡ Ok (truths, values)
case_end g args n truths values h =
    ap (λ l. then_all (case_seen truths values) (all_of (map g l))) (drop_all n args h) ∙ ap (λ (b : Bool). Ok (b, values)) (and_true truths)

pub case_default : {E : Type 0} (g : E → Result ColType TypeFault) (args : List E) (n : ℕ) (d : E) (t : ColType) (truths : Bool) (values : Option (Option ColType)) → n + 1 ≡ length args → d ≡ get_or args n d → g d ≡ Ok t → then_all (case_seen truths values) (all_of (map g (drop n args))) ≡ Ok (truths, joining values t)
case_default g args n d t truths values h is typed =
    part_typed g (case_seen truths values) args n d t (omega arith) is typed
    ∙ ap (λ l. then_all (λ ts. case_seen truths values (t ∷ ts)) (all_of (map g l))) (drop_all (suc n) args (omega arith))
    ∙ ap (λ (b : Bool). Ok (b, joining values t)) (and_true truths)

-- a fault of a part is the fault of the call
pub faults_pass : {S : Type 0} (rule : List ColType → S) (f : List ColType → Result ColType TypeFault) (r : Result (List ColType) TypeFault) (e : TypeFault) → Err e ≡ then_all rule r → Err e ≡ call_type f r
faults_pass rule f (Ok ts) e h = cc
faults_pass rule f (Err x) e h = let same : e ≡ x = cc in ap (λ y. Err y) same

two_parts : (kind : ColType) (a b : ColType) (r : Result (List ColType) TypeFault) (truths : Bool) (values : Option (Option ColType)) → Ok (truths, values) ≡ then_all (case_seen true None) (with_front a (with_front b r)) → case_outcome kind truths values ≡ call_type (case_type kind) (with_front a (with_front b r))
two_parts kind a b (Ok ts) truths values h =
    let pair : (truths, values) ≡ case_seen true None (a ∷ b ∷ ts) = cc in
    ap (λ (x : Bool × Option (Option ColType)). case_outcome kind x.0 x.1) pair
two_parts kind a b (Err e) truths values h = cc

-- two parts or more decide by what is seen of them
pub case_decides : (kind : ColType) (rs : List (Result ColType TypeFault)) (truths : Bool) (values : Option (Option ColType)) → 2 ≤ length rs → Ok (truths, values) ≡ then_all (case_seen true None) (all_of rs) → case_outcome kind truths values ≡ call_type (case_type kind) (all_of rs)
case_decides kind [] truths values l h = absurd (omega arith)
case_decides kind (r ∷ []) truths values l h = absurd (omega arith)
case_decides kind (Err e ∷ r ∷ rs) truths values l h = cc
case_decides kind (Ok a ∷ Err e ∷ rs) truths values l h = cc
case_decides kind (Ok a ∷ Ok b ∷ rs) truths values l h = two_parts kind a b (all_of rs) truths values h

-- a function of at most three values takes no four or more
pub four_types : (f : ExprFn) → takes_list f ≡ false → (a b c d : ColType) (ts : List ColType) → takes f (a ∷ b ∷ c ∷ d ∷ ts) ≡ Err WrongArguments
four_types call.Neg p a b c d ts = refl
four_types call.Add p a b c d ts = refl
four_types call.Sub p a b c d ts = refl
four_types call.Mul p a b c d ts = refl
four_types call.Div p a b c d ts = refl
four_types call.FloorDiv p a b c d ts = refl
four_types call.Mod p a b c d ts = refl
four_types call.Eq p a b c d ts = refl
four_types call.Ne p a b c d ts = refl
four_types call.Lt p a b c d ts = refl
four_types call.Le p a b c d ts = refl
four_types call.Gt p a b c d ts = refl
four_types call.Ge p a b c d ts = refl
four_types call.Not p a b c d ts = refl
four_types call.And p a b c d ts = refl
four_types call.Or p a b c d ts = refl
four_types call.IsIn p a b c d ts = cc
four_types call.IsNa p a b c d ts = refl
four_types (call.IfElse t) p a b c d ts = refl
four_types (call.CaseWhen t) p a b c d ts = cc
four_types (call.Coalesce t) p a b c d ts = cc
four_types call.Between p a b c d ts = refl
four_types call.Abs p a b c d ts = refl
four_types call.NChar p a b c d ts = refl
four_types call.Substr p a b c d ts = refl
four_types call.ToUpper p a b c d ts = refl
four_types call.ToLower p a b c d ts = refl
four_types call.StartsWith p a b c d ts = refl
four_types call.EndsWith p a b c d ts = refl
four_types call.Paste0 p a b c d ts = cc
four_types call.Year p a b c d ts = refl
four_types call.Month p a b c d ts = refl
four_types call.Day p a b c d ts = refl
four_types call.Wday p a b c d ts = refl
four_types call.AsInteger p a b c d ts = refl
four_types call.AsNumeric p a b c d ts = refl
four_types call.AsCharacter p a b c d ts = refl

four_typed : (f : ExprFn) → takes_list f ≡ false → (a b c d : ColType) (r : Result (List ColType) TypeFault) (x : Option (Option ColType)) → Ok x ≡ then_all agreed (with_front a (with_front b (with_front c (with_front d r)))) → Err WrongArguments ≡ call_type (takes f) (with_front a (with_front b (with_front c (with_front d r))))
four_typed f p a b c d (Ok ts) x h = sym (four_types f p a b c d ts)
four_typed f p a b c d (Err e) x h = cc

pub too_many_types : (f : ExprFn) → takes_list f ≡ false → (rs : List (Result ColType TypeFault)) (x : Option (Option ColType)) → 4 ≤ length rs → Ok x ≡ then_all agreed (all_of rs) → Err WrongArguments ≡ call_type (takes f) (all_of rs)
too_many_types f p [] x l h = absurd (omega arith)
too_many_types f p (a ∷ []) x l h = absurd (omega arith)
too_many_types f p (a ∷ b ∷ []) x l h = absurd (omega arith)
too_many_types f p (a ∷ b ∷ c ∷ []) x l h = absurd (omega arith)
too_many_types f p (Err e ∷ b ∷ c ∷ d ∷ rs) x l h = cc
too_many_types f p (Ok a ∷ Err e ∷ c ∷ d ∷ rs) x l h = cc
too_many_types f p (Ok a ∷ Ok b ∷ Err e ∷ d ∷ rs) x l h = cc
too_many_types f p (Ok a ∷ Ok b ∷ Ok c ∷ Err e ∷ rs) x l h = cc
too_many_types f p (Ok a ∷ Ok b ∷ Ok c ∷ Ok d ∷ rs) x l h = four_typed f p a b c d (all_of rs) x h
