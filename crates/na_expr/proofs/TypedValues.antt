-- The value of a typed expression is of its type.
use Rattle.std.proofs.Common.{ℕ, zero, suc, Bool, true, false, ◌&&◌, if◌then◌else◌, Option, Some, None, Result, Ok, Err, ◌≡◌, refl, sym, ap, subst, List, [], ◌∷◌, map, fold, unwrap_or, slice_get, ◌==◌}
use Rattle.std.specs.List.{starts_with, ends_with}
use Rattle.std.specs.Ordering.{is_eq, is_ne, is_lt, is_le, is_gt, is_ge}
use Rattle.std.specs.Char.{to_ascii_uppercase, to_ascii_lowercase}
use Rattle.scalar_value.specs.declared.value.Value.{Value}
use Rattle.scalar_value.specs.declared.value.Value.TheVariants as cell
use Rattle.scalar_value.specs.declared.value.ColType.{ColType}
use Rattle.scalar_value.specs.declared.value.ColType.TheVariants.{Int, Dec, Chr, Date, Lgl}
use Rattle.scalar_value.specs.declared.arithmetic.NumOp.TheVariants as op
use Rattle.scalar_value.specs.Order.{is_of_type}
use Rattle.scalar_value.specs.Truths.{is_true}
use Rattle.scalar_fns.specs.Days.{year_of, month_of, month_day_of, wday_of}
use Rattle.row_table.specs.declared.field.Field.{Field}
use Rattle.row_table.specs.Tables.{fits_row}
use Rattle.na_expr.specs.declared.expr.TypeFault.{TypeFault}
use Rattle.na_expr.specs.declared.expr.TypeFault.TheVariants.{WrongType}
use Rattle.na_expr.specs.declared.expr.ExprFn.{ExprFn}
use Rattle.na_expr.specs.declared.expr.ExprFn.TheVariants as call
use Rattle.na_expr.specs.declared.expr.Expr.{Expr}
use Rattle.na_expr.specs.declared.expr.Expr.TheOpen.{Expr-F, Col, Lit, Call}
use Rattle.na_expr.specs.declared.expr.Expr.TheFolds.{fold-roll-Expr, map-Expr, ind-Expr}
use Rattle.na_expr.specs.declared.expr.Expr.TheViews.{roll-Expr}
use Rattle.na_expr.specs.Evaluation.{val, step_value, call_value, of_one, of_two, of_three}
use Rattle.na_expr.specs.Operators.{first_case, first_there, carried, among, pasted}
use Rattle.na_expr.specs.Types.{typed, step_type, takes, call_type, all_of, with_front, column_type, or_wrong_type, joined, joining, agreed, by_agreement, carried_type, then_test, case_type, case_outcome, are_truths, conditions_of, values_of, is_kind}
use Rattle.na_expr.specs.Types.{of_one as type_of_one, of_two as type_of_two, of_three as type_of_three}
use Rattle.na_expr.specs.Laws.{ValuesAreTyped}
use Rattle.na_expr.proofs.TypedOperators as operator
use Rattle.na_expr.proofs.TypedOperators.{Typed, Fits, missing, chr, lgl, typed_from, is_typed, widens, widened, joined_widens, carries, IsWhole}

-- a value of the type that was found; anything where a fault was
abbrev FitsResult : Result ColType TypeFault → Value → Type 0
FitsResult (Ok t) v = Typed t v
FitsResult (Err e) v = Unit {0}

-- values of these types, one for one
abbrev AllTyped : List ColType → List Value → Type 0
AllTyped [] [] = Unit {0}
AllTyped [] (v ∷ vs) = ⊥
AllTyped (t ∷ ts) [] = ⊥
AllTyped (t ∷ ts) (v ∷ vs) = Typed t v × AllTyped ts vs

right_type : (o : Option ColType) (v : Value) → Fits o v → FitsResult (or_wrong_type o) v
right_type None v h = tt
right_type (Some t) v h = h

-- ---- functions of one value, of two and of three

one : (rule : ColType → Option ColType) (f : Value → Value) → ((a : ColType) (v : Value) → Typed a v → Fits (rule a) (f v)) → (ts : List ColType) (vs : List Value) → AllTyped ts vs → FitsResult (type_of_one rule ts) (of_one f vs)
one rule f h [] vs p = tt
one rule f h (a ∷ []) (v ∷ []) p = right_type (rule a) (f v) (h a v p.0)
one rule f h (a ∷ []) [] p = absurd p
one rule f h (a ∷ []) (v ∷ w ∷ vs) p = absurd p.1
one rule f h (a ∷ b ∷ ts) vs p = tt

two : (rule : ColType → ColType → Option ColType) (f : Value → Value → Value) → ((a b : ColType) (v w : Value) → Typed a v → Typed b w → Fits (rule a b) (f v w)) → (ts : List ColType) (vs : List Value) → AllTyped ts vs → FitsResult (type_of_two rule ts) (of_two f vs)
two rule f h [] vs p = tt
two rule f h (a ∷ []) vs p = tt
two rule f h (a ∷ b ∷ []) (v ∷ w ∷ []) p = right_type (rule a b) (f v w) (h a b v w p.0 p.1.0)
two rule f h (a ∷ b ∷ []) [] p = absurd p
two rule f h (a ∷ b ∷ []) (v ∷ []) p = absurd p.1
two rule f h (a ∷ b ∷ []) (v ∷ w ∷ x ∷ vs) p = absurd p.1.1
two rule f h (a ∷ b ∷ c ∷ ts) vs p = tt

three : (rule : ColType → ColType → ColType → Option ColType) (f : Value → Value → Value → Value) → ((a b c : ColType) (v w x : Value) → Typed a v → Typed b w → Typed c x → Fits (rule a b c) (f v w x)) → (ts : List ColType) (vs : List Value) → AllTyped ts vs → FitsResult (type_of_three rule ts) (of_three f vs)
three rule f h [] vs p = tt
three rule f h (a ∷ []) vs p = tt
three rule f h (a ∷ b ∷ []) vs p = tt
three rule f h (a ∷ b ∷ c ∷ []) (v ∷ w ∷ x ∷ []) p = right_type (rule a b c) (f v w x) (h a b c v w x p.0 p.1.0 p.1.1.0)
three rule f h (a ∷ b ∷ c ∷ []) [] p = absurd p
three rule f h (a ∷ b ∷ c ∷ []) (v ∷ []) p = absurd p.1
three rule f h (a ∷ b ∷ c ∷ []) (v ∷ w ∷ []) p = absurd p.1.1
three rule f h (a ∷ b ∷ c ∷ []) (v ∷ w ∷ x ∷ y ∷ vs) p = absurd p.1.1.1
three rule f h (a ∷ b ∷ c ∷ d ∷ ts) vs p = tt

-- ---- lists of any length

-- all types of a list become this one
abbrev AllWiden : ColType → List ColType → Type 0
AllWiden u [] = Unit {0}
AllWiden u (t ∷ ts) = (widens t u ≡ true) × AllWiden u ts

widens-trans : (a b c : ColType) → widens a b ≡ true → widens b c ≡ true → widens a c ≡ true
unfolding widens
widens-trans Int Int c p q = q
widens-trans Int Dec Dec p q = refl
widens-trans Dec Dec c p q = q
widens-trans Chr Chr c p q = q
widens-trans Date Date c p q = q
widens-trans Lgl Lgl c p q = q
widens-trans a b c p q = cc

widens-self : (a : ColType) → widens a a ≡ true
unfolding widens
widens-self Int = refl
widens-self Dec = refl
widens-self Chr = refl
widens-self Date = refl
widens-self Lgl = refl

none_agree : (ts : List ColType) (u : ColType) → fold joining (Some None) ts ≡ Some (Some u) → ⊥
none_agree [] u h = cc
none_agree (t ∷ ts) u h = none_agree ts u h

agree_by : (a t : ColType) (ts : List ColType) (u : ColType) (o : Option ColType) → joined a t ≡ o → ((b : ColType) → fold joining (Some (Some b)) ts ≡ Some (Some u) → (widens b u ≡ true) × AllWiden u ts) → fold joining (Some o) ts ≡ Some (Some u) → (widens a u ≡ true) × (widens t u ≡ true) × AllWiden u ts
agree_by a t ts u None e rest h = absurd (none_agree ts u h)
agree_by a t ts u (Some b) e rest h =
    let first = joined_widens a t b e in
    let more = rest b h in
    (widens-trans a b u first.0 more.0, widens-trans t b u first.1 more.0, more.1)

agree_from : (a : ColType) (ts : List ColType) (u : ColType) → fold joining (Some (Some a)) ts ≡ Some (Some u) → (widens a u ≡ true) × AllWiden u ts
agree_from a [] u h = let same : a ≡ u = cc in (rw same (widens-self u), tt)
agree_from a (t ∷ ts) u h = let all = agree_by a t ts u (joined a t) refl (λ b k. agree_from b ts u k) h in (all.0, (all.1, all.2))

all_agree : (ts : List ColType) (u : ColType) → agreed ts ≡ Some (Some u) → AllWiden u ts
all_agree [] u h = cc
all_agree (t ∷ ts) u h = let all = agree_from t ts u h in (all.0, all.1)

-- the first value that is there
first_typed : (u : ColType) (ts : List ColType) (vs : List Value) → AllWiden u ts → AllTyped ts vs → Typed u (carried u (first_there vs))
first_typed u [] [] w p = widened u u cell.Missing (widens-self u) (missing u)
first_typed u [] (v ∷ vs) w p = absurd p
first_typed u (t ∷ ts) [] w p = absurd p
first_typed u (t ∷ ts) (v ∷ vs) w p = by_first v (widened t u v w.0 p.0) (first_typed u ts vs w.1 p.1) where
  by_first : (v : Value) → Typed u (carried u v) → Typed u (carried u (first_there vs)) → Typed u (carried u (first_there (v ∷ vs)))
  by_first (cell.Int z) h rest = h
  by_first (cell.Dec m) h rest = h
  by_first (cell.Chr x) h rest = h
  by_first (cell.Day d) h rest = h
  by_first (cell.Lgl b) h rest = h
  by_first cell.Missing h rest = rest

agreed_fits : (kind : ColType) (o : Option (Option ColType)) (v : Value) → ((u : ColType) → o ≡ Some (Some u) → Typed u (carried u v)) → FitsResult (by_agreement (carried_type kind) o) (carried kind v)
agreed_fits kind None v h = tt
agreed_fits kind (Some t) v h = right_type (carried_type kind t) (carried kind v) (carries kind t v (λ u e. h u (ap (λ x. Some x) e)))

coalesced : (kind : ColType) (ts : List ColType) (vs : List Value) → AllTyped ts vs → FitsResult (by_agreement (carried_type kind) (agreed ts)) (carried kind (first_there vs))
coalesced kind ts vs p = agreed_fits kind (agreed ts) (first_there vs) (λ u e. first_typed u ts vs (all_agree ts u e) p)

-- `case_when`
case_typed : (u : ColType) (ts : List ColType) (vs : List Value) → AllWiden u (values_of ts) → AllTyped ts vs → Typed u (first_case u vs)
case_typed u [] [] w p = missing u
case_typed u [] (v ∷ vs) w p = absurd p
case_typed u (t ∷ []) [] w p = absurd p
case_typed u (t ∷ []) (v ∷ []) w p = widened t u v w.0 p.0
case_typed u (t ∷ []) (v ∷ x ∷ vs) w p = absurd p.1
case_typed u (c ∷ t ∷ ts) [] w p = absurd p
case_typed u (c ∷ t ∷ ts) (v ∷ []) w p = absurd p.1
case_typed u (c ∷ t ∷ ts) (v ∷ x ∷ vs) w p = by_test (is_true v) (widened t u x w.0 p.1.0) (case_typed u ts vs w.1 p.1.1) where
  by_test : (b : Bool) → Typed u (carried u x) → Typed u (first_case u vs) → Typed u (if b then carried u x else first_case u vs)
  by_test true h rest = h
  by_test false h rest = rest

case_carried : (kind : ColType) (t : Option ColType) (vs : List Value) → ((u : ColType) → t ≡ Some u → Typed u (first_case u vs)) → Fits (carried_type kind t) (first_case kind vs)
case_carried kind None vs h = tt
case_carried kind (Some u) vs h = by_test (is_kind kind u) refl where
  by_test : (b : Bool) → is_kind kind u ≡ b → Fits (if b then Some kind else None) (first_case kind vs)
  by_test true e = let P : ColType → Type 0 = λ x. Typed x (first_case x vs) in subst P (sym (operator.same_kind kind u e)) (h u refl)
  by_test false e = tt

case_agreed : (kind : ColType) (o : Option (Option ColType)) (vs : List Value) → ((u : ColType) → o ≡ Some (Some u) → Typed u (first_case u vs)) → FitsResult (by_agreement (carried_type kind) o) (first_case kind vs)
case_agreed kind None vs h = tt
case_agreed kind (Some t) vs h = right_type (carried_type kind t) (first_case kind vs) (case_carried kind t vs (λ u e. h u (ap (λ x. Some x) e)))

case_by : (truths : Bool) (kind : ColType) (o : Option (Option ColType)) (vs : List Value) → FitsResult (by_agreement (carried_type kind) o) (first_case kind vs) → FitsResult (case_outcome kind truths o) (first_case kind vs)
case_by true kind o vs h = h
case_by false kind o vs h = tt

cases : (kind : ColType) (ts : List ColType) (vs : List Value) → AllTyped ts vs → FitsResult (case_type kind ts) (first_case kind vs)
cases kind [] vs p = tt
cases kind (d ∷ []) vs p = tt
cases kind (c ∷ t ∷ ts) vs p =
    case_by (are_truths (conditions_of (c ∷ t ∷ ts))) kind (agreed (values_of (c ∷ t ∷ ts))) vs
    (case_agreed kind (agreed (values_of (c ∷ t ∷ ts))) vs (λ u e. case_typed u (c ∷ t ∷ ts) vs (all_agree (values_of (c ∷ t ∷ ts)) u e) p))

-- `%in%` and `paste0`
some_lgl : (o : Option (Option ColType)) (v : Value) → Typed Lgl v → FitsResult (by_agreement then_test o) v
some_lgl None v h = tt
some_lgl (Some None) v h = tt
some_lgl (Some (Some t)) v h = h

some_chr : (o : Option (Option ColType)) (v : Value) → Typed Chr v → FitsResult (by_agreement (λ t. Some Chr) o) v
some_chr None v h = tt
some_chr (Some t) v h = h

among_lgl : (vs : List Value) → Typed Lgl (among vs)
among_lgl [] = lgl false
among_lgl (v ∷ vs) = lgl _

-- ---- each operator and function

call_typed : (f : ExprFn) (ts : List ColType) (vs : List Value) → AllTyped ts vs → FitsResult (takes f ts) (call_value f vs)
call_typed call.Neg = one _ _ operator.negatives
call_typed call.Add = two _ _ operator.sums
call_typed call.Sub = two _ _ operator.differences
call_typed call.Mul = two _ _ (operator.numbers op.Mul operator.product_whole)
call_typed call.Div = two _ _ operator.quotients
call_typed call.FloorDiv = two _ _ (operator.numbers op.FloorDiv operator.floor_whole)
call_typed call.Mod = two _ _ (operator.numbers op.Mod operator.rest_whole)
call_typed call.Eq = two _ _ (operator.comparisons is_eq)
call_typed call.Ne = two _ _ (operator.comparisons is_ne)
call_typed call.Lt = two _ _ (operator.comparisons is_lt)
call_typed call.Le = two _ _ (operator.comparisons is_le)
call_typed call.Gt = two _ _ (operator.comparisons is_gt)
call_typed call.Ge = two _ _ (operator.comparisons is_ge)
call_typed call.Not = one _ _ operator.opposites
call_typed call.And = two _ _ operator.conjunctions
call_typed call.Or = two _ _ operator.disjunctions
call_typed call.IsIn = λ ts vs p. some_lgl (agreed ts) (among vs) (among_lgl vs)
call_typed call.IsNa = one _ _ operator.any_tests
call_typed (call.IfElse t) = three _ _ (operator.choices t)
call_typed (call.CaseWhen t) = cases t
call_typed (call.Coalesce t) = coalesced t
call_typed call.Between = three _ _ operator.betweens
call_typed call.Abs = one _ _ operator.sizes
call_typed call.NChar = one _ _ operator.lengths
call_typed call.Substr = three _ _ operator.parts_of_texts
call_typed call.ToUpper = one _ _ (operator.texts (map to_ascii_uppercase))
call_typed call.ToLower = one _ _ (operator.texts (map to_ascii_lowercase))
call_typed call.StartsWith = two _ _ (operator.text_tests (starts_with ◌==◌))
call_typed call.EndsWith = two _ _ (operator.text_tests (ends_with ◌==◌))
call_typed call.Paste0 = λ ts vs p. some_chr (agreed ts) (pasted vs) (chr _)
call_typed call.Year = one _ _ (operator.parts_of_days year_of)
call_typed call.Month = one _ _ (operator.parts_of_days month_of)
call_typed call.Day = one _ _ (operator.parts_of_days month_day_of)
call_typed call.Wday = one _ _ (operator.parts_of_days wday_of)
call_typed call.AsInteger = one _ _ operator.integers
call_typed call.AsNumeric = one _ _ operator.decimals
call_typed call.AsCharacter = one _ _ operator.value_texts

-- ---- expressions

first_fits : (b c : Bool) → (b && c) ≡ true → b ≡ true
first_fits true c h = refl
first_fits false c h = cc

rest_fits : (b c : Bool) → (b && c) ≡ true → c ≡ true
rest_fits true c h = h
rest_fits false c h = cc

column_typed : (schema : List Field) (row : List Value) (at : ℕ) → fits_row schema row ≡ true → FitsResult (column_type (slice_get schema at)) (unwrap_or (slice_get row at) cell.Missing)
column_typed [] row at h = tt
column_typed (f ∷ fs) [] at h = cc
column_typed (f ∷ fs) (v ∷ vs) zero h = typed_from f.kind v (first_fits (is_of_type f.kind v) (fits_row fs vs) h)
column_typed (f ∷ fs) (v ∷ vs) (suc at) h = column_typed fs vs at (rest_fits (is_of_type f.kind v) (fits_row fs vs) h)

literal_typed : (t : ColType) (v : Value) (b : Bool) → is_of_type t v ≡ b → FitsResult (if b then Ok t else Err WrongType) v
literal_typed t v true h = typed_from t v h
literal_typed t v false h = tt

abbrev Holds : List Field → List Value → Expr → Type 0
Holds schema row e = FitsResult (typed schema e) (val row e)

-- the parts of a call, where each is of its type
abbrev AllHold : Result (List ColType) TypeFault → List Value → Type 0
AllHold (Ok ts) vs = AllTyped ts vs
AllHold (Err e) vs = Unit {0}

one_more : (r : Result ColType TypeFault) (rs : Result (List ColType) TypeFault) (rest : List (Result ColType TypeFault)) (v : Value) (vs : List Value) → rs ≡ all_of rest → FitsResult r v → AllHold rs vs → AllHold (all_of (r ∷ rest)) (v ∷ vs)
one_more (Err e) rs rest v vs is h k = tt
one_more (Ok t) (Ok ts) rest v vs is h k = let P : Result (List ColType) TypeFault → Type 0 = λ r. AllHold (with_front t r) (v ∷ vs) in subst P is (h, k)
one_more (Ok t) (Err e) rest v vs is h k = let P : Result (List ColType) TypeFault → Type 0 = λ r. AllHold (with_front t r) (v ∷ vs) in subst P is tt

module _ (schema : List Field) (row : List Value) where
  parts_typed : (parts : List ((e : Expr) × Holds schema row e)) → AllHold (all_of (map (typed schema) (map (λ e. e.0) parts))) (map (val row) (map (λ e. e.0) parts))
  parts_typed [] = tt
  parts_typed (e ∷ parts) =
      one_more (typed schema e.0) (all_of (map (typed schema) (map (λ e. e.0) parts))) (map (typed schema) (map (λ e. e.0) parts)) (val row e.0) (map (val row) (map (λ e. e.0) parts)) refl e.1 (parts_typed parts)

  whole_call : (f : ExprFn) (rs : Result (List ColType) TypeFault) (vs : List Value) → AllHold rs vs → FitsResult (call_type (takes f) rs) (call_value f vs)
  whole_call f (Ok ts) vs h = call_typed f ts vs h
  whole_call f (Err e) vs h = tt

  -- one layer: a column, a literal or a call whose parts hold
  layer : fits_row schema row ≡ true → (y : Expr-F ((e : Expr) × Holds schema row e)) → FitsResult (step_type schema (map-Expr Expr (Result ColType TypeFault) (typed schema) (map-Expr ((e : Expr) × Holds schema row e) Expr (λ e. e.0) y))) (step_value row (map-Expr Expr Value (val row) (map-Expr ((e : Expr) × Holds schema row e) Expr (λ e. e.0) y)))
  layer fits (Col at) = column_typed schema row at fits
  layer fits (Lit v t) = literal_typed t v (is_of_type t v) refl
  layer fits (Call f parts) = whole_call f _ _ (parts_typed parts)

  rolled : (x : Expr-F Expr) → FitsResult (step_type schema (map-Expr Expr (Result ColType TypeFault) (typed schema) x)) (step_value row (map-Expr Expr Value (val row) x)) → Holds schema row (roll-Expr x)
  rolled x h =
      let P : Result ColType TypeFault → Type 0 = λ r. FitsResult r (step_value row (map-Expr Expr Value (val row) x)) in
      let Q : Value → Type 0 = λ v. FitsResult (typed schema (roll-Expr x)) v in
      subst Q (sym (fold-roll-Expr Value (step_value row) x)) (subst P (sym (fold-roll-Expr (Result ColType TypeFault) (step_type schema) x)) h)

  all_hold : fits_row schema row ≡ true → (e : Expr) → Holds schema row e
  all_hold fits = ind-Expr (Holds schema row) (λ x y is.
      let P : Expr-F Expr → Type 0 = λ z. Holds schema row (roll-Expr z) in
      subst P is (rolled (map-Expr ((e : Expr) × Holds schema row e) Expr (λ e. e.0) y) (layer fits y)))

pub values_typed : ValuesAreTyped
values_typed schema row e t fits is =
    let P : Result ColType TypeFault → Type 0 = λ r. FitsResult r (val row e) in
    is_typed t (val row e) (subst P is (all_hold schema row fits e))
