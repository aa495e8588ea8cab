-- Conditions put together by `&`: a truth value that is TRUE where all of them are.
use Rattle.std.proofs.Common.{◌≡◌, ℕ, zero, suc, ◌+◌, ◌-◌, ◌/◌, ◌<◌, ◌≤◌, Bool, true, false, ◌&&◌, not, cond, IsTrue, List, [], ◌∷◌, ◌++◌, length, take, drop, map, filter, slice_get, Result, Ok, Err, refl, sym, ◌∙◌, ap, ap₂, arith}
use Rattle.std.specs.List.{list_all}
use Rattle.std.proofs.lemmas.List.{length-take-le, length-drop, take-append-drop}
use Rattle.std.proofs.lemmas.Bool.{ltb-true}
use Rattle.std.proofs.lemmas.List.Folds.{list_all-append, list_all-map}
use Rattle.scalar_value.specs.declared.value.Value.{Value}
use Rattle.scalar_value.specs.declared.value.Value.TheVariants as cell
use Rattle.scalar_value.specs.declared.value.ColType.{ColType}
use Rattle.scalar_value.specs.declared.value.ColType.TheVariants.{Int, Dec, Chr, Date, Lgl}
use Rattle.scalar_value.specs.Order.{is_of_type}
use Rattle.scalar_value.specs.Truths.{is_true, is_missing}
use Rattle.scalar_value.specs.Truths.{is_there as there}
use Rattle.row_table.specs.declared.field.Field.{Field}
use Rattle.row_table.specs.Tables.{fits_row, fit_rows}
use Rattle.agg_rules.specs.Windows.{value_at}
use Rattle.na_expr.specs.declared.expr.TypeFault.{TypeFault}
use Rattle.na_expr.specs.declared.expr.Expr.{Expr}
use Rattle.na_expr.specs.declared.expr.Expr.TheVariants.{Col, Lit, Call}
use Rattle.na_expr.specs.declared.expr.ExprFn.TheVariants as call
use Rattle.na_expr.specs.Evaluation.{val, call_value}
use Rattle.na_expr.specs.Operators.{both_true, negation}
use Rattle.na_expr.specs.Types.{typed, takes, call_type, all_of}
use Rattle.na_expr.proofs.TypedOperators.{same_kind}
use Rattle.na_expr.proofs.TypedValues.{values_typed}
use Rattle.plan_nodes.specs.Kinds.{filtered}
use Rattle.verb_forms.specs.declared.part.Part.{Part}
use Rattle.verb_forms.specs.Columns.{kind_at}
use Rattle.verb_forms.specs.Suits.{is_empty, is_truth, is_condition, is_place, are_places}
use Rattle.verb_meaning.specs.Rows.{part_value, passes, is_whole}
use Rattle.plan_compile.specs.Steps.{truth, all_by, all_true, is_there}
use Rattle.plan_compile.proofs.Pieces.{typed_column, typed_literal, typed_call, value_column, value_literal, value_call}

pub left_true : (a b : Bool) → (a && b) ≡ true → a ≡ true
left_true true b h = refl
left_true false b h = h

pub right_true : (a b : Bool) → (a && b) ≡ true → b ≡ true
right_true true b h = h
right_true false b h = absurd (cc)

-- each of these is a truth value over the columns
abbrev pub AreTruths : List Field → List Expr → Type 0
AreTruths schema [] = Unit {0}
AreTruths schema (e ∷ es) = (typed schema e ≡ Ok Lgl) × AreTruths schema es

truths_taken : (schema : List Field) (n : ℕ) (es : List Expr) → AreTruths schema es → AreTruths schema (take n es)
truths_taken schema zero [] h = tt
truths_taken schema zero (e ∷ es) h = tt
truths_taken schema (suc n) [] h = tt
truths_taken schema (suc n) (e ∷ es) h = (h.0, truths_taken schema n es h.1)

truths_left : (schema : List Field) (n : ℕ) (es : List Expr) → AreTruths schema es → AreTruths schema (drop n es)
truths_left schema zero [] h = tt
truths_left schema zero (e ∷ es) h = h
truths_left schema (suc n) [] h = tt
truths_left schema (suc n) (e ∷ es) h = truths_left schema n es h.1

-- ---- so many levels are enough

first_half : {A : Type 0} (levels : ℕ) (xs : List A) → 2 ≤ length xs → length xs ≤ suc levels → length (take (length xs / 2) xs) ≤ levels
first_half levels xs some within = let half : length xs / 2 ≤ length xs = omega arith in let a = length-take-le (length xs / 2) xs half in omega arith

second_half : {A : Type 0} (levels : ℕ) (xs : List A) → 2 ≤ length xs → length xs ≤ suc levels → length (drop (length xs / 2) xs) ≤ levels
second_half levels xs some within = let a = length-drop (length xs / 2) xs in omega arith

-- ---- their type

both_typed : (schema : List Field) (a b : Expr) → typed schema a ≡ Ok Lgl → typed schema b ≡ Ok Lgl → typed schema (Call call.And (a ∷ b ∷ [])) ≡ Ok Lgl
both_typed schema a b p q = typed_call schema call.And (a ∷ b ∷ []) ∙ ap₂ (λ r s. call_type (takes call.And) (all_of (r ∷ s ∷ []))) p q

typed_by : (schema : List Field) (levels : ℕ) (es : List Expr) → length es ≤ levels → AreTruths schema es → typed schema (all_by levels es) ≡ Ok Lgl
typed_by schema zero [] within h = typed_literal schema (cell.Lgl true) Lgl refl
typed_by schema (suc levels) [] within h = typed_literal schema (cell.Lgl true) Lgl refl
typed_by schema zero (e ∷ []) within h = h.0
typed_by schema (suc levels) (e ∷ []) within h = h.0
typed_by schema zero (e ∷ f ∷ es) within h = absurd (omega arith)
typed_by schema (suc levels) (e ∷ f ∷ es) within h =
    let xs : List Expr = e ∷ f ∷ es in
    let half : ℕ = length xs / 2 in
    both_typed schema (all_by levels (take half xs)) (all_by levels (drop half xs))
    (typed_by schema levels (take half xs) (first_half levels xs (omega arith) within) (truths_taken schema half xs h))
    (typed_by schema levels (drop half xs) (second_half levels xs (omega arith) within) (truths_left schema half xs h))

pub all_typed : (schema : List Field) (es : List Expr) → AreTruths schema es → typed schema (all_true es) ≡ Ok Lgl
all_typed schema es h = typed_by schema (length es) es (omega arith) h

-- ---- their value

both_are : (a b : Value) → is_of_type Lgl a ≡ true → is_of_type Lgl b ≡ true → is_true (both_true a b) ≡ (is_true a && is_true b)
both_are (cell.Lgl true) (cell.Lgl true) p q = refl
both_are (cell.Lgl true) (cell.Lgl false) p q = refl
both_are (cell.Lgl false) (cell.Lgl true) p q = refl
both_are (cell.Lgl false) (cell.Lgl false) p q = refl
both_are (cell.Lgl true) cell.Missing p q = refl
both_are (cell.Lgl false) cell.Missing p q = refl
both_are cell.Missing (cell.Lgl true) p q = refl
both_are cell.Missing (cell.Lgl false) p q = refl
both_are cell.Missing cell.Missing p q = refl
both_are a b p q = absurd (cc)

module _ (schema : List Field) (row : List Value) (fits : IsTrue (fits_row schema row)) where
  value_by : (levels : ℕ) (es : List Expr) → length es ≤ levels → AreTruths schema es → is_true (val row (all_by levels es)) ≡ list_all (λ e. is_true (val row e)) es
  value_by zero [] within h = ap is_true (value_literal row (cell.Lgl true) Lgl)
  value_by (suc levels) [] within h = ap is_true (value_literal row (cell.Lgl true) Lgl)
  value_by zero (e ∷ []) within h = absurd (omega arith)
  value_by (suc levels) (e ∷ []) within h = alone (is_true (val row e)) where
    alone : (b : Bool) → b ≡ (b && true)
    alone true = refl
    alone false = refl
  value_by zero (e ∷ f ∷ es) within h = absurd (omega arith)
  value_by (suc levels) (e ∷ f ∷ es) within h =
      let xs : List Expr = e ∷ f ∷ es in
      let half : ℕ = length xs / 2 in
      let one : length (take half xs) ≤ levels = first_half levels xs (omega arith) within in
      let two : length (drop half xs) ≤ levels = second_half levels xs (omega arith) within in
      let first : AreTruths schema (take half xs) = truths_taken schema half xs h in
      let second : AreTruths schema (drop half xs) = truths_left schema half xs h in
      let a : Expr = all_by levels (take half xs) in
      let b : Expr = all_by levels (drop half xs) in
      ap is_true (value_call row call.And (a ∷ b ∷ []))
      ∙ both_are (val row a) (val row b) (values_typed schema row a Lgl fits (typed_by schema levels (take half xs) one first)) (values_typed schema row b Lgl fits (typed_by schema levels (drop half xs) two second))
      ∙ ap₂ (λ p q. p && q) (value_by levels (take half xs) one first) (value_by levels (drop half xs) two second)
      ∙ sym (list_all-append (λ e. is_true (val row e)) (take half xs) (drop half xs))
      ∙ ap (list_all (λ e. is_true (val row e))) (take-append-drop half xs)

  pub all_are : (es : List Expr) → AreTruths schema es → is_true (val row (all_true es)) ≡ list_all (λ e. is_true (val row e)) es
  all_are es h = value_by (length es) es (omega arith) h

-- ---- rows

filter_same : (schema : List Field) (p q : List Value → Bool) → ((row : List Value) → IsTrue (fits_row schema row) → p row ≡ q row) → (rows : List (List Value)) → IsTrue (fit_rows schema rows) → filter p rows ≡ filter q rows
filter_same schema p q each [] h = refl
filter_same schema p q each (row ∷ rows) h =
    ap₂ (λ b rest. cond b (row ∷ rest) rest) (each row (left_true (fits_row schema row) (fit_rows schema rows) h))
    (filter_same schema p q each rows (right_true (fits_row schema row) (fit_rows schema rows) h))

-- ---- filter

truth_is : (r : Result ColType TypeFault) → is_truth r ≡ true → r ≡ Ok Lgl
truth_is (Ok t) h = ap (λ x. Ok x) (same_kind t Lgl h)
truth_is (Err f) h = absurd (cc)

abbrev pub values : List Part → List Expr
values conditions = map (λ (part : Part). part.value) conditions

pub conditions_truths : (schema : List Field) (conditions : List Part) → IsTrue (list_all (is_condition schema) conditions) → AreTruths schema (values conditions)
conditions_truths schema [] h = tt
conditions_truths schema (part ∷ conditions) h = (
  truth_is (typed schema part.value) (right_true (is_empty part.calls) (is_truth (typed schema part.value)) (left_true (is_condition schema part) (list_all (is_condition schema) conditions) h)),
  conditions_truths schema conditions (right_true (is_condition schema part) (list_all (is_condition schema) conditions) h),
)

pub filter_rows : (schema : List Field) (conditions : List Part) (rows : List (List Value)) → IsTrue (list_all (is_condition schema) conditions) → IsTrue (fit_rows schema rows) → filtered (all_true (values conditions)) rows ≡ filter (passes conditions) rows
filter_rows schema conditions rows h fit =
    filter_same schema (λ row. is_true (val row (all_true (values conditions)))) (passes conditions)
    (λ row fits. all_are schema row fits (values conditions) (conditions_truths schema conditions h) ∙ list_all-map (λ e. is_true (val row e)) (λ (part : Part). part.value) conditions)
    rows fit

-- ---- drop_na

tested : (t : ColType) → takes call.IsNa (t ∷ []) ≡ Ok Lgl
tested Int = refl
tested Dec = refl
tested Chr = refl
tested Date = refl
tested Lgl = refl

there_typed : (schema : List Field) (at : ℕ) → IsTrue (is_place schema at) → typed schema (is_there at) ≡ Ok Lgl
there_typed schema at h =
    let missing : Expr = Call call.IsNa (Col at ∷ []) in
    let column : typed schema (Col at) ≡ Ok (kind_at schema at) = typed_column schema at (ltb-true at (length schema) h) in
    let inner : typed schema missing ≡ Ok Lgl = typed_call schema call.IsNa (Col at ∷ []) ∙ ap (λ r. call_type (takes call.IsNa) (all_of (r ∷ []))) column ∙ tested (kind_at schema at) in
    typed_call schema call.Not (missing ∷ []) ∙ ap (λ r. call_type (takes call.Not) (all_of (r ∷ []))) inner

there_value : (row : List Value) (at : ℕ) → is_true (val row (is_there at)) ≡ there (value_at row at)
there_value row at =
    let missing : Expr = Call call.IsNa (Col at ∷ []) in
    let inner : val row missing ≡ cell.Lgl (is_missing (value_at row at)) = value_call row call.IsNa (Col at ∷ []) ∙ ap (λ (v : Value). cell.Lgl (is_missing v)) (value_column row at) in
    ap is_true (value_call row call.Not (missing ∷ []) ∙ ap negation inner)

pub there_truths : (schema : List Field) (columns : List ℕ) → IsTrue (are_places schema columns) → AreTruths schema (map is_there columns)
there_truths schema [] h = tt
there_truths schema (at ∷ columns) h = (
  there_typed schema at (left_true (is_place schema at) (are_places schema columns) h),
  there_truths schema columns (right_true (is_place schema at) (are_places schema columns) h),
)

all_there : (row : List Value) (columns : List ℕ) → list_all (λ e. is_true (val row e)) (map is_there columns) ≡ is_whole columns row
all_there row [] = refl
all_there row (at ∷ columns) = ap₂ (λ p q. p && q) (there_value row at) (all_there row columns)

pub whole_rows : (schema : List Field) (columns : List ℕ) (rows : List (List Value)) → IsTrue (are_places schema columns) → IsTrue (fit_rows schema rows) → filtered (all_true (map is_there columns)) rows ≡ filter (is_whole columns) rows
whole_rows schema columns rows h fit =
    filter_same schema (λ row. is_true (val row (all_true (map is_there columns)))) (is_whole columns)
    (λ row fits. all_are schema row fits (map is_there columns) (there_truths schema columns h) ∙ all_there row columns)
    rows fit
