-- `replace_na` by columns: each is the first of its value and its literals that isn't missing.
use Rattle.std.proofs.Common.{◌≡◌, ℕ, zero, suc, ◌+◌, ◌<◌, ◌≤◌, inl, inr, Bool, true, false, ◌&&◌, cond, nat_eq, List, [], ◌∷◌, length, map, filter, set, unwrap_or, slice_get, fold, Option, Some, None, Result, Ok, Err, IsTrue, refl, sym, ◌∙◌, ap, ap₂, subst, arith}
use Rattle.std.specs.List.{range_with_len, list_all}
use Rattle.std.proofs.lemmas.List.{length-set, get_or-set_same, get_or-set_other}
use Rattle.std.proofs.lemmas.Option.{unwrap_or-slice_get}
use Rattle.std.proofs.lemmas.Bool.Decides.{eqb_tells}
use Rattle.scalar_value.specs.declared.value.Value.{Value}
use Rattle.scalar_value.specs.declared.value.Value.TheVariants as cell
use Rattle.scalar_value.specs.declared.value.ColType.{ColType}
use Rattle.scalar_value.specs.declared.value.ColType.TheVariants.{Int, Dec, Chr, Date, Lgl}
use Rattle.scalar_value.specs.Order.{is_of_type}
use Rattle.scalar_value.specs.Truths.{is_missing}
use Rattle.row_table.specs.declared.field.Field.{Field}
use Rattle.row_table.specs.Tables.{fits_row, fit_rows}
use Rattle.agg_rules.specs.Windows.{value_at}
use Rattle.na_expr.specs.declared.expr.Expr.{Expr}
use Rattle.na_expr.specs.declared.expr.Expr.TheVariants.{Col, Lit}
use Rattle.na_expr.specs.declared.expr.ExprFn.TheVariants.{Coalesce}
use Rattle.na_expr.specs.Evaluation.{val}
use Rattle.na_expr.specs.Operators.{carried, first_there}
use Rattle.na_expr.specs.Types.{typed, takes, call_type, joined, joining, by_agreement, carried_type}
use Rattle.na_expr.proofs.TypedValues.{values_typed}
use Rattle.column_batch.specs.Batches.{kinds_of}
use Rattle.plan_nodes.specs.Kinds.{projected}
use Rattle.chain_plans.specs.Chains.{IsStep}
use Rattle.verb_forms.specs.Columns.{kind_at}
use Rattle.verb_forms.specs.Suits.{is_place, fits_column}
use Rattle.verb_meaning.specs.Rows.{with_cell, with_cells}
use Rattle.plan_compile.specs.Steps.{literals_for, or_literals, replaced_columns, replace_step}
use Rattle.plan_compile.proofs.Pieces.{typed_column, typed_literal, typed_call, value_column, value_literal, value_call}
use Rattle.plan_compile.proofs.Conditions.{left_true, right_true}
use Rattle.plan_compile.proofs.Typed.{both, HaveTypes, all_types, project_stands, range_types}
use Rattle.plan_compile.proofs.Columns.{map_same, fits_length, row_by_places, kinds_by_places, range_valued}

-- ---- the values for a column

abbrev of_type : ColType → ℕ × Value → Bool
of_type kind c = is_of_type kind c.1

abbrev here : List (ℕ × Value) → ℕ → List (ℕ × Value)
here cells at = filter (λ c. nat_eq c.0 at) cells

-- they are of its type
cells_typed : (schema : List Field) (cells : List (ℕ × Value)) (at : ℕ) → IsTrue (list_all (fits_column schema) cells) → list_all (of_type (kind_at schema at)) (here cells at) ≡ true
cells_typed schema [] at h = refl
cells_typed schema (c ∷ cells) at h =
    let rest : list_all (of_type (kind_at schema at)) (here cells at) ≡ true = cells_typed schema cells at (right_true (fits_column schema c) (list_all (fits_column schema) cells) h) in
    let one : is_of_type (kind_at schema c.0) c.1 ≡ true = right_true (is_place schema c.0) (is_of_type (kind_at schema c.0) c.1) (left_true (fits_column schema c) (list_all (fits_column schema) cells) h) in
    elim (eqb_tells c.0 at) [
      | inl q ↦ rw q.0 (both (is_of_type (kind_at schema at) c.1) (list_all (of_type (kind_at schema at)) (here cells at)) (subst (λ k. is_of_type (kind_at schema k) c.1 ≡ true) q.1 one) rest)
      | inr q ↦ rw q.0 rest
    ]

abbrev literals : ColType → List (ℕ × Value) → List Expr
literals kind cs = map (λ c. Lit c.1 kind) cs

-- ---- types

literal_types : (schema : List Field) (kind : ColType) (cs : List (ℕ × Value)) → list_all (of_type kind) cs ≡ true → HaveTypes schema (literals kind cs) (map (λ c. kind) cs)
literal_types schema kind [] h = tt
literal_types schema kind (c ∷ cs) h = (
  typed_literal schema c.1 kind (left_true (of_type kind c) (list_all (of_type kind) cs) h),
  literal_types schema kind cs (right_true (of_type kind c) (list_all (of_type kind) cs) h),
)

joined_itself : (t : ColType) → joined t t ≡ Some t
joined_itself Int = refl
joined_itself Dec = refl
joined_itself Chr = refl
joined_itself Date = refl
joined_itself Lgl = refl

carries_itself : (t : ColType) → by_agreement (carried_type t) (Some (Some t)) ≡ Ok t
carries_itself Int = refl
carries_itself Dec = refl
carries_itself Chr = refl
carries_itself Date = refl
carries_itself Lgl = refl

agree : (t : ColType) (cs : List (ℕ × Value)) → fold joining (Some (Some t)) (map (λ c. t) cs) ≡ Some (Some t)
agree t [] = refl
agree t (c ∷ cs) = ap (λ o. fold joining (Some o) (map (λ (c : ℕ × Value). t) cs)) (joined_itself t) ∙ agree t cs

or_typed : (schema : List Field) (at : ℕ) (cs : List (ℕ × Value)) → at < length schema → list_all (of_type (kind_at schema at)) cs ≡ true
    → typed schema (or_literals schema at (literals (kind_at schema at) cs)) ≡ Ok (kind_at schema at)
or_typed schema at [] within h = typed_column schema at within
or_typed schema at (c ∷ cs) within h =
    let kind : ColType = kind_at schema at in
    let all = all_types schema (Col at ∷ literals kind (c ∷ cs)) (kind ∷ map (λ c. kind) (c ∷ cs)) (typed_column schema at within, literal_types schema kind (c ∷ cs) h) in
    typed_call schema (Coalesce kind) (Col at ∷ literals kind (c ∷ cs))
    ∙ ap (call_type (takes (Coalesce kind))) all
    ∙ ap (by_agreement (carried_type kind)) (agree kind (c ∷ cs))
    ∙ carries_itself kind

replaced_typed : (schema : List Field) (cells : List (ℕ × Value)) → IsTrue (list_all (fits_column schema) cells) → HaveTypes schema (replaced_columns schema cells) (kinds_of schema)
replaced_typed schema cells h =
    subst (λ ts. HaveTypes schema (replaced_columns schema cells) ts) (kinds_by_places schema)
    (range_types schema (λ at. or_literals schema at (literals_for schema cells at)) (kind_at schema) 0 (length schema)
    (λ at low up. or_typed schema at (here cells at) (omega arith) (cells_typed schema cells at h)))

pub replace_stands : (schema : List Field) (cells : List (ℕ × Value)) → IsTrue (list_all (fits_column schema) cells) → IsStep schema (replace_step schema cells)
replace_stands schema cells h = project_stands schema schema (replaced_columns schema cells) (replaced_typed schema cells h)

-- ---- the first value that isn't missing

first_alone : (v : Value) → first_there (v ∷ []) ≡ v
first_alone (cell.Int z) = refl
first_alone (cell.Dec m) = refl
first_alone (cell.Chr t) = refl
first_alone (cell.Day d) = refl
first_alone (cell.Lgl b) = refl
first_alone cell.Missing = refl

first_typed : (t : ColType) (vs : List Value) → list_all (is_of_type t) vs ≡ true → is_of_type t (first_there vs) ≡ true
first_typed t [] h = refl
first_typed t (cell.Int z ∷ vs) h = left_true (is_of_type t (cell.Int z)) (list_all (is_of_type t) vs) h
first_typed t (cell.Dec m ∷ vs) h = left_true (is_of_type t (cell.Dec m)) (list_all (is_of_type t) vs) h
first_typed t (cell.Chr x ∷ vs) h = left_true (is_of_type t (cell.Chr x)) (list_all (is_of_type t) vs) h
first_typed t (cell.Day d ∷ vs) h = left_true (is_of_type t (cell.Day d)) (list_all (is_of_type t) vs) h
first_typed t (cell.Lgl b ∷ vs) h = left_true (is_of_type t (cell.Lgl b)) (list_all (is_of_type t) vs) h
first_typed t (cell.Missing ∷ vs) h = first_typed t vs (right_true (is_of_type t cell.Missing) (list_all (is_of_type t) vs) h)

-- a value of the type is carried as it is
carried_itself : (t : ColType) (v : Value) → is_of_type t v ≡ true → carried t v ≡ v
carried_itself Int v h = refl
carried_itself Dec (cell.Int z) h = absurd (cc)
carried_itself Dec (cell.Dec m) h = refl
carried_itself Dec (cell.Chr x) h = refl
carried_itself Dec (cell.Day d) h = refl
carried_itself Dec (cell.Lgl b) h = refl
carried_itself Dec cell.Missing h = refl
carried_itself Chr v h = refl
carried_itself Date v h = refl
carried_itself Lgl v h = refl

missing_first : (v : Value) (vs : List Value) → is_missing v ≡ true → first_there (v ∷ vs) ≡ first_there vs
missing_first cell.Missing vs h = refl
missing_first v vs h = absurd (cc)

there_first : (v : Value) (vs ws : List Value) → is_missing v ≡ false → first_there (v ∷ vs) ≡ first_there (v ∷ ws)
there_first (cell.Int z) vs ws h = refl
there_first (cell.Dec m) vs ws h = refl
there_first (cell.Chr x) vs ws h = refl
there_first (cell.Day d) vs ws h = refl
there_first (cell.Lgl b) vs ws h = refl
there_first cell.Missing vs ws h = absurd (cc)

-- ---- values

abbrev values : List (ℕ × Value) → List Value
values cs = map (λ c. c.1) cs

literal_values : (row : List Value) (kind : ColType) (cs : List (ℕ × Value)) → map (val row) (literals kind cs) ≡ values cs
literal_values row kind [] = refl
literal_values row kind (c ∷ cs) = ap₂ (λ x xs. x ∷ xs) (value_literal row c.1 kind) (literal_values row kind cs)

values_of_type : (kind : ColType) (cs : List (ℕ × Value)) → list_all (of_type kind) cs ≡ true → list_all (is_of_type kind) (values cs) ≡ true
values_of_type kind [] h = refl
values_of_type kind (c ∷ cs) h =
    both (is_of_type kind c.1) (list_all (is_of_type kind) (values cs)) (left_true (of_type kind c) (list_all (of_type kind) cs) h)
    (values_of_type kind cs (right_true (of_type kind c) (list_all (of_type kind) cs) h))

or_valued : (schema : List Field) (row : List Value) (at : ℕ) (cs : List (ℕ × Value)) → is_of_type (kind_at schema at) (value_at row at) ≡ true → list_all (of_type (kind_at schema at)) cs ≡ true
    → val row (or_literals schema at (literals (kind_at schema at) cs)) ≡ first_there (value_at row at ∷ values cs)
or_valued schema row at [] own h = value_column row at ∙ sym (first_alone (value_at row at))
or_valued schema row at (c ∷ cs) own h =
    let kind : ColType = kind_at schema at in
    let vs : List Value = value_at row at ∷ values (c ∷ cs) in
    value_call row (Coalesce kind) (Col at ∷ literals kind (c ∷ cs))
    ∙ ap (λ ws. carried kind (first_there ws)) (ap₂ (λ x xs. x ∷ xs) (value_column row at) (literal_values row kind (c ∷ cs)))
    ∙ carried_itself kind (first_there vs) (first_typed kind vs (both (is_of_type kind (value_at row at)) (list_all (is_of_type kind) (values (c ∷ cs))) own (values_of_type kind (c ∷ cs) h)))

-- ---- one replacement after the other

abbrev filled : List Value → List (ℕ × Value) → ℕ → Value
filled row cells at = first_there (value_at row at ∷ values (here cells at))

set_here : (row : List Value) (k : ℕ) (v : Value) → k < length row → value_at (set row k v) k ≡ v
set_here row k v within = unwrap_or-slice_get (set row k v) k cell.Missing ∙ get_or-set_same row k v cell.Missing within

set_there : (row : List Value) (k at : ℕ) (v : Value) → (at ≡ k → ⊥) → value_at (set row k v) at ≡ value_at row at
set_there row k at v apart = unwrap_or-slice_get (set row k v) at cell.Missing ∙ get_or-set_other row k at v cell.Missing apart ∙ sym (unwrap_or-slice_get row at cell.Missing)

cell_here : (row : List Value) (k : ℕ) (v : Value) (vs : List Value) (b : Bool) → k < length row → is_missing (value_at row k) ≡ b
    → first_there (value_at row k ∷ v ∷ vs) ≡ first_there (value_at (cond b (set row k v) row) k ∷ vs)
cell_here row k v vs true within m = missing_first (value_at row k) (v ∷ vs) m ∙ ap (λ w. first_there (w ∷ vs)) (sym (set_here row k v within))
cell_here row k v vs false within m = there_first (value_at row k) (v ∷ vs) vs m

cell_there : (row : List Value) (k at : ℕ) (v : Value) (b : Bool) → (at ≡ k → ⊥) → value_at row at ≡ value_at (cond b (set row k v) row) at
cell_there row k at v true apart = sym (set_there row k at v apart)
cell_there row k at v false apart = refl

filled_more : (row : List Value) (c : ℕ × Value) (cells : List (ℕ × Value)) (at : ℕ) → at < length row → filled row (c ∷ cells) at ≡ filled (with_cell row c) cells at
filled_more row c cells at within =
    let vs : List Value = values (here cells at) in
    elim (eqb_tells c.0 at) [
      | inl q ↦
          rw q.0
          (subst (λ k. first_there (value_at row k ∷ c.1 ∷ vs) ≡ first_there (value_at (with_cell row c) k ∷ vs)) q.1
          (cell_here row c.0 c.1 vs (is_missing (value_at row c.0)) (let same = q.1 in omega arith) refl))
      | inr q ↦ rw q.0 (ap (λ w. first_there (w ∷ vs)) (cell_there row c.0 at c.1 (is_missing (value_at row c.0)) (λ e. q.1 (sym e))))
    ]

cell_length : (row : List Value) (k : ℕ) (v : Value) (b : Bool) → length (cond b (set row k v) row) ≡ length row
cell_length row k v true = length-set row k v
cell_length row k v false = refl

range_same : (f g : ℕ → Value) (k n : ℕ) → ((at : ℕ) → k ≤ at → at < k + n → f at ≡ g at) → map f (range_with_len k n) ≡ map g (range_with_len k n)
range_same f g k zero each = refl
range_same f g k (suc n) each = ap₂ (λ x xs. x ∷ xs) (each k (omega arith) (omega arith)) (range_same f g (k + 1) n (λ at low up. each at (omega arith) (omega arith)))

fills : (cells : List (ℕ × Value)) (row : List Value) → map (filled row cells) (range_with_len 0 (length row)) ≡ with_cells cells row
fills [] row = range_same (filled row []) (value_at row) 0 (length row) (λ at low up. first_alone (value_at row at)) ∙ row_by_places row
fills (c ∷ cells) row =
    range_same (filled row (c ∷ cells)) (filled (with_cell row c) cells) 0 (length row) (λ at low up. filled_more row c cells at (omega arith))
    ∙ ap (λ n. map (filled (with_cell row c) cells) (range_with_len 0 n)) (sym (cell_length row c.0 c.1 (is_missing (value_at row c.0))))
    ∙ fills cells (with_cell row c)

replaced_valued : (schema : List Field) (cells : List (ℕ × Value)) (row : List Value) → IsTrue (list_all (fits_column schema) cells) → IsTrue (fits_row schema row) → map (val row) (replaced_columns schema cells) ≡ with_cells cells row
replaced_valued schema cells row h fits =
    let own = λ (at : ℕ) (within : at < length schema).
    ap (is_of_type (kind_at schema at)) (sym (value_column row at)) ∙ values_typed schema row (Col at) (kind_at schema at) fits (typed_column schema at within) in
    range_valued row (λ at. or_literals schema at (literals_for schema cells at)) (filled row cells) 0 (length schema)
    (λ at low up. or_valued schema row at (here cells at) (own at (omega arith)) (cells_typed schema cells at h))
    ∙ ap (λ n. map (filled row cells) (range_with_len 0 n)) (sym (fits_length schema row fits))
    ∙ fills cells row

pub replaced_rows : (schema : List Field) (cells : List (ℕ × Value)) (rows : List (List Value)) → IsTrue (list_all (fits_column schema) cells) → IsTrue (fit_rows schema rows) → projected (replaced_columns schema cells) rows ≡ map (with_cells cells) rows
replaced_rows schema cells rows h fit = map_same schema (λ row. map (val row) (replaced_columns schema cells)) (with_cells cells) (λ row fits. replaced_valued schema cells row h fits) rows fit
