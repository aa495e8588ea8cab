-- A checked `drop_na` and a checked `replace_na` suit their shapes.
use Rattle.std.proofs.Common.{◌≡◌, ℕ, true, Ok, List, map, IsTrue, refl}
use Rattle.std.specs.List.{list_all}
use Rattle.std.proofs.lemmas.Bool.{and_from}
use Rattle.scalar_value.specs.declared.value.Value.{Value}
use Rattle.scalar_value.specs.declared.value.Value.TheVariants as cell
use Rattle.scalar_value.specs.declared.value.ColType.{ColType}
use Rattle.scalar_value.specs.declared.value.ColType.TheVariants.{Int, Dec, Chr, Date, Lgl}
use Rattle.scalar_value.specs.Order.{is_of_type}
use Rattle.row_table.specs.declared.field.Field.{Field}
use Rattle.na_expr.specs.Operators.{carried}
use Rattle.na_expr.proofs.TypedOperators.{missing, typed_from, is_typed, widens, widened}
use Rattle.syntax_tree.specs.declared.tree.Term.{out-Term}
use Rattle.syntax_tree.specs.declared.tree.Arg.{Arg}
use Rattle.term_calls.specs.declared.piece.Piece.{Piece}
use Rattle.term_calls.specs.declared.piece.Piece.TheVariants.{Na, Free, Number, Literal, Typed}
use Rattle.term_calls.specs.Faults.{and_then, all_of}
use Rattle.term_types.specs.Terms.{piece, place_of}
use Rattle.term_types.proofs.TypedPieces.{IfGiven, then_given, IsTyped}
use Rattle.term_types.proofs.TypedTerms.{terms_hold}
use Rattle.verb_forms.specs.declared.verb.Verb.TheVariants.{DropNa, ReplaceNa}
use Rattle.verb_forms.specs.Columns.{kind_at}
use Rattle.verb_forms.specs.Shapes.{ShapeValue, IsShape}
use Rattle.verb_forms.specs.Suits.{is_place, are_places, fits_column}
use Rattle.verb_arguments.specs.Arguments.{name_of, place_of_arg, value_of}
use Rattle.verb_types.specs.Steps.{column_or_unknown, text_or_none, columns_of, or_all, drop_na_of, takes_literal, value_for, replacement, replaced_column, listed, replace_na_of}
use Rattle.verb_types.proofs.Places.{or_all-places}
use Rattle.verb_types.proofs.Promises.{Promised, given_if, all_given, named-place, columns_of-places}

-- ---- drop_na

pub drop_na_promised : (x : ShapeValue) (args : List Arg) → IsShape x → IfGiven (Promised x) (drop_na_of x args)
drop_na_promised x args is =
    then_given (λ columns. IsTrue (are_places x.schema columns)) (Promised x) (columns_of x.schema (map value_of args)) (λ columns. Ok (DropNa (or_all x.schema columns)))
    (columns_of-places x.schema (map value_of args))
    (λ columns p. record { form = or_all-places x.schema columns p; grouped = λ d. is.grouped })

-- ---- replace_na

takes_widens : (k t : ColType) → takes_literal k t ≡ true → widens t k ≡ true
unfolding widens
takes_widens Dec Dec h = refl
takes_widens Dec Int h = refl
takes_widens Int Int h = refl
takes_widens Chr Chr h = refl
takes_widens Date Date h = refl
takes_widens Lgl Lgl h = refl
takes_widens k t h = cc

value-fits : (at : ℕ) (k t : ColType) (v : Value) → is_of_type t v ≡ true → IfGiven (λ w. is_of_type k w ≡ true) (value_for at k v t)
value-fits at k t v h =
    given_if (λ w. is_of_type k w ≡ true) (takes_literal k t) (Ok (carried k v)) _
    (λ e. is_typed k (carried k v) (widened t k v (takes_widens k t e) (typed_from t v h))) (λ e. tt)

replacement-fits : (schema : List Field) (at : ℕ) (k : ColType) (p : Piece) → IsTyped schema p → IfGiven (λ w. is_of_type k w ≡ true) (replacement at k p)
replacement-fits schema at k Na h = is_typed k cell.Missing (missing k)
replacement-fits schema at k Free h = is_typed k cell.Missing (missing k)
replacement-fits schema at k (Number v t) h = value-fits at k t v h
replacement-fits schema at k (Literal v t) h = value-fits at k t v h
replacement-fits schema at k (Typed e t) h = tt

replaced-fits : (schema : List Field) (a : Arg) → IfGiven (λ c. IsTrue (fits_column schema c)) (replaced_column schema a)
replaced-fits schema a =
    let Fits : ℕ × Value → Type 0 = λ c. IsTrue (fits_column schema c) in
    let literal : ℕ = (out-Term (value_of a)).at in
    then_given (λ p. IsTrue (is_place schema p)) Fits (column_or_unknown (place_of_arg a) (place_of (text_or_none (name_of a)) schema)) _ (named-place schema (place_of_arg a) (text_or_none (name_of a)))
    (λ p within. then_given (IsTyped schema) Fits (piece schema (value_of a)) (λ read. and_then (replacement literal (kind_at schema p) read) (λ v. Ok (p, v))) (terms_hold schema (value_of a)).value
    (λ read typed. then_given (λ w. is_of_type (kind_at schema p) w ≡ true) Fits (replacement literal (kind_at schema p) read) (λ v. Ok (p, v)) (replacement-fits schema literal (kind_at schema p) read typed)
    (λ v fits. and_from (is_place schema p) (is_of_type (kind_at schema p) v) within fits)))

pub replace_na_promised : (x : ShapeValue) (args : List Arg) → IsShape x → IfGiven (Promised x) (replace_na_of x args)
replace_na_promised x args is =
    then_given (λ cells. IsTrue (list_all (fits_column x.schema) cells)) (Promised x) (all_of (map (replaced_column x.schema) (listed args))) (λ cells. Ok (ReplaceNa cells))
    (all_given (fits_column x.schema) (replaced_column x.schema) (replaced-fits x.schema) (listed args))
    (λ cells h. record { form = h; grouped = λ d. is.grouped })
