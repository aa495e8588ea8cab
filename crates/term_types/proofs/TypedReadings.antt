-- What is read of a term is typed where what is read of its parts is.
use Rattle.std.proofs.Common.{ℕ, suc, zero, ◌<◌, ℤ, Bool, true, false, if◌then◌else◌, ◌&&◌, codes, bytes_eq, position, Option, Some, None, Result, Ok, Err, ◌≡◌, refl, ◌∙◌, List, [], ◌∷◌, map, length, slice_get, arith}
use Rattle.std.proofs.lemmas.List.Quantifiers.{position-Some}
use Rattle.scalar_value.specs.declared.value.Value.{Value}
use Rattle.scalar_value.specs.declared.value.Value.TheVariants as cell
use Rattle.scalar_value.specs.declared.value.ColType.{ColType}
use Rattle.scalar_value.specs.declared.value.ColType.TheVariants.{Int, Dec, Chr, Date, Lgl}
use Rattle.scalar_value.specs.Order.{is_of_type, is_day}
use Rattle.row_table.specs.declared.field.Field.{Field}
use Rattle.na_expr.specs.declared.expr.ExprFn.{ExprFn}
use Rattle.na_expr.specs.declared.expr.ExprFn.TheVariants as call
use Rattle.na_expr.specs.Operators.{negated}
use Rattle.na_expr.specs.Types.{column_type}
use Rattle.na_expr.proofs.TypedOperators as operator
use Rattle.token_scan.specs.declared.token.Reserved.{Reserved}
use Rattle.token_scan.specs.declared.token.Reserved.TheVariants as word
use Rattle.token_scan.specs.declared.token.Oper.{Oper}
use Rattle.token_scan.specs.declared.token.Oper.TheVariants as op
use Rattle.term_calls.specs.declared.fault.TermFault.{TermFault}
use Rattle.term_calls.specs.declared.names.Callee.{Callee}
use Rattle.term_calls.specs.declared.names.Callee.TheVariants.{Row, AsDate, Grouped, LeftOut, Unknown}
use Rattle.term_calls.specs.declared.piece.Piece.{Piece}
use Rattle.term_calls.specs.declared.piece.Piece.TheVariants.{Number}
use Rattle.term_types.specs.declared.cases.Cases.{Cases}
use Rattle.term_calls.specs.Faults.{and_then, stands_at}
use Rattle.term_calls.specs.Pieces.{text_of}
use Rattle.term_calls.specs.Names.{callee}
use Rattle.term_calls.specs.Calls.{of_one, cases, function_call, membership}
use Rattle.term_types.specs.Terms.{Reading, Argument, none_after, plain_reading, part, place_of, field_kind, column_at, word_piece, negative, signed, operator as operator_of, between_two, is_membership, is_tilde, behind_left, binary_value, both_sides, binary_reading, unnamed, plain_argument, plain_arguments, is_none, with_sides, with_case, with_cases, no_cases, case_call, is_case_when, day_literal, only_day, date_call, any_arguments, callee_value, call_reading}
use Rattle.term_types.proofs.TypedPieces.{Every, IfThere, IfGiven, every_more, every_map, then_given, every_given, stands_given, IsTyped, typed_column}
use Rattle.term_types.proofs.TypedCalls.{PartTyped, CaseTyped, one_typed, cases_typed, text_day_is, operated_typed, function_typed, member_typed}

-- all that is read of a term is typed
pub record IsRead (schema : List Field) (r : Reading) : Type 0 where
  pub value : IfGiven (IsTyped schema) r.value
  pub items : IfGiven (IfThere (Every (PartTyped schema))) r.items
  pub sides : IfGiven (IfThere (CaseTyped schema)) r.sides

abbrev pub ArgumentRead : List Field → Argument → Type 0
ArgumentRead schema a = IsRead schema a.value

none_given : {B : Type 0} (P : B → Type 0) (r : Result Piece TermFault) → IfGiven (IfThere P) (none_after r)
none_given P (Ok x) = tt
none_given P (Err f) = tt

pub plain_read : (schema : List Field) (at : ℕ) (r : Result Piece TermFault) → IfGiven (IsTyped schema) r → IsRead schema (plain_reading at r)
plain_read schema at r h = record { value = h; items = none_given (Every (PartTyped schema)) r; sides = none_given (CaseTyped schema) r }

part_read : (schema : List Field) (r : Reading) → IsRead schema r → IfGiven (PartTyped schema) (part r)
part_read schema r h = then_given (IsTyped schema) (PartTyped schema) r.value (λ p. Ok (r.at, p)) h.value (λ p q. q)

-- ---- names and literals

within : {A : Type 0} (test : A → Bool) (xs : List A) (i : ℕ) → position test xs ≡ Some i → i < length xs
within test [] i h = cc
within test (x ∷ xs) i h = (position-Some test (x ∷ xs) i x h).0

column_there : (schema : List Field) (i : ℕ) → i < length schema → column_type (slice_get schema i) ≡ Ok (field_kind (slice_get schema i))
column_there [] i h = absurd (omega arith)
column_there (f ∷ schema) zero h = refl
column_there (f ∷ schema) (suc i) h = column_there schema i (omega arith)

column_by : (schema : List Field) (at : ℕ) (place : Option ℕ) → ((i : ℕ) → place ≡ Some i → i < length schema) → IfGiven (IsTyped schema) (column_at schema at place)
unfolding column_at
column_by schema at None k = tt
column_by schema at (Some i) k = typed_column schema i ∙ column_there schema i (k i refl)

pub column_typed : (schema : List Field) (at : ℕ) (name : List ℕ) → IfGiven (IsTyped schema) (column_at schema at (place_of name schema))
column_typed schema at name = column_by schema at (place_of name schema) (λ i e. within (λ (f : Field). bytes_eq f.name name) schema i e)

pub word_typed : (schema : List Field) (w : Reserved) → IsTyped schema (word_piece w)
word_typed schema word.True = refl
word_typed schema word.False = refl
word_typed schema word.Na = tt
word_typed schema word.NaInteger = refl
word_typed schema word.NaReal = refl
word_typed schema word.NaCharacter = refl

-- ---- operators

negated_typed : (t : ColType) (v : Value) → is_of_type t v ≡ true → is_of_type t (negated v) ≡ true
negated_typed Int v h = operator.is_typed Int (negated v) (operator.negatives Int v (operator.typed_from Int v h))
negated_typed Dec v h = operator.is_typed Dec (negated v) (operator.negatives Dec v (operator.typed_from Dec v h))
negated_typed Chr (cell.Int z) h = cc
negated_typed Chr (cell.Dec m) h = cc
negated_typed Chr v h = refl
negated_typed Date (cell.Int z) h = cc
negated_typed Date (cell.Dec m) h = cc
negated_typed Date v h = refl
negated_typed Lgl (cell.Int z) h = cc
negated_typed Lgl (cell.Dec m) h = cc
negated_typed Lgl v h = refl

negative_typed : (schema : List Field) (at : ℕ) (p : Piece) → IsTyped schema p → IfGiven (IsTyped schema) (negative at p)
negative_typed schema at (Number v t) h = negated_typed t v h
negative_typed schema at p h = stands_given (IsTyped schema) at (of_one call.Neg p) (one_typed schema call.Neg p h)

signed_typed : (schema : List Field) (at : ℕ) (o : Oper) (p : Piece) → IsTyped schema p → IfGiven (IsTyped schema) (signed at o p)
unfolding signed
signed_typed schema at op.Sub p h = negative_typed schema at p h
signed_typed schema at op.Not p h = stands_given (IsTyped schema) at (of_one call.Not p) (one_typed schema call.Not p h)
signed_typed schema at o p h = tt

pub unary_read : (schema : List Field) (at : ℕ) (o : Oper) (r : Reading) → IsRead schema r → IsRead schema (plain_reading at (and_then r.value (signed at o)))
unary_read schema at o r h = plain_read schema at (and_then r.value (signed at o)) (then_given (IsTyped schema) (IsTyped schema) r.value (signed at o) h.value (λ p q. signed_typed schema at o p q))

two_typed : (schema : List Field) (at : ℕ) (f : Option ExprFn) (a b : ℕ × Piece) → PartTyped schema a → PartTyped schema b → IfGiven (IsTyped schema) (between_two at f a b)
two_typed schema at None a b h k = tt
two_typed schema at (Some f) a b h k = operated_typed schema at f a b h k

behind_by : (schema : List Field) (member : Bool) (at : ℕ) (o : Oper) (x : ℕ × Piece) (r : Reading) → PartTyped schema x → IsRead schema r → IfGiven (IsTyped schema) (if member then and_then r.items (membership at x) else and_then (part r) (between_two at (operator_of o) x))
behind_by schema true at o x r h k = then_given (IfThere (Every (PartTyped schema))) (IsTyped schema) r.items (membership at x) k.items (λ items p. member_typed schema at x items h p)
behind_by schema false at o x r h k = then_given (PartTyped schema) (IsTyped schema) (part r) (between_two at (operator_of o) x) (part_read schema r k) (λ y p. two_typed schema at (operator_of o) x y h p)

binary_typed : (schema : List Field) (at : ℕ) (o : Oper) (l r : Reading) → IsRead schema l → IsRead schema r → IfGiven (IsTyped schema) (binary_value at o l r)
binary_typed schema at o l r h k = then_given (PartTyped schema) (IsTyped schema) (part l) (λ x. behind_left at o x r) (part_read schema l h) (λ x p. behind_by schema (is_membership o) at o x r p k)

sides_typed : (schema : List Field) (l r : Reading) → IsRead schema l → IsRead schema r → IfGiven (IfThere (CaseTyped schema)) (both_sides l r)
sides_typed schema l r h k =
    then_given (IsTyped schema) (IfThere (CaseTyped schema)) l.value (λ c. and_then r.value (λ v. Ok (Some (c, v)))) h.value
    (λ c p. then_given (IsTyped schema) (IfThere (CaseTyped schema)) r.value (λ v. Ok (Some (c, v))) k.value (λ v q. (p, q)))

sides_by : (schema : List Field) (tilde : Bool) (l r : Reading) (value : Result Piece TermFault) → IsRead schema l → IsRead schema r → IfGiven (IfThere (CaseTyped schema)) (if tilde then both_sides l r else none_after value)
sides_by schema true l r value h k = sides_typed schema l r h k
sides_by schema false l r value h k = none_given (CaseTyped schema) value

pub binary_read : (schema : List Field) (at : ℕ) (o : Oper) (l r : Reading) → IsRead schema l → IsRead schema r → IsRead schema (binary_reading at o l r)
binary_read schema at o l r h k =
    record {
      value = binary_typed schema at o l r h k;
      items = none_given (Every (PartTyped schema)) (binary_value at o l r);
      sides = sides_by schema (is_tilde o) l r (binary_value at o l r) h k;
    }

-- ---- arguments

plain_by : (schema : List Field) (name : Option (List ℕ)) (at : ℕ) (r : Reading) → IsRead schema r → IfGiven (PartTyped schema) (unnamed name at (part r))
plain_by schema None at r h = part_read schema r h
plain_by schema (Some name) at r h = tt

plain_typed : (schema : List Field) (args : List Argument) → Every (ArgumentRead schema) args → IfGiven (Every (PartTyped schema)) (plain_arguments args)
plain_typed schema args h =
    every_given (PartTyped schema) (map plain_argument args)
    (every_map (ArgumentRead schema) (IfGiven (PartTyped schema)) plain_argument (λ a p. plain_by schema a.name a.at a.value p) args h)

-- the arguments of a `case_when` so far
record CasesTyped (schema : List Field) (had : Cases) : Type 0 where
  conditions : Every (CaseTyped schema) had.conditions
  default : IfThere (IsTyped schema) had.default

with_sides_typed : (schema : List Field) (had : Cases) (sides : Option (Piece × Piece)) → CasesTyped schema had → IfThere (CaseTyped schema) sides → CasesTyped schema (with_sides had sides)
with_sides_typed schema had None h k = record { conditions = h.conditions; default = h.default }
with_sides_typed schema had (Some c) h k = record { conditions = every_more (CaseTyped schema) had.conditions c h.conditions k; default = h.default }

named_by : (schema : List Field) (had : Cases) (default : Bool) (f : TermFault) (value : Result Piece TermFault) → CasesTyped schema had → IfGiven (IsTyped schema) value → IfGiven (CasesTyped schema) (if default then and_then value (λ d. Ok (record had { default = Some d })) else Err f)
named_by schema had true f value h k =
    then_given (IsTyped schema) (CasesTyped schema) value (λ d. Ok (record had { default = Some d })) k (λ d p. record { conditions = h.conditions; default = p })
named_by schema had false f value h k = tt

case_typed : (schema : List Field) (had : Cases) (name : Option (List ℕ)) (at : ℕ) (r : Reading) → CasesTyped schema had → IsRead schema r → IfGiven (CasesTyped schema) (with_case had name at r)
case_typed schema had None at r h k = then_given (IfThere (CaseTyped schema)) (CasesTyped schema) r.sides (λ s. Ok (with_sides had s)) k.sides (λ s p. with_sides_typed schema had s h p)
case_typed schema had (Some name) at r h k = named_by schema had (bytes_eq name (codes ".default") && is_none had.default) _ r.value h k.value

all_cases_typed : (schema : List Field) (had : Cases) (args : List Argument) → CasesTyped schema had → Every (ArgumentRead schema) args → IfGiven (CasesTyped schema) (with_cases had args)
all_cases_typed schema had [] h k = h
all_cases_typed schema had (a ∷ args) h k =
    then_given (CasesTyped schema) (CasesTyped schema) (with_case had a.name a.at a.value) (λ now. with_cases now args) (case_typed schema had a.name a.at a.value h k.0) (λ now p. all_cases_typed schema now args p k.1)

case_call_by : (schema : List Field) (stray : Bool) (at : ℕ) (f : TermFault) (had : Cases) → CasesTyped schema had → IfGiven (IsTyped schema) (if stray then Err f else stands_at at (cases had.conditions had.default))
case_call_by schema true at f had h = tt
case_call_by schema false at f had h = stands_given (IsTyped schema) at (cases had.conditions had.default) (cases_typed schema had.conditions had.default h.conditions h.default)

case_call_typed : (schema : List Field) (at : ℕ) (had : Cases) → CasesTyped schema had → IfGiven (IsTyped schema) (case_call at had)
unfolding case_call
case_call_typed schema at had h = case_call_by schema had.stray at _ had h

-- ---- calls

row_by : (schema : List Field) (case : Bool) (at : ℕ) (f : ExprFn) (args : List Argument) → Every (ArgumentRead schema) args → IfGiven (IsTyped schema) (if case then and_then (with_cases no_cases args) (case_call at) else and_then (plain_arguments args) (function_call at f))
row_by schema true at f args h =
    then_given (CasesTyped schema) (IsTyped schema) (with_cases no_cases args) (case_call at) (all_cases_typed schema no_cases args (record { conditions = tt; default = tt }) h) (λ had p. case_call_typed schema at had p)
row_by schema false at f args h =
    then_given (Every (PartTyped schema)) (IsTyped schema) (plain_arguments args) (function_call at f) (plain_typed schema args h) (λ parts p. function_typed schema at f parts p)

day_typed : (schema : List Field) (at : ℕ) (day : Option (Option ℤ)) → ((d : ℤ) → day ≡ Some (Some d) → is_day d ≡ true) → IfGiven (IsTyped schema) (day_literal at day)
unfolding day_literal
day_typed schema at None k = tt
day_typed schema at (Some None) k = tt
day_typed schema at (Some (Some d)) k = k d refl

only_day_is : (parts : List (ℕ × Piece)) (d : ℤ) → only_day parts ≡ Some (Some d) → is_day d ≡ true
only_day_is [] d h = cc
only_day_is (a ∷ []) d h = text_day_is (text_of a.1) d h
only_day_is (a ∷ b ∷ parts) d h = cc

-- a refused call
refused : (schema : List Field) (r : Result (List Piece) TermFault) (f : TermFault) → IfGiven (IsTyped schema) (and_then {B = Piece} r (λ ps. Err f))
refused schema (Ok ps) f = tt
refused schema (Err e) f = tt

callee_typed : (schema : List Field) (at : ℕ) (args : List Argument) (c : Callee) → Every (ArgumentRead schema) args → IfGiven (IsTyped schema) (callee_value at args c)
callee_typed schema at args (Row f) h = row_by schema (is_case_when f) at f args h
callee_typed schema at args AsDate h =
    then_given (Every (PartTyped schema)) (IsTyped schema) (plain_arguments args) (date_call at) (plain_typed schema args h) (λ parts p. day_typed schema at (only_day parts) (only_day_is parts))
callee_typed schema at args Grouped h = tt
callee_typed schema at args LeftOut h = refused schema (any_arguments args) _
callee_typed schema at args Unknown h = refused schema (any_arguments args) _

items_by : (schema : List Field) (list : Bool) (args : List Argument) (value : Result Piece TermFault) → Every (ArgumentRead schema) args → IfGiven (IfThere (Every (PartTyped schema))) (if list then and_then (plain_arguments args) (λ parts. Ok (Some parts)) else none_after value)
items_by schema true args value h = then_given (Every (PartTyped schema)) (IfThere (Every (PartTyped schema))) (plain_arguments args) (λ parts. Ok (Some parts)) (plain_typed schema args h) (λ parts p. p)
items_by schema false args value h = none_given (Every (PartTyped schema)) value

pub call_read : (schema : List Field) (name : List ℕ) (at : ℕ) (args : List Argument) → Every (ArgumentRead schema) args → IsRead schema (call_reading name at args)
call_read schema name at args h =
    record {
      value = callee_typed schema at args (callee name) h;
      items = items_by schema (bytes_eq name (codes "c")) args (callee_value at args (callee name)) h;
      sides = none_given (CaseTyped schema) (callee_value at args (callee name));
    }
