-- Parts whose expressions have the types that are told of them.
use Rattle.std.proofs.Common.{ℕ, Bool, true, if◌then◌else◌, Option, Some, None, Result, Ok, Err, ◌≡◌, refl, sym, ap, ◌∙◌, List, [], ◌∷◌, ◌++◌, map}
use Rattle.scalar_value.specs.declared.value.Value.{Value}
use Rattle.scalar_value.specs.declared.value.Value.TheVariants as cell
use Rattle.scalar_value.specs.declared.value.ColType.{ColType}
use Rattle.scalar_value.specs.declared.value.ColType.TheVariants.{Int, Dec, Chr, Date, Lgl}
use Rattle.scalar_value.specs.Order.{is_of_type}
use Rattle.row_table.specs.declared.field.Field.{Field}
use Rattle.na_expr.specs.declared.expr.TypeFault.{TypeFault}
use Rattle.na_expr.specs.declared.expr.TypeFault.TheVariants.{WrongType}
use Rattle.na_expr.specs.declared.expr.ExprFn.{ExprFn}
use Rattle.na_expr.specs.declared.expr.Expr.{Expr}
use Rattle.na_expr.specs.declared.expr.Expr.TheOpen as layer
use Rattle.na_expr.specs.declared.expr.Expr.TheVariants as expr
use Rattle.na_expr.specs.declared.expr.Expr.TheVariants.{rolls-Col, rolls-Lit, rolls-Call}
use Rattle.na_expr.specs.declared.expr.Expr.TheFolds.{fold-roll-Expr}
use Rattle.na_expr.specs.Types.{typed, step_type, takes, call_type, all_of, with_front, column_type}
use Rattle.std.specs.Prelude.{slice_get}
use Rattle.term_calls.specs.declared.piece.Piece.{Piece}
use Rattle.term_calls.specs.declared.piece.Piece.TheVariants.{Na, Free, Number, Literal, Typed}
use Rattle.term_calls.specs.Faults.{and_then, stands_at}
use Rattle.term_calls.specs.Faults.{all_of as all_given}
use Rattle.term_calls.specs.Pieces.{type_as, expr_as}
use Rattle.term_calls.specs.Calls.{call_of, typed_piece}

-- ---- what is said of each of a list, of one that may be there, and of one that is given where there is no fault

abbrev pub Every : {A : Type 0} → (A → Type 0) → List A → Type 0
Every P [] = Unit {0}
Every P (x ∷ xs) = P x × Every P xs

abbrev pub IfThere : {A : Type 0} → (A → Type 0) → Option A → Type 0
IfThere P None = Unit {0}
IfThere P (Some x) = P x

abbrev pub IfGiven : {A F : Type 0} → (A → Type 0) → Result A F → Type 0
IfGiven P (Ok x) = P x
IfGiven P (Err f) = Unit {0}

pub every_more : {A : Type 0} (P : A → Type 0) (xs : List A) (y : A) → Every P xs → P y → Every P (xs ++ y ∷ [])
every_more P [] y h k = (k, tt)
every_more P (x ∷ xs) y h k = (h.0, every_more P xs y h.1 k)

pub every_map : {A B : Type 0} (P : A → Type 0) (Q : B → Type 0) (f : A → B) → ((x : A) → P x → Q (f x)) → (xs : List A) → Every P xs → Every Q (map f xs)
every_map P Q f k [] h = tt
every_map P Q f k (x ∷ xs) h = (k x h.0, every_map P Q f k xs h.1)

pub then_given : {A B F : Type 0} (P : A → Type 0) (Q : B → Type 0) (r : Result A F) (step : A → Result B F) → IfGiven P r → ((x : A) → P x → IfGiven Q (step x)) → IfGiven Q (and_then r step)
then_given P Q (Ok x) step h k = k x h
then_given P Q (Err f) step h k = tt

pub every_given : {A F : Type 0} (P : A → Type 0) (rs : List (Result A F)) → Every (IfGiven P) rs → IfGiven (Every P) (all_given rs)
every_given P [] h = tt
every_given P (r ∷ rs) h =
    then_given P (Every P) r (λ x. and_then (all_given rs) (λ xs. Ok (x ∷ xs))) h.0
    (λ x p. then_given (Every P) (Every P) (all_given rs) (λ xs. Ok (x ∷ xs)) (every_given P rs h.1) (λ xs q. (p, q)))

pub stands_given : {A : Type 0} (P : A → Type 0) (at : ℕ) (r : Result A TypeFault) → IfGiven P r → IfGiven P (stands_at at r)
stands_given P at (Ok x) h = h
stands_given P at (Err f) h = tt

-- ---- the types of expressions

pub typed_column : (schema : List Field) (i : ℕ) → typed schema (expr.Col i) ≡ column_type (slice_get schema i)
typed_column schema i = ap (typed schema) (sym (rolls-Col i)) ∙ fold-roll-Expr (Result ColType TypeFault) (step_type schema) (layer.Col i)

typed_literal : (schema : List Field) (v : Value) (t : ColType) → is_of_type t v ≡ true → typed schema (expr.Lit v t) ≡ Ok t
typed_literal schema v t h =
    ap (typed schema) (sym (rolls-Lit v t)) ∙ (fold-roll-Expr (Result ColType TypeFault) (step_type schema) (layer.Lit v t) ∙ ap (λ (b : Bool). if b then Ok t else Err WrongType) h)

typed_call : (schema : List Field) (f : ExprFn) (es : List Expr) → typed schema (expr.Call f es) ≡ call_type (takes f) (all_of (map (typed schema) es))
typed_call schema f es = ap (typed schema) (sym (rolls-Call f es)) ∙ fold-roll-Expr (Result ColType TypeFault) (step_type schema) (layer.Call f es)

-- expressions of these types, one for one
abbrev pub HaveTypes : List Field → List Expr → List ColType → Type 0
HaveTypes schema [] [] = Unit {0}
HaveTypes schema [] (t ∷ ts) = ⊥
HaveTypes schema (e ∷ es) [] = ⊥
HaveTypes schema (e ∷ es) (t ∷ ts) = (typed schema e ≡ Ok t) × HaveTypes schema es ts

all_types : (schema : List Field) (es : List Expr) (ts : List ColType) → HaveTypes schema es ts → all_of (map (typed schema) es) ≡ Ok ts
all_types schema [] [] h = refl
all_types schema [] (t ∷ ts) h = absurd h
all_types schema (e ∷ es) [] h = absurd h
all_types schema (e ∷ es) (t ∷ ts) h = ap (λ r. all_of (r ∷ map (typed schema) es)) h.0 ∙ ap (with_front t) (all_types schema es ts h.1)

-- ---- parts

-- a part is of the type that is told of it: a literal's value is of its type, and an expression has its type over the columns
abbrev pub IsTyped : List Field → Piece → Type 0
IsTyped schema Na = Unit {0}
IsTyped schema Free = Unit {0}
IsTyped schema (Number v t) = is_of_type t v ≡ true
IsTyped schema (Literal v t) = is_of_type t v ≡ true
IsTyped schema (Typed e t) = typed schema e ≡ Ok t

missing_of : (t : ColType) → is_of_type t cell.Missing ≡ true
missing_of Int = refl
missing_of Dec = refl
missing_of Chr = refl
missing_of Date = refl
missing_of Lgl = refl

-- the expression of a part has the part's type, whichever is needed of a free one
pub typed_as : (schema : List Field) (t : ColType) (p : Piece) → IsTyped schema p → typed schema (expr_as t p) ≡ Ok (type_as t p)
typed_as schema t Na h = typed_literal schema cell.Missing t (missing_of t)
typed_as schema t Free h = typed_literal schema cell.Missing t (missing_of t)
typed_as schema t (Number v u) h = typed_literal schema v u h
typed_as schema t (Literal v u) h = typed_literal schema v u h
typed_as schema t (Typed e u) h = h

pub all_typed_as : (schema : List Field) (t : ColType) (ps : List Piece) → Every (IsTyped schema) ps → HaveTypes schema (map (expr_as t) ps) (map (type_as t) ps)
all_typed_as schema t [] h = tt
all_typed_as schema t (p ∷ ps) h = (typed_as schema t p h.0, all_typed_as schema t ps h.1)

piece_typed : (schema : List Field) (f : ExprFn) (es : List Expr) (r : Result ColType TypeFault) → typed schema (expr.Call f es) ≡ r → IfGiven (IsTyped schema) (typed_piece f es r)
piece_typed schema f es (Ok t) h = h
piece_typed schema f es (Err e) h = tt

-- a call of a function over expressions of these types
pub call_typed : (schema : List Field) (f : ExprFn) (es : List Expr) (ts : List ColType) → HaveTypes schema es ts → IfGiven (IsTyped schema) (call_of f es ts)
unfolding call_of
call_typed schema f es ts h = piece_typed schema f es (takes f ts) (typed_call schema f es ∙ ap (call_type (takes f)) (all_types schema es ts h))
