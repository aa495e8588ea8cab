-- The types of projected columns, and the rows that fit them.
use Rattle.std.proofs.Common.{◌≡◌, ◌⊎◌, inl, inr, drop, ◌++◌, ◌+◌, ◌<◌, length, take, get_or, ℕ, zero, suc, Bool, true, false, ◌&&◌, List, [], ◌∷◌, map, slice_get, Result, Ok, Err, refl, sym, ◌∙◌, ap, ap₂, subst, IsTrue}
use Rattle.std.proofs.lemmas.List.{take_more, map-append}
use Rattle.std.proofs.Math.Path.{fun_ext}
use Rattle.scalar_value.specs.declared.value.Value.{Value}
use Rattle.scalar_value.specs.declared.value.ColType.{ColType}
use Rattle.scalar_value.specs.declared.value.ColType.TheVariants as type
use Rattle.scalar_value.specs.Order.{is_of_type}
use Rattle.row_table.specs.declared.field.Field.{Field}
use Rattle.row_table.specs.Tables.{fits_row}
use Rattle.na_expr.specs.declared.expr.Expr.{Expr}
use Rattle.na_expr.specs.declared.expr.Expr.TheOpen.{Expr-F, Col, Lit, Call}
use Rattle.na_expr.specs.declared.expr.Expr.TheFolds.{fold-Expr}
use Rattle.na_expr.specs.declared.expr.TypeFault.{TypeFault}
use Rattle.na_expr.specs.Evaluation.{val}
use Rattle.na_expr.specs.Types.{column_type, step_type, typed}
use Rattle.na_expr.proofs.TypedValues.{values_typed}
use Rattle.column_batch.specs.Batches.{kinds_of, fits_kinds, fit_kinds}
use Rattle.plan_nodes.specs.Operators.{first_of}
use Rattle.plan_nodes.specs.Kinds.{same_kind, same_kinds, unnamed, is_ok, ok_or_lgl, are_typed, types_of, projected, project_meaning}

left-true : (a b : Bool) → (a && b) ≡ true → a ≡ true
left-true true b h = refl
left-true false b h = h

right-true : (a b : Bool) → (a && b) ≡ true → b ≡ true
right-true true b h = h
right-true false b h = absurd (cc)

pub both-true : (a b : Bool) → a ≡ true → b ≡ true → (a && b) ≡ true
both-true a b p q = rw p q

kind-same : (s t : ColType) → same_kind s t ≡ true → s ≡ t
kind-same type.Int type.Int e = refl
kind-same type.Dec type.Dec e = refl
kind-same type.Chr type.Chr e = refl
kind-same type.Date type.Date e = refl
kind-same type.Lgl type.Lgl e = refl
kind-same s t e = absurd (cc)

kinds-same : (ss ts : List ColType) → IsTrue (same_kinds ss ts) → ss ≡ ts
kinds-same [] [] e = refl
kinds-same [] (t ∷ ts) e = absurd (cc)
kinds-same (s ∷ ss) [] e = absurd (cc)
kinds-same (s ∷ ss) (t ∷ ts) e =
    ap₂ (λ x xs. x ∷ xs) (kind-same s t (left-true (same_kind s t) (same_kinds ss ts) e)) (kinds-same ss ts (right-true (same_kind s t) (same_kinds ss ts) e))

-- the type of an expression follows from the types of the columns, whatever their names are
column-unnamed : (schema : List Field) (at : ℕ) → column_type (slice_get schema at) ≡ column_type (slice_get (unnamed (kinds_of schema)) at)
column-unnamed [] at = refl
column-unnamed (f ∷ fs) zero = refl
column-unnamed (f ∷ fs) (suc at) = column-unnamed fs at

step-unnamed : (schema : List Field) (x : Expr-F (Result ColType TypeFault)) → step_type schema x ≡ step_type (unnamed (kinds_of schema)) x
step-unnamed schema (Col at) = column-unnamed schema at
step-unnamed schema (Lit v t) = refl
step-unnamed schema (Call f parts) = refl

pub typed-unnamed : (schema : List Field) (e : Expr) → typed schema e ≡ typed (unnamed (kinds_of schema)) e
typed-unnamed schema e = ap (λ step. fold-Expr (Result ColType TypeFault) step e) (fun_ext (step-unnamed schema))

pub kinds-made : (schema : List Field) (es : List Expr) → map (λ e. ok_or_lgl (typed schema e)) es ≡ types_of (kinds_of schema) es
kinds-made schema [] = refl
kinds-made schema (e ∷ es) = ap₂ (λ x xs. x ∷ xs) (ap ok_or_lgl (typed-unnamed schema e)) (kinds-made schema es)

fits-unnamed : (kinds : List ColType) (row : List Value) → fits_row (unnamed kinds) row ≡ fits_kinds kinds row
fits-unnamed [] [] = refl
fits-unnamed [] (v ∷ vs) = refl
fits-unnamed (k ∷ ks) [] = refl
fits-unnamed (k ∷ ks) (v ∷ vs) = ap (λ b. is_of_type k v && b) (fits-unnamed ks vs)

ok-typed : (r : Result ColType TypeFault) → IsTrue (is_ok r) → r ≡ Ok (ok_or_lgl r)
ok-typed (Ok t) h = refl
ok-typed (Err f) h = absurd (cc)

-- a row of values fits the types of the expressions
fits-made : (kinds : List ColType) (row : List Value) (es : List Expr) → IsTrue (fits_kinds kinds row) → IsTrue (are_typed kinds es) → IsTrue (fits_kinds (types_of kinds es) (map (val row) es))
fits-made kinds row [] fit h = refl
fits-made kinds row (e ∷ es) fit h =
    let t = ok_or_lgl (typed (unnamed kinds) e) in
    both-true (is_of_type t (val row e)) (fits_kinds (types_of kinds es) (map (val row) es))
    (values_typed (unnamed kinds) row e t (fits-unnamed kinds row ∙ fit) (ok-typed (typed (unnamed kinds) e) (left-true (is_ok (typed (unnamed kinds) e)) (are_typed kinds es) h)))
    (fits-made kinds row es fit (right-true (is_ok (typed (unnamed kinds) e)) (are_typed kinds es) h))

fit-made : (kinds : List ColType) (es : List Expr) (rows : List (List Value)) → IsTrue (are_typed kinds es) → IsTrue (fit_kinds kinds rows) → IsTrue (fit_kinds (types_of kinds es) (projected es rows))
fit-made kinds es [] h fit = refl
fit-made kinds es (row ∷ rows) h fit =
    both-true (fits_kinds (types_of kinds es) (map (val row) es)) (fit_kinds (types_of kinds es) (projected es rows))
    (fits-made kinds row es (left-true (fits_kinds kinds row) (fit_kinds kinds rows) fit) h)
    (fit-made kinds es rows h (right-true (fits_kinds kinds row) (fit_kinds kinds rows) fit))

-- what a project gives of a batch of its input fits the types that it gives
pub projected-fit : (schema : List Field) (es : List Expr) (inputs : List (List ColType)) (kinds : List ColType) (rows : List (List Value))
    → IsTrue ((project_meaning es (kinds_of schema)).fits inputs) → kinds ≡ first_of inputs → IsTrue (fit_kinds kinds rows)
    → IsTrue (fit_kinds (map (λ e. ok_or_lgl (typed schema e)) es) (projected es rows))
projected-fit schema es inputs kinds rows fits same fit =
    let given : kinds_of schema ≡ first_of inputs = kinds-same (kinds_of schema) (first_of inputs) (left-true (same_kinds (kinds_of schema) (first_of inputs)) (are_typed (kinds_of schema) es) fits) in
    let h = right-true (same_kinds (kinds_of schema) (first_of inputs)) (are_typed (kinds_of schema) es) fits in
    ap (λ ks. fit_kinds ks (projected es rows)) (kinds-made schema es)
    ∙ fit-made (kinds_of schema) es rows h (subst (λ ks. IsTrue (fit_kinds ks rows)) (same ∙ sym given) fit)

-- what is not cut comes whole
pub whole : {A : Type 0} (xs : List A) (from : ℕ) → (false ≡ true) ⊎ (from ≡ 0) → xs ≡ drop from xs
whole xs from (inl e) = absurd (cc)
whole xs from (inr e) = ap (λ n. drop n xs) (sym e)

-- one row more
pub one-more : (es : List Expr) (rows : List (List Value)) (i : ℕ) (row : List Value) → i < length rows → row ≡ get_or rows i row
    → projected es (take (i + 1) rows) ≡ projected es (take i rows) ++ map (val row) es ∷ []
one-more es rows i row h is =
    ap (projected es) (take_more rows i row h ∙ ap (λ r. take i rows ++ r ∷ []) (sym is)) ∙ map-append (λ r. map (val r) es) (take i rows) (row ∷ [])
