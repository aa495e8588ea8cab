-- Projects of typed expressions stand behind the columns that they are made for.
use Rattle.std.proofs.Common.{◌≡◌, ℕ, zero, suc, ◌+◌, ◌<◌, ◌≤◌, Bool, true, ◌&&◌, Option, Some, None, List, [], ◌∷◌, ◌++◌, map, set, Result, Ok, Err, refl, sym, ◌∙◌, ap, ap₂, subst, arith}
use Rattle.std.specs.List.{range_with_len}
use Rattle.scalar_value.specs.declared.value.ColType.{ColType}
use Rattle.scalar_value.specs.declared.value.ColType.TheVariants as type
use Rattle.row_table.specs.declared.field.Field.{Field}
use Rattle.na_expr.specs.declared.expr.TypeFault.{TypeFault}
use Rattle.na_expr.specs.declared.expr.Expr.{Expr}
use Rattle.na_expr.specs.Types.{typed, all_of, with_front}
use Rattle.column_batch.specs.Batches.{kinds_of}
use Rattle.plan_nodes.specs.declared.node.NodeKind.TheVariants.{Filter, Project}
use Rattle.plan_nodes.specs.Kinds.{same_kind, same_kinds, unnamed, is_ok, ok_or_lgl, is_condition, are_typed, types_of}
use Rattle.chain_plans.specs.Chains.{IsStep}
use Rattle.verb_forms.specs.Columns.{put}
use Rattle.plan_compile.specs.Steps.{all_true, filter_step}
use Rattle.plan_compile.proofs.Pieces.{typed_unnamed}
use Rattle.plan_compile.proofs.Conditions.{AreTruths, all_typed}

pub both : (a b : Bool) → a ≡ true → b ≡ true → (a && b) ≡ true
both a b p q = rw p q

kind_itself : (t : ColType) → same_kind t t ≡ true
kind_itself type.Int = refl
kind_itself type.Dec = refl
kind_itself type.Chr = refl
kind_itself type.Date = refl
kind_itself type.Lgl = refl

kinds_themselves : (ts : List ColType) → same_kinds ts ts ≡ true
kinds_themselves [] = refl
kinds_themselves (t ∷ ts) = both (same_kind t t) (same_kinds ts ts) (kind_itself t) (kinds_themselves ts)

-- ---- filters

pub filter_stands : (schema : List Field) (es : List Expr) → AreTruths schema es → IsStep schema (filter_step schema es)
filter_stands schema es h =
    record {
      streams = refl;
      fits = ap is_condition (sym (typed_unnamed schema (all_true es)) ∙ all_typed schema es h);
      columns = refl;
    }

-- ---- expressions of these types, one for one

abbrev pub HaveTypes : List Field → List Expr → List ColType → Type 0
HaveTypes schema [] [] = Unit {0}
HaveTypes schema [] (t ∷ ts) = ⊥
HaveTypes schema (e ∷ es) [] = ⊥
HaveTypes schema (e ∷ es) (t ∷ ts) = (typed schema e ≡ Ok t) × HaveTypes schema es ts

pub all_types : (schema : List Field) (es : List Expr) (ts : List ColType) → HaveTypes schema es ts → all_of (map (typed schema) es) ≡ Ok ts
all_types schema [] [] h = refl
all_types schema [] (t ∷ ts) h = absurd h
all_types schema (e ∷ es) [] h = absurd h
all_types schema (e ∷ es) (t ∷ ts) h = ap (λ r. all_of (r ∷ map (typed schema) es)) h.0 ∙ ap (with_front t) (all_types schema es ts h.1)

have_typed : (schema : List Field) (es : List Expr) (ts : List ColType) → HaveTypes schema es ts → are_typed (kinds_of schema) es ≡ true
have_typed schema [] [] h = refl
have_typed schema [] (t ∷ ts) h = absurd h
have_typed schema (e ∷ es) [] h = absurd h
have_typed schema (e ∷ es) (t ∷ ts) h =
    both (is_ok (typed (unnamed (kinds_of schema)) e)) (are_typed (kinds_of schema) es) (ap is_ok (sym (typed_unnamed schema e) ∙ h.0)) (have_typed schema es ts h.1)

have_types : (schema : List Field) (es : List Expr) (ts : List ColType) → HaveTypes schema es ts → ts ≡ types_of (kinds_of schema) es
have_types schema [] [] h = refl
have_types schema [] (t ∷ ts) h = absurd h
have_types schema (e ∷ es) [] h = absurd h
have_types schema (e ∷ es) (t ∷ ts) h = ap₂ (λ x xs. x ∷ xs) (ap ok_or_lgl (sym h.0 ∙ typed_unnamed schema e)) (have_types schema es ts h.1)

pub project_stands : (schema columns : List Field) (es : List Expr) → HaveTypes schema es (kinds_of columns) → IsStep schema (record { kind = Project es; schema = columns })
project_stands schema columns es h =
    record {
      streams = refl;
      fits = both (same_kinds (kinds_of schema) (kinds_of schema)) (are_typed (kinds_of schema) es) (kinds_themselves (kinds_of schema)) (have_typed schema es (kinds_of columns) h);
      columns = have_types schema es (kinds_of columns) h;
    }

last_types : (schema : List Field) (es : List Expr) (ts : List ColType) (e : Expr) (t : ColType) → HaveTypes schema es ts → typed schema e ≡ Ok t → HaveTypes schema (es ++ e ∷ []) (ts ++ t ∷ [])
last_types schema [] [] e t h k = (k, tt)
last_types schema [] (u ∷ ts) e t h k = absurd h
last_types schema (d ∷ es) [] e t h k = absurd h
last_types schema (d ∷ es) (u ∷ ts) e t h k = (h.0, last_types schema es ts e t h.1 k)

set_types : (schema : List Field) (es : List Expr) (ts : List ColType) (at : ℕ) (e : Expr) (t : ColType) → HaveTypes schema es ts → typed schema e ≡ Ok t → HaveTypes schema (set es at e) (set ts at t)
set_types schema [] [] at e t h k = tt
set_types schema [] (u ∷ ts) at e t h k = absurd h
set_types schema (d ∷ es) [] at e t h k = absurd h
set_types schema (d ∷ es) (u ∷ ts) zero e t h k = (k, h.1)
set_types schema (d ∷ es) (u ∷ ts) (suc at) e t h k = (h.0, set_types schema es ts at e t h.1 k)

pub put_types : (schema : List Field) (place : Option ℕ) (es : List Expr) (ts : List ColType) (e : Expr) (t : ColType) → HaveTypes schema es ts → typed schema e ≡ Ok t → HaveTypes schema (put place e es) (put place t ts)
put_types schema None es ts e t h k = last_types schema es ts e t h k
put_types schema (Some at) es ts e t h k = set_types schema es ts at e t h k

-- an expression for each place
pub range_types : (schema : List Field) (f : ℕ → Expr) (g : ℕ → ColType) (k n : ℕ) → ((at : ℕ) → k ≤ at → at < k + n → typed schema (f at) ≡ Ok (g at)) → HaveTypes schema (map f (range_with_len k n)) (map g (range_with_len k n))
range_types schema f g k zero each = tt
range_types schema f g k (suc n) each = (each k (omega arith) (omega arith), range_types schema f g (k + 1) n (λ at low up. each at (omega arith) (omega arith)))
