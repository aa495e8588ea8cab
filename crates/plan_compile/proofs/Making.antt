-- Steps and trees, as they are made.
use Rattle.std.proofs.Common.{◌≡◌, ℕ, zero, suc, ◌+◌, ◌-◌, ◌<◌, Option, Some, List, [], ◌∷◌, ◌++◌, length, drop, map, get_or, slice_get, Result, Ok, Err, IfOk, refl, sym, ◌∙◌, ap, ap₂, arith}
use Rattle.std.proofs.lemmas.List.{drop_more, append_assoc}
use Rattle.std.proofs.lemmas.Option.{slice_get_within, get_or_from_slice_get}
use Rattle.row_table.specs.declared.field.Field.{Field}
use Rattle.na_expr.specs.declared.expr.Expr.{Expr}
use Rattle.plan_nodes.specs.declared.node.NodeKind.TheVariants.{Project}
use Rattle.chain_plans.specs.declared.nodes.Step.{Step}
use Rattle.verb_forms.specs.declared.part.Part.{Part}
use Rattle.verb_forms.specs.Columns.{place_of, put}
use Rattle.verb_forms.specs.After.{with_part}
use Rattle.plan_compile.specs.Steps.{all_columns, filter_step, value_step, value_steps}
use Rattle.plan_compile.specs.Trees.{schema_behind}

-- a step for each expression of `mutate`
pub values_count : (schema : List Field) (values : List (List ℕ × Part)) → length values ≡ length (value_steps schema values)
values_count schema [] = refl
values_count schema (value ∷ values) = ap suc (values_count (value_step schema value).schema values)

-- one step more of `mutate`
pub value_made : (columns next : List Field) (values : List (List ℕ × Part)) (i : ℕ) (value : List ℕ × Part) (made more target : List Step) (s : Step)
    → i < length values → value ≡ get_or values i value → s ≡ value_step columns value → next ≡ s.schema → more ≡ made ++ s ∷ []
    → made ++ value_steps columns (drop i values) ≡ target → more ++ value_steps next (drop (i + 1) values) ≡ target
value_made columns next values i value made more target s within is step behind pushed whole =
    let rest : List (List ℕ × Part) = drop (i + 1) values in
    let first : drop i values ≡ value ∷ rest = drop_more values i value within ∙ ap (λ v. v ∷ rest) (sym is) in
    ap₂ (λ xs f. xs ++ value_steps f rest) pushed (behind ∙ ap (λ (x : Step). x.schema) step)
    ∙ append_assoc made (s ∷ []) (value_steps (value_step columns value).schema rest)
    ∙ ap (λ x. made ++ x ∷ value_steps (value_step columns value).schema rest) step
    ∙ ap (λ vs. made ++ value_steps columns vs) (sym first) ∙ whole

-- the columns behind the last step
pub last_columns : (schema : List Field) (steps : List Step) (k : ℕ) (d : Step) → suc k ≡ length steps → (get_or steps k d).schema ≡ schema_behind schema steps
last_columns schema [] k d e = absurd (omega arith)
last_columns schema (s ∷ []) zero d e = refl
last_columns schema (s ∷ []) (suc k) d e = absurd (omega arith)
last_columns schema (s ∷ t ∷ steps) zero d e = absurd (omega arith)
last_columns schema (s ∷ t ∷ steps) (suc k) d e = last_columns s.schema (t ∷ steps) k d (omega arith)

pub last_taken : (schema : List Field) (steps list : List Step) (n : ℕ) (x : Step) → list ≡ steps → n ≡ length list - 1 → Some x ≡ slice_get list n → x.schema ≡ schema_behind schema steps
last_taken schema steps list n x same last taken =
    let at : slice_get list n ≡ Some x = sym taken in
    let within : n < length list = slice_get_within list n x at in
    ap (λ (s : Step). s.schema) (sym (get_or_from_slice_get list n x x at)) ∙ last_columns schema list n x (omega arith) ∙ ap (schema_behind schema) same

-- the project of one expression of `mutate`
pub project_made : (schema copied columns : List Field) (value : List ℕ × Part) (place : Option ℕ) (e : Expr) (es made : List Expr)
    → place ≡ place_of value.0 schema → e ≡ value.1.value → es ≡ all_columns schema → made ≡ put place e es → copied ≡ schema → columns ≡ with_part copied value
    → record { kind = Project made; schema = columns } ≡ value_step schema value
project_made schema copied columns value place e es made at own all is same behind =
    ap₂ (λ xs fs. record { kind = Project xs; schema = fs })
    (is ∙ ap (λ p. put p e es) at ∙ ap (λ x. put (place_of value.0 schema) x es) own ∙ ap (put (place_of value.0 schema) value.1.value) all)
    (behind ∙ ap (λ fs. with_part fs value) same)

-- the filter of conditions
pub filter_made : {E : Type 0} (schema : List Field) (parts list : List Part) (es : List Expr) (s : Step) (r : Result (List Step) E)
    → list ≡ parts → es ≡ map (λ (part : Part). part.value) list → s ≡ filter_step schema es → IfOk r (λ made. made ≡ s ∷ [])
    → IfOk r (λ made. made ≡ filter_step schema (map (λ (part : Part). part.value) parts) ∷ [])
filter_made schema parts list es s (Ok made) same values step is =
    is ∙ ap (λ x. x ∷ []) (step ∙ ap (filter_step schema) (values ∙ ap (map (λ (part : Part). part.value)) same))
filter_made schema parts list es s (Err e) same values step is = is
