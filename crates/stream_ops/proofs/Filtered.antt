-- The rows that a condition keeps.
use Rattle.std.proofs.Common.{◌≡◌, ℕ, ◌+◌, ◌<◌, Bool, true, false, cond, List, [], ◌∷◌, ◌++◌, length, take, get_or, append-nil, refl, sym, ◌∙◌, ap, ap₂, arith}
use Rattle.std.proofs.lemmas.List.{take_more, length-take-le}
use Rattle.scalar_value.specs.declared.value.Value.{Value}
use Rattle.scalar_value.specs.Truths.{is_true}
use Rattle.na_expr.specs.declared.expr.Expr.{Expr}
use Rattle.na_expr.specs.Evaluation.{val}
use Rattle.col_eval.specs.Columns.{evaluated}
use Rattle.plan_nodes.specs.Kinds.{filtered}
use Rattle.stream_ops.specs.Columns.{rows_where}

before : (b : Bool) (row : List Value) (xs ys : List (List Value)) → cond b (row ∷ (xs ++ ys)) (xs ++ ys) ≡ cond b (row ∷ xs) xs ++ ys
before true row xs ys = refl
before false row xs ys = refl

rows_where-push : (rows : List (List Value)) (values : List Value) (row : List Value) (value : Value) → length rows ≡ length values
    → rows_where (rows ++ row ∷ []) (values ++ value ∷ []) ≡ rows_where rows values ++ cond (is_true value) (row ∷ []) []
rows_where-push [] [] row value h = refl
rows_where-push [] (v ∷ values) row value h = absurd (cc)
rows_where-push (r ∷ rows) [] row value h = absurd (cc)
rows_where-push (r ∷ rows) (v ∷ values) row value h =
    ap (λ xs. cond (is_true v) (r ∷ xs) xs) (rows_where-push rows values row value (cc))
    ∙ before (is_true v) r (rows_where rows values) (cond (is_true value) (row ∷ []) [])

one-more : (rows : List (List Value)) (values : List Value) (i : ℕ) (row : List Value) (value : Value) (b : Bool) → i < length rows → i < length values
    → row ≡ get_or rows i row → value ≡ get_or values i value → is_true value ≡ b
    → rows_where (take (i + 1) rows) (take (i + 1) values) ≡ rows_where (take i rows) (take i values) ++ cond b (row ∷ []) []
one-more rows values i row value b h k is at holding =
    ap₂ rows_where (take_more rows i row h ∙ ap (λ r. take i rows ++ r ∷ []) (sym is)) (take_more values i value k ∙ ap (λ v. take i values ++ v ∷ []) (sym at))
    ∙ rows_where-push (take i rows) (take i values) row value (length-take-le i rows (omega arith) ∙ sym (length-take-le i values (omega arith)))
    ∙ ap (λ c. rows_where (take i rows) (take i values) ++ cond c (row ∷ []) []) holding

pub kept : (rows : List (List Value)) (values : List Value) (i n : ℕ) (row : List Value) (value : Value) → i < length rows → i < length values
    → row ≡ get_or rows i row → value ≡ get_or values i value → n ≡ i + 1 → is_true value ≡ true
    → rows_where (take n rows) (take n values) ≡ rows_where (take i rows) (take i values) ++ row ∷ []
kept rows values i n row value h k is at next holding =
    ap (λ m. rows_where (take m rows) (take m values)) next ∙ one-more rows values i row value true h k is at holding

pub passed-over : (rows : List (List Value)) (values : List Value) (i n : ℕ) (row : List Value) (value : Value) → i < length rows → i < length values
    → row ≡ get_or rows i row → value ≡ get_or values i value → n ≡ i + 1 → is_true value ≡ false
    → rows_where (take n rows) (take n values) ≡ rows_where (take i rows) (take i values)
passed-over rows values i n row value h k is at next holding =
    ap (λ m. rows_where (take m rows) (take m values)) next ∙ one-more rows values i row value false h k is at holding
    ∙ append-nil (rows_where (take i rows) (take i values))

-- the rows beside which the column of a condition has TRUE are those that the condition keeps
pub rows_where-evaluated : (e : Expr) (rows : List (List Value)) → rows_where rows (evaluated e rows) ≡ filtered e rows
rows_where-evaluated e [] = refl
rows_where-evaluated e (row ∷ rows) = ap (λ xs. cond (is_true (val row e)) (row ∷ xs) xs) (rows_where-evaluated e rows)
