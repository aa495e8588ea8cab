-- Rows that are put together column by column.
use Rattle.std.proofs.Common.{◌≡◌, ℕ, suc, ◌+◌, ◌<◌, List, [], ◌∷◌, ◌++◌, length, get_or, set, take, drop, map, append-nil, refl, sym, ◌∙◌, ap, ap₂, subst, arith}
use Rattle.std.proofs.lemmas.List.{take_more, take_all, drop_all, map_push, length-map, length-take-le}
use Rattle.std.specs.List.{enumerate_from}
use Rattle.std.proofs.lemmas.List.FromFn.{length-enumerate_from, get_or-enumerate_from}
use Rattle.scalar_value.specs.declared.value.Value.{Value}
use Rattle.na_expr.specs.declared.expr.Expr.{Expr}
use Rattle.na_expr.specs.Evaluation.{val}
use Rattle.col_eval.specs.Columns.{evaluated}
use Rattle.plan_nodes.specs.Kinds.{projected}
use Rattle.stream_ops.specs.Columns.{lengthened}

-- there are as many rows as before
pub length-lengthened : (rows : List (List Value)) (values : List Value) → length (lengthened rows values) ≡ length rows
length-lengthened rows [] = refl
length-lengthened [] (value ∷ values) = refl
length-lengthened (row ∷ rows) (value ∷ values) = ap suc (length-lengthened rows values)

-- one value more stands behind the next row
lengthened-push : (rows : List (List Value)) (values : List Value) (value : Value) (row : List Value) → length values < length rows
    → row ≡ get_or (lengthened rows values) (length values) row
    → lengthened rows (values ++ value ∷ []) ≡ set (lengthened rows values) (length values) (row ++ value ∷ [])
lengthened-push [] values value row h is = absurd (omega arith)
lengthened-push (r ∷ rows) [] value row h is = ap (λ x. (x ++ value ∷ []) ∷ rows) (sym is)
lengthened-push (r ∷ rows) (v ∷ values) value row h is = ap (λ xs. (r ++ v ∷ []) ∷ xs) (lengthened-push rows values value row (omega arith) is)

-- the same of the first values of a column
pub lengthened-more : (rows : List (List Value)) (column : List Value) (i : ℕ) (value : Value) (row : List Value)
    → length column ≡ length rows → i < length column → value ≡ get_or column i value → row ≡ get_or (lengthened rows (take i column)) i row
    → lengthened rows (take (i + 1) column) ≡ set (lengthened rows (take i column)) i (row ++ value ∷ [])
lengthened-more rows column i value row even h at is =
    let first : length (take i column) ≡ i = length-take-le i column (omega arith) in
    ap (lengthened rows) (take_more column i value h ∙ ap (λ v. take i column ++ v ∷ []) (sym at))
    ∙ lengthened-push rows (take i column) value row (omega arith) (is ∙ ap (λ k. get_or (lengthened rows (take i column)) k row) (sym first))
    ∙ ap (λ k. set (lengthened rows (take i column)) k (row ++ value ∷ [])) first

-- the rows of one expression more are the rows with its column
projected-push : (es : List Expr) (e : Expr) (rows : List (List Value)) → projected (es ++ e ∷ []) rows ≡ lengthened (projected es rows) (evaluated e rows)
projected-push es e [] = refl
projected-push es e (row ∷ rows) = ap₂ (λ x xs. x ∷ xs) (map_push (val row) es e) (projected-push es e rows)

pub projected-more : (es : List Expr) (rows : List (List Value)) (i : ℕ) (e : Expr) → i < length es → e ≡ get_or es i e
    → projected (take (i + 1) es) rows ≡ lengthened (projected (take i es) rows) (evaluated e rows)
projected-more es rows i e h is =
    ap (λ xs. projected xs rows) (take_more es i e h ∙ ap (λ x. take i es ++ x ∷ []) (sym is)) ∙ projected-push (take i es) e rows

-- there is a row for each row, whatever the expressions
pub length-projected : (es fs : List Expr) (rows : List (List Value)) → length (projected es rows) ≡ length (projected fs rows)
length-projected es fs rows = length-map rows (λ row. map (val row) es) ∙ sym (length-map rows (λ row. map (val row) fs))

-- a column has a value for each of the rows
pub length-evaluated : (es : List Expr) (e : Expr) (rows : List (List Value)) → length (evaluated e rows) ≡ length (projected es rows)
length-evaluated es e rows = length-map rows (λ row. val row e) ∙ sym (length-map rows (λ row. map (val row) es))

-- an item of a column with its place
at-place : (column : List Value) (i place : ℕ) (value : Value) → i < length column → ◌≡◌ {A = ℕ × Value} (place, value) (get_or (enumerate_from 0 column) i (place, value))
    → (place ≡ i) × (value ≡ get_or column i value)
at-place column i place value h is =
    let at : ◌≡◌ {A = ℕ × Value} (place, value) (0 + i, get_or column i value) = is ∙ get_or-enumerate_from 0 column i (place, value) h in
    let from_first : 0 + i ≡ i = omega arith in
    (ap (λ (p : ℕ × Value). p.0) at ∙ from_first, ap (λ (p : ℕ × Value). p.1) at)

-- the next value of a column, moved behind the values of its row
pub column-step : (start rows : List (List Value)) (column : List Value) (i n place : ℕ) (value : Value) (row made : List Value)
    → length column ≡ length start → rows ≡ lengthened start (take i column)
    → (i < length (enumerate_from 0 column)) × (◌≡◌ {A = ℕ × Value} (place, value) (get_or (enumerate_from 0 column) i (place, value)))
    → row ≡ get_or rows place row → made ≡ row ++ value ∷ [] → n ≡ i + 1
    → set rows place made ≡ lengthened start (take n column)
column-step start rows column i n place value row made even so_far turn is pushed next =
    let h : i < length column = subst (λ k. i < k) (length-enumerate_from 0 column) turn.0 in
    let here = at-place column i place value h turn.1 in
    let row_is : row ≡ get_or (lengthened start (take i column)) i row = is ∙ ap₂ (λ rs k. get_or rs k row) so_far here.0 in
    ap (λ k. set rows k made) here.0
    ∙ ap₂ (λ rs x. set rs i x) so_far pushed
    ∙ sym (lengthened-more start column i value row even h here.1 row_is)
    ∙ ap (λ k. lengthened start (take k column)) (sym next)

-- what a slice of all of a vector's items was written to
pub all-written : {A : Type 0} (made had : List A) (n : ℕ) → length made ≡ length had → n ≡ length had → take n (made ++ drop (length made) had) ≡ made
all-written made had n even all =
    ap (λ xs. take n (made ++ xs)) (drop_all (length made) had (omega arith)) ∙ ap (take n) (append-nil made) ∙ take_all n made (omega arith)
