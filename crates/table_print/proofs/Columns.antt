-- The widths of columns, line by line and as the greatest of each column.
use Rattle.std.proofs.Common.{◌≡◌, ℕ, zero, suc, ◌+◌, ◌<◌, ◌++◌, List, [], ◌∷◌, length, get_or, set, map, drop, refl, sym, ◌∙◌, ap, arith, append_assoc, drop-cons, true}
use Rattle.std.proofs.lemmas.List.{length-map, append-nil}
use Rattle.scalar_fns.specs.Written.{written}
use Rattle.std.specs.Prelude.{max}
use Rattle.scalar_fns.specs.Texts.{char_count}
use Rattle.scalar_value.specs.declared.value.Value.{Value}
use Rattle.row_table.specs.declared.field.Field.{Field}
use Rattle.row_table.specs.Tables.{TableValue, fit_rows, fits_row}
use Rattle.table_print.specs.declared.column.Column.{Column}
use Rattle.table_print.specs.Cells.{written_row, name_of, shown_type}
use Rattle.table_print.specs.Aligned.{greatest, stands_right, width_at, columns_from, cell_lines, columns_of}
use Rattle.table_print.specs.Widths.{narrow, widened, widened_by}
use Rattle.table_print.proofs.Values.{left-true, right-true, row-length}

abbrev pub wider : Column → List ℕ → Column
wider c text = record c { width = max c.width (char_count text) }

-- the first k columns are widened
abbrev pub widened_front : ℕ → List Column → List (List ℕ) → List Column
widened_front zero cs texts = cs
widened_front (suc k) [] texts = []
widened_front (suc k) (c ∷ cs) [] = c ∷ cs
widened_front (suc k) (c ∷ cs) (text ∷ texts) = wider c text ∷ widened_front k cs texts

pub front-step : (cs : List Column) (texts : List (List ℕ)) (k : ℕ) (d : Column) → k < length cs → length cs ≡ length texts
    → set (widened_front k cs texts) k (wider (get_or (widened_front k cs texts) k d) (get_or texts k [])) ≡ widened_front (suc k) cs texts
front-step [] texts k d l same = absurd (omega arith)
front-step (c ∷ cs) [] k d l same = absurd (omega arith)
front-step (c ∷ cs) (text ∷ texts) zero d l same = refl
front-step (c ∷ cs) (text ∷ texts) (suc k) d l same = ap (λ t. wider c text ∷ t) (front-step cs texts k d (omega arith) (omega arith))

pub front-all : (cs : List Column) (texts : List (List ℕ)) (k : ℕ) → k ≡ length cs → length cs ≡ length texts → widened_front k cs texts ≡ widened cs texts
front-all [] texts zero e same = refl
front-all [] texts (suc k) e same = absurd (omega arith)
front-all (c ∷ cs) [] k e same = absurd (omega arith)
front-all (c ∷ cs) (text ∷ texts) zero e same = absurd (omega arith)
front-all (c ∷ cs) (text ∷ texts) (suc k) e same = ap (λ t. wider c text ∷ t) (front-all cs texts k (omega arith) (omega arith))

pub length-front : (cs : List Column) (texts : List (List ℕ)) (k : ℕ) → length (widened_front k cs texts) ≡ length cs
length-front cs texts zero = refl
length-front [] texts (suc k) = refl
length-front (c ∷ cs) [] (suc k) = refl
length-front (c ∷ cs) (text ∷ texts) (suc k) = ap suc (length-front cs texts k)

pub by-more : (cs : List Column) (lines : List (List (List ℕ))) (line : List (List ℕ)) → widened_by cs (lines ++ line ∷ []) ≡ widened (widened_by cs lines) line
by-more cs [] line = refl
by-more cs (l ∷ lines) line = by-more (widened cs l) lines line

-- ---- the greatest of each column

greatest-more : (xs : List ℕ) (x : ℕ) → greatest (xs ++ x ∷ []) ≡ max (greatest xs) x
greatest-more [] x = omega arith
greatest-more (y ∷ xs) x = let e = greatest-more xs x in omega arith

width-more : (lines : List (List (List ℕ))) (line : List (List ℕ)) (p : ℕ) → width_at (lines ++ line ∷ []) p ≡ max (width_at lines p) (char_count (get_or line p []))
width-more [] line p = omega arith
width-more (l ∷ lines) line p = let e = width-more lines line p in omega arith

one-line : (p : ℕ) (fields : List Field) (seen : List (List (List ℕ))) (line : List (List ℕ)) → length line ≡ p + length fields
    → widened (columns_from p fields seen) (drop p line) ≡ columns_from p fields (seen ++ line ∷ [])
one-line p [] seen line e = refl
one-line p (f ∷ fs) seen line e =
    let l : p < length line = omega arith in
    rw (drop-cons line p [] l, width-more seen line p) (ap (λ t. record { right = stands_right f.kind; width = max (width_at seen p) (char_count (get_or line p [])) } ∷ t) (one-line (suc p) fs seen line (omega arith)))

-- each line has so many cells
abbrev pub HaveCells : ℕ → List (List (List ℕ)) → Type 0
HaveCells n [] = Unit {0}
HaveCells n (line ∷ lines) = (length line ≡ n) × HaveCells n lines

by-lines : (fields : List Field) (seen lines : List (List (List ℕ))) → HaveCells (length fields) lines → widened_by (columns_from 0 fields seen) lines ≡ columns_from 0 fields (seen ++ lines)
by-lines fields seen [] h = ap (columns_from 0 fields) (sym (append-nil seen))
by-lines fields seen (line ∷ lines) h =
    let e : length line ≡ 0 + length fields = let a = h.0 in omega arith in
    ap (λ cs. widened_by cs lines) (one-line 0 fields seen line e) ∙ by-lines fields (seen ++ line ∷ []) lines h.1
    ∙ ap (columns_from 0 fields) (append_assoc seen (line ∷ []) lines)

narrow-first : (p : ℕ) (fields : List Field) → map narrow fields ≡ columns_from p fields []
narrow-first p [] = refl
narrow-first p (f ∷ fs) = ap (λ t. narrow f ∷ t) (narrow-first (suc p) fs)

rows-have : (fields : List Field) (rows : List (List Value)) → fit_rows fields rows ≡ true → HaveCells (length fields) (map written_row rows)
rows-have fields [] e = tt
rows-have fields (row ∷ rows) e =
    let a = row-length fields row (left-true (fits_row fields row) (fit_rows fields rows) e) in
    (length-map row written ∙ a, rows-have fields rows (right-true (fits_row fields row) (fit_rows fields rows) e))

pub columns-law : (t : TableValue) → fit_rows t.schema t.rows ≡ true → widened_by (map narrow t.schema) (cell_lines t) ≡ columns_of t
columns-law t e =
    ap (λ cs. widened_by cs (cell_lines t)) (narrow-first 0 t.schema)
    ∙ by-lines t.schema [] (cell_lines t) (length-map t.schema name_of, (length-map t.schema shown_type, rows-have t.schema t.rows e))

pub length-columns : (p : ℕ) (fields : List Field) (lines : List (List (List ℕ))) → length (columns_from p fields lines) ≡ length fields
length-columns p [] lines = refl
length-columns p (f ∷ fs) lines = ap suc (length-columns (suc p) fs lines)
