-- The text of a table with aligned columns.
use Rattle.std.specs.Prelude.{ℕ, zero, suc, ◌-◌, ◌==◌, nat_lt, max, Bool, true, false, ◌||◌, if◌then◌else◌, List, [], ◌∷◌, ◌++◌, map, length, replicate, slice_index_or, codes, decimal}
use Rattle.std.specs.List.{flat_map}
use Rattle.scalar_value.specs.declared.value.ColType.{ColType}
use Rattle.scalar_value.specs.declared.value.ColType.TheVariants as kind
use Rattle.scalar_fns.specs.Texts.{char_count}
use Rattle.row_table.specs.declared.field.Field.{Field}
use Rattle.row_table.specs.Tables.{TableValue}
use Rattle.table_print.specs.declared.column.Column.{Column}
use Rattle.table_print.specs.Cells.{name_of, shown_type, written_row}

-- ---- cells

-- A character below U+0020, and U+007F, is shown as a question mark; each is one byte.
abbrev pub is_hidden : ℕ → Bool
is_hidden byte = nat_lt byte 32 || byte == 127

abbrev pub shown_byte : ℕ → ℕ
shown_byte byte = if is_hidden byte then 63 else byte

abbrev pub shown : List ℕ → List ℕ
shown text = map shown_byte text

abbrev pub spaces : ℕ → List ℕ
spaces count = replicate count 32

-- numbers stand at the right of their column, all else at its left
abbrev pub stands_right : ColType → Bool
stands_right kind.Int = true
stands_right kind.Dec = true
stands_right kind.Chr = false
stands_right kind.Date = false
stands_right kind.Lgl = false

-- a cell, with spaces up to the width of its column
abbrev pub padded : Column → List ℕ → List ℕ
padded column text =
    let room = spaces (column.width - char_count text) in
    if column.right then room ++ shown text else shown text ++ room

-- ---- columns

-- the lines of cells: the names, the types, the rows
abbrev pub cell_lines : TableValue → List (List (List ℕ))
cell_lines t = map name_of t.schema ∷ map shown_type t.schema ∷ map written_row t.rows

abbrev pub greatest : List ℕ → ℕ
greatest [] = 0
greatest (x ∷ xs) = max x (greatest xs)

-- the greatest number of code points in the column at a place
abbrev pub width_at : List (List (List ℕ)) → ℕ → ℕ
width_at lines place = greatest (map (λ line. char_count (slice_index_or line place [])) lines)

-- the columns, the first of them at this place
abbrev pub columns_from : ℕ → List Field → List (List (List ℕ)) → List Column
columns_from place [] lines = []
columns_from place (f ∷ fs) lines = record { right = stands_right f.kind; width = width_at lines place } ∷ columns_from (suc place) fs lines

abbrev pub columns_of : TableValue → List Column
columns_of t = columns_from 0 t.schema (cell_lines t)

-- ---- lines

-- two spaces before each column but the first
abbrev pub gap_at : ℕ → List ℕ
gap_at zero = []
gap_at (suc place) = codes "  "

-- cells beside one another, the first of them at this place
abbrev pub cells_from : ℕ → List Column → List (List ℕ) → List ℕ
cells_from place [] texts = []
cells_from place (c ∷ cs) [] = []
cells_from place (c ∷ cs) (text ∷ texts) = gap_at place ++ padded c text ++ cells_from (suc place) cs texts

abbrev pub line_text : List Column → List (List ℕ) → List ℕ
line_text columns texts = cells_from 0 columns texts ++ 10 ∷ []

-- `# R rows, C columns`
abbrev pub size_line : ℕ → ℕ → List ℕ
size_line rows columns = codes "# " ++ decimal rows ++ codes " rows, " ++ decimal columns ++ codes " columns" ++ 10 ∷ []

-- a comma and a space before each name but the first
abbrev pub comma_at : ℕ → List ℕ
comma_at zero = []
comma_at (suc place) = codes ", "

-- the names as they are, the first of them at this place
abbrev pub names_from : ℕ → List (List ℕ) → List ℕ
names_from place [] = []
names_from place (name ∷ names) = comma_at place ++ name ++ names_from (suc place) names

-- `# Groups: a, b` where there are groups
abbrev pub groups_line : List (List ℕ) → List ℕ
groups_line [] = []
groups_line (name ∷ names) = codes "# Groups: " ++ names_from 0 (name ∷ names) ++ 10 ∷ []

-- the sizes, the groups, and the lines of cells
unfoldable pub aligned_text : TableValue → List ℕ
aligned_text t =
    size_line (length t.rows) (length t.schema) ++ groups_line t.groups ++ flat_map (line_text (columns_of t)) (cell_lines t)
