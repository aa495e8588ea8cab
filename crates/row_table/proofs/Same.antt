-- When tables are the same, and what is shown of those.
use Rattle.std.proofs.Common.{◌≡◌, List, refl, sym, ◌∙◌, ap, subst}
use Rattle.scalar_value.specs.declared.value.Value.{Value}
use Rattle.row_table.specs.declared.table.Mark.{Mark}
use Rattle.row_table.specs.declared.table.Mark.TheVariants.{Kept, Unordered}
use Rattle.row_table.specs.SameTables.{SameRows, SameTables, shown_rows, shown}
use Rattle.row_table.specs.Tables.{TableValue}
use Rattle.row_table.proofs.Rows.{sorted_rows-as_often, sorted_rows-alike}

rows_itself : (m : Mark) (xs : List (List Value)) → SameRows m xs xs
rows_itself Kept xs = refl
rows_itself Unordered xs = λ row. refl

rows_turned : (m : Mark) (xs ys : List (List Value)) → SameRows m xs ys → SameRows m ys xs
rows_turned Kept xs ys same = sym same
rows_turned Unordered xs ys same = λ row. sym (same row)

rows_chained : (m : Mark) (xs ys zs : List (List Value)) → SameRows m xs ys → SameRows m ys zs → SameRows m xs zs
rows_chained Kept xs ys zs first second = first ∙ second
rows_chained Unordered xs ys zs first second = λ row. first row ∙ second row

rows_shown : (m : Mark) (xs : List (List Value)) → SameRows m xs (shown_rows m xs)
rows_shown Kept xs = refl
rows_shown Unordered xs = λ row. sym (sorted_rows-as_often xs row)

rows_shown_equal : (m : Mark) (xs ys : List (List Value)) → SameRows m xs ys → shown_rows m xs ≡ shown_rows m ys
rows_shown_equal Kept xs ys same = same
rows_shown_equal Unordered xs ys same = sorted_rows-alike xs ys same

pub same_itself : (t : TableValue) → SameTables t t
same_itself t = record { schema = refl; groups = refl; mark = refl; rows = rows_itself t.mark t.rows }

pub same_turned : (x y : TableValue) → SameTables x y → SameTables y x
same_turned x y same = record {
  schema = sym same.schema;
  groups = sym same.groups;
  mark = sym same.mark;
  rows = subst (λ m. SameRows m y.rows x.rows) same.mark (rows_turned x.mark x.rows y.rows same.rows);
}

pub same_chained : (x y z : TableValue) → SameTables x y → SameTables y z → SameTables x z
same_chained x y z first second = record {
  schema = first.schema ∙ second.schema;
  groups = first.groups ∙ second.groups;
  mark = first.mark ∙ second.mark;
  rows = rows_chained x.mark x.rows y.rows z.rows first.rows (subst (λ m. SameRows m y.rows z.rows) (sym first.mark) second.rows);
}

pub same_shown : (t : TableValue) → SameTables t (shown t)
same_shown t = record { schema = refl; groups = refl; mark = refl; rows = rows_shown t.mark t.rows }

pub shown_equal : (x y : TableValue) → SameTables x y → shown x ≡ shown y
shown_equal x y same =
    let rows : shown_rows x.mark x.rows ≡ shown_rows y.mark y.rows = rows_shown_equal x.mark x.rows y.rows same.rows ∙ ap (λ m. shown_rows m y.rows) same.mark in
    λ i. record { schema = same.schema i; groups = same.groups i; mark = same.mark i; rows = rows i }
