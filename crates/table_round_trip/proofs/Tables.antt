-- A table that is printed as CSV is read as that table.
use Rattle.std.proofs.Common.{◌≡◌, ℕ, ◌+◌, ◌<◌, ◌≤◌, Bool, true, false, if◌then◌else◌, nat_le, List, [], ◌∷◌, ◌++◌, length, map, Ok, Err, refl, sym, ap, ◌∙◌, arith}
use Rattle.std.specs.Prelude.{nat_eq}
use Rattle.std.specs.List.{AllByRecursion as Each, All, flat_map, starts_with, zip}
use Rattle.std.specs.Str.{IsUtf8, is_utf8}
use Rattle.std.proofs.lemmas.Bool.{and_parts, le-leb}
use Rattle.std.proofs.lemmas.List.{length-map}
use Rattle.std.proofs.lemmas.List.Elements.{recursion_from_All}
use Rattle.std.proofs.lemmas.Str.{IsUtf8-append, IsUtf8-nil, is_utf8-from_IsUtf8}
use Rattle.csv.specs.Reading.{default_config, records}
use Rattle.csv.specs.Records.{AllText}
use Rattle.csv.specs.Writing.{read_back}
use Rattle.scalar_value.specs.declared.value.Value.{Value}
use Rattle.scalar_value.specs.Order.{is_of_type}
use Rattle.scalar_fns.specs.Written.{written}
use Rattle.row_table.specs.declared.field.Field.{Field}
use Rattle.row_table.specs.Tables.{fit_rows, fits_row, names_differ}
use Rattle.csv_source.specs.Records.{records_of}
use Rattle.csv_source.specs.Steps.{each_ok}
use Rattle.csv_source.specs.Typed.{fault_at, kept_table, row_at, table_of_records, typed, value_at}
use Rattle.csv_source.proofs.Rows.{cell_there, even_row}
use Rattle.csv_source.specs.declared.fault.TableKind.TheVariants as fault
use Rattle.table_print.specs.Cells.{heading, written_row}
use Rattle.table_print.specs.CsvText.{csv_line, csv_text}
use Rattle.table_print.proofs.Texts.{line-utf8}
use Rattle.table_print.proofs.Values.{row-length}
use Rattle.table_round_trip.specs.RoundTrip.{IsFileName, IsPlain, PrintedIsRead, begins_with_mark}
use Rattle.table_round_trip.proofs.Files.{AreFilled, flat-mapped, lines_back, unmarked}
use Rattle.table_round_trip.proofs.Headings.{AreNamed, columns_back, heading_utf8}
use Rattle.table_round_trip.proofs.Values.{value_back, value_utf8}

-- each row is one of plain values
abbrev ArePlain : List (List Value) → Type 0
ArePlain rows = Each (Each IsPlain) rows

plain_rows : (rows : List (List Value)) → Each (All IsPlain) rows → ArePlain rows
plain_rows [] h = tt
plain_rows (row ∷ rows) h = (recursion_from_All IsPlain row h.0, plain_rows rows h.1)

-- ---- the rows

cells_back : (row place : ℕ) (fs : List Field) (vs : List Value) → fits_row fs vs ≡ true → Each IsPlain vs → each_ok (value_at row) place (zip fs (map written vs)) ≡ Ok vs
cells_back row place [] [] fits plain = refl
cells_back row place [] (v ∷ vs) fits plain = cc fits
cells_back row place (f ∷ fs) [] fits plain = cc fits
cells_back row place (f ∷ fs) (v ∷ vs) fits plain =
    let p = and_parts (is_of_type f.kind v) (fits_row fs vs) fits in
    let first = cell_there row place f (written v) v (value_back f.kind v p.0 plain.0) in
    let rest = cells_back row (place + 1) fs vs p.1 plain.1 in
    rw (first, rest) refl

row_back : (fs : List Field) (row : ℕ) (vs : List Value) → fits_row fs vs ≡ true → Each IsPlain vs → row_at fs row (written_row vs) ≡ Ok vs
row_back fs row vs fits plain = even_row fs row (written_row vs) (length-map vs written ∙ row-length fs vs fits) ∙ cells_back row 1 fs vs fits plain

rows_back : (fs : List Field) (n : ℕ) (rows : List (List Value)) → fit_rows fs rows ≡ true → ArePlain rows → each_ok (row_at fs) n (map written_row rows) ≡ Ok rows
rows_back fs n [] fit plain = refl
rows_back fs n (row ∷ rows) fit plain =
    let p = and_parts (fits_row fs row) (fit_rows fs rows) fit in
    rw (row_back fs n row p.0 plain.0, rows_back fs (n + 1) rows p.1 plain.1) refl

-- ---- the text

headings_text : (fs : List Field) → AreNamed fs → AllText (map heading fs)
unfolding AllText
headings_text [] h = tt
headings_text (f ∷ fs) h = (heading_utf8 f h.0.0, headings_text fs h.1)

values_text : (vs : List Value) → Each IsPlain vs → AllText (written_row vs)
unfolding AllText
values_text [] h = tt
values_text (v ∷ vs) h = (value_utf8 v h.0, values_text vs h.1)

rows_utf8 : (rows : List (List Value)) → ArePlain rows → IsUtf8 (flat_map (λ row. csv_line (written_row row)) rows)
rows_utf8 [] h = IsUtf8-nil
rows_utf8 (row ∷ rows) h = IsUtf8-append (csv_line (written_row row)) (flat_map (λ r. csv_line (written_row r)) rows) (line-utf8 (written_row row) (values_text row h.0)) (rows_utf8 rows h.1)

-- ---- the records

filled : (line : List (List ℕ)) → 0 < length line → read_back line ≡ line
filled [] h = absurd (omega (arith, h))
filled (x ∷ xs) h = refl

rows_filled : (fs : List Field) (rows : List (List Value)) → 0 < length fs → fit_rows fs rows ≡ true → AreFilled (map written_row rows)
rows_filled fs [] some fit = tt
rows_filled fs (row ∷ rows) some fit =
    let p = and_parts (fits_row fs row) (fit_rows fs rows) fit in
    let size = length-map row written ∙ row-length fs row p.0 in
    (filled (written_row row) (omega arith), rows_filled fs rows some p.1)

record IsFile (f : Field) (fs : List Field) (rows : List (List Value)) : Type 0 where
  differ : names_differ (f ∷ fs) ≡ true
  fit : fit_rows (f ∷ fs) rows ≡ true
  within : length (f ∷ fs) ≤ 1024
  named : AreNamed (f ∷ fs)
  plain : ArePlain rows
  start : starts_with nat_eq f.name (239 ∷ 187 ∷ 191 ∷ []) ≡ false

records_back : (f : Field) (fs : List Field) (rows : List (List Value)) → IsFile f fs rows
    → records_of (csv_line (map heading (f ∷ fs)) ++ flat_map (λ row. csv_line (written_row row)) rows) ≡ map heading (f ∷ fs) ∷ map written_row rows
records_back f fs rows h =
    let lines = flat_map (λ row. csv_line (written_row row)) rows in
    ap (records default_config) (unmarked f (map heading fs) lines h.start ∙ ap (λ (t : List ℕ). csv_line (map heading (f ∷ fs)) ++ t) (sym (flat-mapped csv_line written_row rows)))
    ∙ lines_back (map heading (f ∷ fs) ∷ map written_row rows) (refl, rows_filled (f ∷ fs) rows (omega arith) h.fit)

table_back : (f : Field) (fs : List Field) (rows : List (List Value)) → IsFile f fs rows → table_of_records (map heading (f ∷ fs) ∷ map written_row rows) ≡ Ok (kept_table (f ∷ fs) rows)
unfolding table_of_records
table_back f fs rows h =
    let size = length-map (f ∷ fs) heading in
    let few : nat_le (length (map heading (f ∷ fs))) 1024 ≡ true = le-leb (length (map heading (f ∷ fs))) 1024 (omega (arith, size, h.within)) in
    rw (few, columns_back (f ∷ fs) h.differ h.named, rows_back (f ∷ fs) 1 rows h.fit h.plain) refl

read : (f : Field) (fs : List Field) (rows : List (List Value)) → IsFile f fs rows
    → typed (csv_line (map heading (f ∷ fs)) ++ flat_map (λ row. csv_line (written_row row)) rows) ≡ Ok (kept_table (f ∷ fs) rows)
unfolding typed
read f fs rows h =
    let text = csv_line (map heading (f ∷ fs)) ++ flat_map (λ row. csv_line (written_row row)) rows in
    let utf8 : is_utf8 text ≡ true = is_utf8-from_IsUtf8 text (IsUtf8-append (csv_line (map heading (f ∷ fs))) (flat_map (λ row. csv_line (written_row row)) rows) (line-utf8 (map heading (f ∷ fs)) (headings_text (f ∷ fs) h.named)) (rows_utf8 rows h.plain)) in
    ap (λ (b : Bool). if b then table_of_records (records_of text) else Err (fault_at fault.NotText 0 0)) utf8
    ∙ ap table_of_records (records_back f fs rows h) ∙ table_back f fs rows h

read_parts : (schema : List Field) (rows : List (List Value)) → names_differ schema ≡ true → fit_rows schema rows ≡ true → 1 ≤ length schema → length schema ≤ 1024 → AreNamed schema
    → begins_with_mark schema ≡ false → ArePlain rows → typed (csv_line (map heading schema) ++ flat_map (λ row. csv_line (written_row row)) rows) ≡ Ok (kept_table schema rows)
read_parts [] rows differ fit some within names start plain = absurd (omega (arith, some))
read_parts (f ∷ fs) rows differ fit some within names start plain = read f fs rows (record { differ = differ; fit = fit; within = within; named = names; plain = plain; start = start })

pub printed : PrintedIsRead
unfolding csv_text
printed t h =
    read_parts t.schema t.rows h.table.named h.table.filled h.some h.within (recursion_from_All IsFileName t.schema h.names) h.unmarked
    (plain_rows t.rows (recursion_from_All (All IsPlain) t.rows h.texts))
