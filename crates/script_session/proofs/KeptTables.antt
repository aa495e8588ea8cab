-- The rows of a typed table have the order of its file.
use Rattle.std.proofs.Common.{◌≡◌, ℕ, Bool, true, false, List, [], ◌∷◌, Result, Ok, Err, refl, sym, ap}
use Rattle.std.specs.Prelude.{if◌then◌else◌}
use Rattle.std.specs.Str.{is_utf8}
use Rattle.scalar_value.specs.declared.value.Value.{Value}
use Rattle.row_table.specs.declared.field.Field.{Field}
use Rattle.row_table.specs.declared.table.Mark.TheVariants.{Kept}
use Rattle.row_table.specs.Tables.{TableValue}
use Rattle.csv_source.specs.declared.fault.TableFault.{TableFault}
use Rattle.csv_source.specs.Records.{records_of}
use Rattle.csv_source.specs.Steps.{◌>>=◌, each_ok}
use Rattle.csv_source.specs.Typed.{typed, table_of_records, few_enough, columns_of, row_at, kept_table}

abbrev ok_value : TableValue → Result TableValue TableFault → TableValue
ok_value d (Ok x) = x
ok_value d (Err f) = d

rows_kept : (columns : List Field) (rows : Result (List (List Value)) TableFault) (t : TableValue) → (rows >>= (λ rs. Ok (kept_table columns rs))) ≡ Ok t → t.mark ≡ Kept
rows_kept columns (Ok rs) t h = ap (λ (x : TableValue). x.mark) (sym (ap (ok_value (kept_table columns rs)) h))
rows_kept columns (Err f) t h = cc

columns_kept : (columns : Result (List Field) TableFault) (rows : List Field → Result (List (List Value)) TableFault) (t : TableValue)
    → (columns >>= (λ cs. rows cs >>= (λ rs. Ok (kept_table cs rs)))) ≡ Ok t → t.mark ≡ Kept
columns_kept (Ok cs) rows t h = rows_kept cs (rows cs) t h
columns_kept (Err f) rows t h = cc

header_kept : (header : Result (List (List ℕ)) TableFault) (columns : List (List ℕ) → Result (List Field) TableFault) (rows : List Field → Result (List (List Value)) TableFault) (t : TableValue)
    → (header >>= (λ hs. columns hs >>= (λ cs. rows cs >>= (λ rs. Ok (kept_table cs rs))))) ≡ Ok t → t.mark ≡ Kept
header_kept (Ok hs) columns rows t h = columns_kept (columns hs) rows t h
header_kept (Err f) columns rows t h = cc

records_kept : (records : List (List (List ℕ))) (t : TableValue) → table_of_records records ≡ Ok t → t.mark ≡ Kept
unfolding table_of_records
records_kept [] t h = cc
records_kept (first ∷ others) t h = header_kept (few_enough first) columns_of (λ cs. each_ok (row_at cs) 1 others) t h

by_text : (b : Bool) (r : Result TableValue TableFault) (f : TableFault) (t : TableValue) → (r ≡ Ok t → t.mark ≡ Kept) → (if b then r else Err f) ≡ Ok t → t.mark ≡ Kept
by_text true r f t given h = given h
by_text false r f t given h = cc

pub typed_is_kept : (bytes : List ℕ) (t : TableValue) → typed bytes ≡ Ok t → t.mark ≡ Kept
unfolding typed
typed_is_kept bytes t h = by_text (is_utf8 bytes) (table_of_records (records_of bytes)) _ t (records_kept (records_of bytes) t) h
