-- The table that is made of the rows.
use Rattle.std.proofs.Common.{◌≡◌, ℕ, ◌+◌, Bool, true, false, ◌&&◌, List, [], ◌∷◌, ◌++◌, length, ◌<◌, ◌≤◌, nat_le, arith, refl, sym, ap, ◌∙◌, Some, None, Result, Ok, Err}
use Rattle.scalar_value.specs.declared.value.Value.{Value}
use Rattle.row_table.specs.declared.field.Field.{Field}
use Rattle.row_table.specs.Tables.{TableValue, fit_rows, fits_row}
use Rattle.csv_source.specs.declared.fault.TableFault.{TableFault}
use Rattle.csv.specs.Machine.{Read, next_record}
use Rattle.csv.specs.Reading.{default_config, records}
use Rattle.csv.specs.declared.parser.State.{State}
use Rattle.csv.specs.declared.parser.State.TheVariants as st
use Rattle.scalar_value.specs.declared.memory.Or.{Or}
use Rattle.scalar_value.specs.declared.memory.Or.TheVariants.{Fault, Memory}
use Rattle.scalar_value.specs.Gives.{Gives}
use Rattle.csv_source.specs.declared.fault.TableKind.TheVariants as fault
use Rattle.csv_source.specs.Steps.{◌>>=◌, each_ok}
use Rattle.csv_source.specs.Typed.{columns_of, fault_at, kept_table, row_at, table_of_records}
use Rattle.csv_source.proofs.Each.{after, ended, goes_on, stops}
use Rattle.csv_source.proofs.NextRecords.{IsBetween, at_start, records_more, records_none, rest_records}

abbrev pub finished : List Field → Result (List (List Value)) TableFault → Result TableValue TableFault
finished columns rows = rows >>= (λ made. Ok (kept_table columns made))

fit_by : (b : Bool) (xs ys : Bool) → (xs ≡ true → ys ≡ true) → (b && xs) ≡ true → (b && ys) ≡ true
fit_by true xs ys f h = f h
fit_by false xs ys f h = h

pub fit-push : (columns : List Field) (rows : List (List Value)) (row : List Value) → fit_rows columns rows ≡ true → fits_row columns row ≡ true → fit_rows columns (rows ++ row ∷ []) ≡ true
fit-push columns [] row h f = ap (λ b. b && true) f
fit-push columns (r ∷ rs) row h f = fit_by (fits_row columns r) (fit_rows columns rs) (fit_rows columns (rs ++ row ∷ [])) (λ k. fit-push columns rs row k f) h

-- ---- the first record

pub no_header : (xs : List ℕ) → next_record default_config st.StartRecord [] [] xs ≡ None → table_of_records (records default_config xs) ≡ Err (fault_at fault.NoHeader 0 0)
unfolding table_of_records
no_header xs h = rw (records_none st.StartRecord xs h) refl

split : (xs : List ℕ) (p : Read) → next_record default_config st.StartRecord [] [] xs ≡ Some p → table_of_records (records default_config xs) ≡ table_of_records (p.0 ∷ rest_records p.1 p.2)
split xs p h = ap table_of_records (records_more st.StartRecord xs p at_start h)

pub many_columns : (xs : List ℕ) (p : Read) (header : List (List ℕ)) → next_record default_config st.StartRecord [] [] xs ≡ Some p → header ≡ p.0 → 1024 < length header
    → table_of_records (records default_config xs) ≡ Err (fault_at fault.TooManyColumns 0 1025)
unfolding table_of_records
many_columns xs p header h e many =
    let wide : nat_le (length p.0) 1024 ≡ false = rw (← e) (grind arith) in split xs p h ∙ rw wide refl

few_columns : (xs : List ℕ) (p : Read) (header : List (List ℕ)) → next_record default_config st.StartRecord [] [] xs ≡ Some p → header ≡ p.0 → length header ≤ 1024
    → table_of_records (records default_config xs) ≡ (columns_of header >>= (λ columns. finished columns (each_ok (row_at columns) 1 (rest_records p.1 p.2))))
unfolding table_of_records
few_columns xs p header h e few =
    let narrow : nat_le (length p.0) 1024 ≡ true = rw (← e) (grind arith) in split xs p h ∙ rw (narrow, e) refl

pub header_refused : (xs : List ℕ) (p : Read) (header : List (List ℕ)) (r : Or TableFault) → next_record default_config st.StartRecord [] [] xs ≡ Some p → header ≡ p.0 → length header ≤ 1024
    → Gives {T = List Field} (Err r) (columns_of header) → Gives {T = TableValue} (Err r) (table_of_records (records default_config xs))
header_refused xs p header (Fault f) h e few g = few_columns xs p header h e few ∙ ap (λ r. r >>= (λ columns. finished columns (each_ok (row_at columns) 1 (rest_records p.1 p.2)))) g
header_refused xs p header Memory h e few g = tt

pub header_there : (xs : List ℕ) (p : Read) (header : List (List ℕ)) (columns : List Field) → next_record default_config st.StartRecord [] [] xs ≡ Some p → header ≡ p.0 → length header ≤ 1024
    → columns_of header ≡ Ok columns → finished columns (each_ok (row_at columns) 1 (rest_records p.1 p.2)) ≡ table_of_records (records default_config xs)
header_there xs p header columns h e few g =
    sym (few_columns xs p header h e few ∙ ap (λ r. r >>= (λ cs. finished cs (each_ok (row_at cs) 1 (rest_records p.1 p.2)))) g)

-- ---- the rows

-- the records that are left are this one and those behind it
pub row_here : (columns : List Field) (rows : List (List Value)) (k : ℕ) (s : State) (ys : List ℕ) (p : Read) (fields : List (List ℕ)) (whole : Result TableValue TableFault) → IsBetween s
    → next_record default_config s [] [] ys ≡ Some p → fields ≡ p.0 → finished columns (after rows (each_ok (row_at columns) k (rest_records s ys))) ≡ whole
    → finished columns (after rows (each_ok (row_at columns) k (fields ∷ rest_records p.1 p.2))) ≡ whole
row_here columns rows k s ys p fields whole b h e all =
    ap (λ rest. finished columns (after rows (each_ok (row_at columns) k rest))) (ap (λ f. f ∷ rest_records p.1 p.2) e ∙ sym (records_more s ys p b h)) ∙ all

pub row_refused : (columns : List Field) (rows : List (List Value)) (k : ℕ) (fields : List (List ℕ)) (rest : List (List (List ℕ))) (r : Or TableFault) (whole : Result TableValue TableFault)
    → Gives {T = List Value} (Err r) (row_at columns k fields) → finished columns (after rows (each_ok (row_at columns) k (fields ∷ rest))) ≡ whole → Gives {T = TableValue} (Err r) whole
row_refused columns rows k fields rest (Fault f) whole g all = sym all ∙ ap (finished columns) (stops (row_at columns) k fields rest rows f g)
row_refused columns rows k fields rest Memory whole g all = tt

pub row_more : (columns : List Field) (rows : List (List Value)) (k : ℕ) (fields : List (List ℕ)) (rest : List (List (List ℕ))) (row : List Value) (whole : Result TableValue TableFault)
    → row_at columns k fields ≡ Ok row → finished columns (after rows (each_ok (row_at columns) k (fields ∷ rest))) ≡ whole
    → finished columns (after (rows ++ row ∷ []) (each_ok (row_at columns) (k + 1) rest)) ≡ whole
row_more columns rows k fields rest row whole g all = ap (finished columns) (goes_on (row_at columns) k fields rest rows row g) ∙ all

pub rows_end : (columns : List Field) (rows : List (List Value)) (k : ℕ) (s : State) (ys : List ℕ) (whole : Result TableValue TableFault) → next_record default_config s [] [] ys ≡ None
    → finished columns (after rows (each_ok (row_at columns) k (rest_records s ys))) ≡ whole → whole ≡ Ok (kept_table columns rows)
rows_end columns rows k s ys whole h all = sym all ∙ ap (finished columns) (ended (row_at columns) k (rest_records s ys) rows (records_none s ys h))
