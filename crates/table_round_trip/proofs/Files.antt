-- The lines that are written are the records that are read, and no mark stands before them.
use Rattle.std.proofs.Common.{◌≡◌, ◌==◌, ℕ, Bool, true, false, ◌&&◌, if◌then◌else◌, List, [], ◌∷◌, ◌++◌, map, append_assoc, Some, refl, sym, ap, ◌∙◌}
use Rattle.std.specs.Prelude.{nat_eq}
use Rattle.std.specs.List.{flat_map, starts_with}
use Rattle.std.proofs.lemmas.Bool.{and_parts, eqb-true}
use Rattle.csv.specs.Machine.{next_record}
use Rattle.csv.specs.Reading.{default_config, is_bom, records, strip_bom}
use Rattle.csv.specs.Writing.{default_writer, escaped, field_text, fields_text, is_blank, needs_quotes, read_back, row_text}
use Rattle.csv.specs.declared.parser.State.TheVariants as st
use Rattle.csv.proofs.RoundTrip.{read-write}
use Rattle.row_table.specs.declared.field.Field.{Field}
use Rattle.csv_source.proofs.NextRecords.{at_start, records_more, records_none}
use Rattle.table_print.specs.Cells.{heading, type_name}
use Rattle.table_print.specs.CsvText.{csv_line}
use Rattle.table_round_trip.proofs.DecTexts.{and-false}
use Rattle.table_round_trip.proofs.Headings.{spelled}

-- ---- lines

pub flat-mapped : {A B C : Type 0} (f : B → List C) (g : A → B) (xs : List A) → flat_map f (map g xs) ≡ flat_map (λ x. f (g x)) xs
flat-mapped f g [] = refl
flat-mapped f g (x ∷ xs) = ap (λ t. f (g x) ++ t) (flat-mapped f g xs)

-- each line has a field
abbrev pub AreFilled : List (List (List ℕ)) → Type 0
AreFilled [] = Unit {0}
AreFilled (line ∷ lines) = (read_back line ≡ line) × AreFilled lines

pub lines_back : (lines : List (List (List ℕ))) → AreFilled lines → records default_config (flat_map csv_line lines) ≡ lines
unfolding csv_line next_record
lines_back [] h = records_none st.StartRecord [] refl
lines_back (line ∷ lines) h =
    let text = flat_map csv_line lines in
    let first = read-write line text ∙ ap (λ (fields : List (List ℕ)). Some (fields, st.StartRecord, text)) h.0 in
    records_more st.StartRecord (row_text default_writer line ++ text) (line, st.StartRecord, text) at_start first
    ∙ ap (λ (rest : List (List (List ℕ))). line ∷ rest) (lines_back lines h.1)

-- ---- the mark

no_first : (a : ℕ) (rest : List ℕ) → (a == 239) ≡ false → strip_bom (a ∷ rest) ≡ a ∷ rest
unfolding strip_bom
no_first a [] h = refl
no_first a (b ∷ []) h = refl
no_first a (b ∷ c ∷ rest) h = rw h refl

no_second : (a b : ℕ) (rest : List ℕ) → (b == 187) ≡ false → strip_bom (a ∷ b ∷ rest) ≡ a ∷ b ∷ rest
unfolding strip_bom
no_second a b [] h = refl
no_second a b (c ∷ rest) h = rw (h, and-false (a == 239) false refl) refl

no_third : (a b c : ℕ) (rest : List ℕ) → (c == 191) ≡ false → strip_bom (a ∷ b ∷ c ∷ rest) ≡ a ∷ b ∷ c ∷ rest
unfolding strip_bom
no_third a b c rest h = rw (h, and-false ((a == 239) && (b == 187)) false refl) refl

mark_by : (a b c : ℕ) (m : Bool) → is_bom a b c ≡ m → (nat_eq 239 a && (nat_eq 187 b && (nat_eq 191 c && true))) ≡ false → m ≡ false
mark_by a b c true e h =
    let p = and_parts ((a == 239) && (b == 187)) (c == 191) e in
    let q = and_parts (a == 239) (b == 187) p.0 in
    let x = eqb-true a 239 q.0 in
    let y = eqb-true b 187 q.1 in
    let z = eqb-true c 191 p.1 in
    let clash : true ≡ false = rw (x, y, z) at h in cc clash
mark_by a b c false e h = refl

no_mark : (name rest : List ℕ) → starts_with nat_eq name (239 ∷ 187 ∷ 191 ∷ []) ≡ false → strip_bom (name ++ 58 ∷ rest) ≡ name ++ 58 ∷ rest
unfolding strip_bom
no_mark [] rest h = no_first 58 rest refl
no_mark (a ∷ []) rest h = no_second a 58 rest refl
no_mark (a ∷ b ∷ []) rest h = no_third a b 58 rest refl
no_mark (a ∷ b ∷ c ∷ name) rest h = rw (mark_by a b c (is_bom a b c) refl h) refl

same_text : (text other : List ℕ) → text ≡ other → strip_bom other ≡ other → strip_bom text ≡ text
same_text text other e h = ap strip_bom e ∙ h ∙ sym e

field_by : (b : Bool) (inner text name kind rest : List ℕ) → text ≡ name ++ 58 ∷ kind → starts_with nat_eq name (239 ∷ 187 ∷ 191 ∷ []) ≡ false
    → strip_bom ((if b then 34 ∷ inner else text) ++ rest) ≡ (if b then 34 ∷ inner else text) ++ rest
field_by true inner text name kind rest is h = no_first 34 (inner ++ rest) refl
field_by false inner text name kind rest is h =
    let e : text ++ rest ≡ name ++ 58 ∷ (kind ++ rest) = ap (λ (t : List ℕ). t ++ rest) is ∙ append_assoc name (58 ∷ kind) rest in
    same_text (text ++ rest) (name ++ 58 ∷ (kind ++ rest)) e (no_mark name (kind ++ rest) h)

pub unmarked : (f : Field) (fs : List (List ℕ)) (rest : List ℕ) → starts_with nat_eq f.name (239 ∷ 187 ∷ 191 ∷ []) ≡ false → strip_bom (csv_line (heading f ∷ fs) ++ rest) ≡ csv_line (heading f ∷ fs) ++ rest
unfolding csv_line
unmarked f fs rest h =
    let first = field_text default_writer (heading f) in
    let more = fields_text default_writer fs in
    let end : List ℕ = (if is_blank default_writer (heading f ∷ fs) then 34 ∷ 34 ∷ [] else []) ++ 10 ∷ [] in
    let e : ((first ++ more) ++ end) ++ rest ≡ first ++ (more ++ (end ++ rest)) = append_assoc (first ++ more) end rest ∙ append_assoc first more (end ++ rest) in
    same_text (((first ++ more) ++ end) ++ rest) (first ++ (more ++ (end ++ rest))) e
    (field_by (needs_quotes default_writer (heading f)) (escaped default_writer (heading f) ++ 34 ∷ []) (heading f) f.name (type_name f.kind) (more ++ (end ++ rest)) (spelled f) h)
