-- Texts stay texts where quotes are put into them, and where characters are shown as question marks.
use Rattle.std.proofs.Common.{◌≡◌, ◌==◌, ℕ, suc, ◌<◌, ◌++◌, Bool, true, false, List, [], ◌∷◌, length, get_or, inl, inr, refl, sym, ◌∙◌, ap, arith, lit<}
use Rattle.std.specs.Prelude.{IsUtf8, ◌&&◌, if◌then◌else◌}
use Rattle.std.specs.List.{list_any}
use Rattle.std.proofs.Math.Utf8.{scalar, scalars, encode, encodes}
use Rattle.std.proofs.lemmas.Str.{IsUtf8-append, inside_one, encode_ascii, encodes-append}
use Rattle.std.proofs.lemmas.Bool.{cases_Bool, ne_eqb, eqb-true}
use Rattle.std.proofs.lemmas.Bool.Decides.{nat_tests}
use Rattle.std.proofs.lemmas.List.{map-append, append-nil}
use Rattle.csv.specs.Records.{AllText}
use Rattle.csv.specs.Writing.{default_writer, escaped, quoted, needs_quotes, field_text, fields_text, row_body, is_blank}
use Rattle.csv.proofs.WriteFacts.{escaped-append}
use Rattle.table_print.specs.Aligned.{is_hidden, shown_byte, shown}
use Rattle.table_print.specs.CsvText.{csv_line}
use Rattle.table_print.proofs.Values.{left-true, right-true}

-- ---- quotes

pub no-text : AllText []
unfolding AllText
no-text = tt

plain-escaped : (xs : List ℕ) → ((k : ℕ) → k < length xs → get_or xs k 0 ≡ 34 → ⊥) → escaped default_writer xs ≡ xs
unfolding escaped
plain-escaped [] h = refl
plain-escaped (x ∷ xs) h =
    let n : (x == 34) ≡ false = ne_eqb x 34 (h 0 (omega arith)) in
    rw n (ap (λ (t : List ℕ). x ∷ t) (plain-escaped xs (λ k l. h (suc k) (omega arith))))

-- a byte of a character below 128 is the character
byte-is : (c k b : ℕ) → k < length (encode c) → get_or (encode c) k 0 ≡ b → b < 128 → c ≡ b
byte-is c k b l e small = inside_one c [] (encode c) k (sym (append-nil (encode c))) l (omega arith) ∙ e

one-scalar : (a b : Bool) → (a && b) ≡ true → (a && true) ≡ true
one-scalar a b e = rw (left-true a b e) refl

mark-escaped : IsUtf8 (escaped default_writer (encode 34))
unfolding escaped encode
mark-escaped = (34 ∷ 34 ∷ [], (refl, refl))

char-escaped : (c : ℕ) → scalars (c ∷ []) ≡ true → IsUtf8 (escaped default_writer (encode c))
char-escaped c e =
    elim (cases_Bool (c == 34)) [
      | inl same ↦ let q = eqb-true c 34 same in rw q mark-escaped
      | inr other ↦
          let s = plain-escaped (encode c) (λ k l q. let t = byte-is c k 34 l q (omega arith) in let u = rw t at other in cc) in
          rw s (c ∷ [], (e, append-nil (encode c)))
    ]

escaped-utf8 : (cs : List ℕ) → scalars cs ≡ true → IsUtf8 (escaped default_writer (encodes cs))
unfolding escaped
escaped-utf8 [] e = ([], (refl, refl))
escaped-utf8 (c ∷ cs) e =
    let one = char-escaped c (one-scalar (scalar c) (scalars cs) e) in
    let rest = escaped-utf8 cs (right-true (scalar c) (scalars cs) e) in
    rw (escaped-append default_writer (encode c) (encodes cs))
    (IsUtf8-append (escaped default_writer (encode c)) (escaped default_writer (encodes cs)) one rest)

field-utf8 : (f : List ℕ) → IsUtf8 f → IsUtf8 (field_text default_writer f)
unfolding encode
field-utf8 f (cs, (sound, same)) =
    elim (needs_quotes default_writer f) as (λ b. IsUtf8 (if b then quoted default_writer f else f)) [
      | true ↦
          let inner : IsUtf8 (escaped default_writer f) = rw (sym same) (escaped-utf8 cs sound) in
          IsUtf8-append (34 ∷ []) (escaped default_writer f ++ 34 ∷ []) (34 ∷ [], (refl, refl))
          (IsUtf8-append (escaped default_writer f) (34 ∷ []) inner (34 ∷ [], (refl, refl)))
      | false ↦ (cs, (sound, same))
    ]

fields-utf8 : (fs : List (List ℕ)) → AllText fs → IsUtf8 (fields_text default_writer fs)
unfolding fields_text AllText encode
fields-utf8 [] t = ([], (refl, refl))
fields-utf8 (f ∷ fs) t =
    IsUtf8-append (44 ∷ []) (field_text default_writer f ++ fields_text default_writer fs) (44 ∷ [], (refl, refl))
    (IsUtf8-append (field_text default_writer f) (fields_text default_writer fs) (field-utf8 f t.0) (fields-utf8 fs t.1))

body-utf8 : (fs : List (List ℕ)) → AllText fs → IsUtf8 (row_body default_writer fs)
unfolding AllText
body-utf8 [] t = ([], (refl, refl))
body-utf8 (f ∷ fs) t = IsUtf8-append (field_text default_writer f) (fields_text default_writer fs) (field-utf8 f t.0) (fields-utf8 fs t.1)

pub line-utf8 : (fs : List (List ℕ)) → AllText fs → IsUtf8 (csv_line fs)
unfolding csv_line encode
line-utf8 fs t =
    IsUtf8-append (row_body default_writer fs) ((if is_blank default_writer fs then 34 ∷ 34 ∷ [] else []) ++ 10 ∷ []) (body-utf8 fs t)
    (elim (is_blank default_writer fs) as (λ b. IsUtf8 ((if b then 34 ∷ 34 ∷ [] else []) ++ 10 ∷ [])) [
      | true ↦ (34 ∷ 34 ∷ 10 ∷ [], (refl, refl))
      | false ↦ (10 ∷ [], (refl, refl))
    ])

-- ---- question marks

-- a text without such characters is shown as it is
pub plain-shown : (text : List ℕ) → list_any is_hidden text ≡ false → shown text ≡ text
plain-shown [] e = refl
plain-shown (b ∷ text) e =
    elim (cases_Bool (is_hidden b)) [
      | inl hid ↦ absurd (let h = rw hid at e in cc)
      | inr seen ↦ let h = rw seen at e in rw seen (ap (λ (t : List ℕ). b ∷ t) (plain-shown text h))
    ]

same-bytes : (xs : List ℕ) → ((k : ℕ) → k < length xs → is_hidden (get_or xs k 0) ≡ false) → shown xs ≡ xs
same-bytes [] h = refl
same-bytes (x ∷ xs) h =
    let s : is_hidden x ≡ false = h 0 (omega arith) in
    rw s (ap (λ (t : List ℕ). x ∷ t) (same-bytes xs (λ k l. h (suc k) (omega arith))))

hidden-small : (b : ℕ) → is_hidden b ≡ true → b < 128
hidden-small b e = grind (arith, nat_tests)

char-shown : (c : ℕ) → shown (encode c) ≡ encode (shown_byte c)
char-shown c =
    elim (cases_Bool (is_hidden c)) [
      | inl hid ↦ let small = hidden-small c hid in rw (encode_ascii c small, hid) (sym (encode_ascii 63 (lit< tt)))
      | inr seen ↦
          rw seen (same-bytes (encode c) (λ k l. elim (cases_Bool (is_hidden (get_or (encode c) k 0))) [
            | inl hid ↦ let q = byte-is c k (get_or (encode c) k 0) l refl (hidden-small (get_or (encode c) k 0) hid) in absurd (let u = rw (sym q) at hid in cc)
            | inr other ↦ other
          ]))
    ]

-- one more character
pub shown-more : (cs : List ℕ) (c : ℕ) → shown (encodes (cs ++ c ∷ [])) ≡ shown (encodes cs) ++ encode (shown_byte c)
shown-more cs c =
    ap shown (encodes-append cs (c ∷ [])) ∙ map-append shown_byte (encodes cs) (encode c ++ [])
    ∙ ap (λ t. shown (encodes cs) ++ t) (ap shown (append-nil (encode c)) ∙ char-shown c)
