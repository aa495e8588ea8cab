-- The heading of a column is read as that column, and the headings of columns with distinct names as those columns.
use Rattle.std.proofs.Common.{◌≡◌, ◌==◌, ℕ, suc, ◌+◌, ◌-◌, Bool, true, false, ◌||◌, not, List, [], ◌∷◌, ◌++◌, length, length-append, map, take, drop, append_assoc, Option, Some, Ok, refl, sym, ap, ap₂, ◌∙◌, subst, arith, codes, option_map}
use Rattle.std.specs.Cmp.Lexicographic.{bytes_decides}
use Rattle.std.specs.List.{AllByRecursion as Each, after_last, suffix_len}
use Rattle.std.specs.Str.{IsUtf8, bytes_eq}
use Rattle.std.proofs.lemmas.Bool.{and_parts, false_from_ne_true, ne_eqb, not-true, or_parts, true≢false}
use Rattle.std.proofs.lemmas.List.{reverse-append, take_at}
use Rattle.std.proofs.Math.Seq.{drop-append-add}
use Rattle.std.proofs.Math.Utf8.{encode}
use Rattle.std.proofs.lemmas.Str.{IsUtf8-append}
use Rattle.scalar_value.specs.declared.value.ColType.{ColType}
use Rattle.scalar_value.specs.declared.value.ColType.TheVariants as kind
use Rattle.row_table.specs.declared.field.Field.{Field}
use Rattle.row_table.specs.Tables.{among_texts, has_name, names_differ}
use Rattle.csv_source.specs.Fields.{column_of_text, is_colon, name_of_text, type_of_text}
use Rattle.csv_source.specs.Steps.{each_ok}
use Rattle.csv_source.specs.Typed.{column_at, columns_of}
use Rattle.csv_source.proofs.Columns.{column_there}
use Rattle.table_print.specs.Cells.{heading, type_name}
use Rattle.table_round_trip.specs.RoundTrip.{IsFileName}

-- ---- the parts of a heading

suffix_is : (name : List ℕ) (k : ColType) → suffix_len (λ byte. not (is_colon byte)) (name ++ 58 ∷ type_name k) ≡ length (type_name k)
suffix_is name kind.Int = rw (reverse-append name (codes ":int")) refl
suffix_is name kind.Dec = rw (reverse-append name (codes ":dec")) refl
suffix_is name kind.Chr = rw (reverse-append name (codes ":chr")) refl
suffix_is name kind.Date = rw (reverse-append name (codes ":date")) refl
suffix_is name kind.Lgl = rw (reverse-append name (codes ":lgl")) refl

behind : (name : List ℕ) (k : ColType) → length (name ++ 58 ∷ type_name k) - suffix_len (λ byte. not (is_colon byte)) (name ++ 58 ∷ type_name k) ≡ length name + 1
behind name k = omega (arith, length-append name (58 ∷ type_name k), suffix_is name k)

name_is : (name : List ℕ) (k : ColType) → name_of_text (name ++ 58 ∷ type_name k) ≡ name
name_is name k =
    let place : length name + 1 - 1 ≡ length name = omega arith in
    ap (λ (n : ℕ). take (n - 1) (name ++ 58 ∷ type_name k)) (behind name k) ∙ ap (λ (n : ℕ). take n (name ++ 58 ∷ type_name k)) place
    ∙ take_at name (58 ∷ type_name k) (length name) refl

type_is : (name : List ℕ) (k : ColType) → after_last is_colon (name ++ 58 ∷ type_name k) ≡ type_name k
type_is name k = ap (λ (n : ℕ). drop n (name ++ 58 ∷ type_name k)) (behind name k) ∙ drop-append-add name (58 ∷ type_name k) 1

type_back : (k : ColType) → type_of_text (type_name k) ≡ Some k
unfolding type_of_text
type_back kind.Int = refl
type_back kind.Dec = refl
type_back kind.Chr = refl
type_back kind.Date = refl
type_back kind.Lgl = refl

some_name : (name : List ℕ) → (name ≡ [] → ⊥) → (length name == 0) ≡ false
some_name [] h = absurd (h refl)
some_name (c ∷ name) h = ne_eqb (suc (length name)) 0 (λ z. cc z)

-- a heading, and the text behind the name as one
pub spelled : (f : Field) → heading f ≡ f.name ++ 58 ∷ type_name f.kind
spelled f = append_assoc f.name (codes ":") (type_name f.kind)

column_spelled : (name : List ℕ) (k : ColType) → (name ≡ [] → ⊥) → column_of_text (name ++ 58 ∷ type_name k) ≡ Some (record { name = name; kind = k })
unfolding column_of_text
column_spelled name k h =
    let text = name ++ 58 ∷ type_name k in
    let some : (length (name_of_text text) == 0) ≡ false = ap (λ (t : List ℕ). length t == 0) (name_is name k) ∙ some_name name h in
    rw some (ap₂ (λ (t : List ℕ) (o : Option ColType). option_map {T = ColType} {U = Field} (λ c. record { name = t; kind = c }) o) (name_is name k) (ap type_of_text (type_is name k) ∙ type_back k))

column_back : (f : Field) → (f.name ≡ [] → ⊥) → column_of_text (heading f) ≡ Some f
column_back f h = ap column_of_text (spelled f) ∙ column_spelled f.name f.kind h

-- ---- columns with distinct names

flip : (a b : List ℕ) → bytes_eq a b ≡ false → bytes_eq b a ≡ false
flip a b h = false_from_ne_true (bytes_eq b a) (λ e. true≢false (sym ((bytes_decides a b).1 (sym ((bytes_decides b a).0 e))) ∙ h))

-- a name that no column before it has
other_name : (name : List ℕ) (before : List Field) (f : Field) (fs : List Field) → has_name name (before ++ f ∷ fs) ≡ false → bytes_eq name f.name ≡ false
other_name name [] f fs h = flip f.name name (or_parts (bytes_eq f.name name) (has_name name fs) h).0
other_name name (g ∷ gs) f fs h = other_name name gs f fs (or_parts (bytes_eq g.name name) (has_name name (gs ++ f ∷ fs)) h).1

new_name : (before : List Field) (f : Field) (fs : List Field) → names_differ (before ++ f ∷ fs) ≡ true → among_texts f.name (map (λ (g : Field). g.name) before) ≡ false
new_name [] f fs h = refl
new_name (g ∷ gs) f fs h =
    let p = and_parts (not (has_name g.name (gs ++ f ∷ fs))) (names_differ (gs ++ f ∷ fs)) h in
    let other = other_name g.name gs f fs (not-true (has_name g.name (gs ++ f ∷ fs)) p.0) in
    ap (λ (b : Bool). b || among_texts f.name (map (λ (k : Field). k.name) gs)) other ∙ new_name gs f fs p.1

-- each column has a name
abbrev pub AreNamed : List Field → Type 0
AreNamed fs = Each IsFileName fs

names_back : (fs : List Field) → map name_of_text (map heading fs) ≡ map (λ (f : Field). f.name) fs
names_back [] = refl
names_back (f ∷ fs) = ap₂ (λ (name : List ℕ) (names : List (List ℕ)). name ∷ names) (ap name_of_text (spelled f) ∙ name_is f.name f.kind) (names_back fs)

taken : (before : List Field) (f : Field) (fs : List Field) → take (length before) (map heading (before ++ f ∷ fs)) ≡ map heading before
taken [] f fs = refl
taken (g ∷ gs) f fs = ap (λ (texts : List (List ℕ)). heading g ∷ texts) (taken gs f fs)

from_column : (before fs : List Field) → names_differ (before ++ fs) ≡ true → AreNamed fs → each_ok (column_at (map heading (before ++ fs))) (length before + 1) (map heading fs) ≡ Ok fs
from_column before [] differ named = refl
from_column before (f ∷ fs) differ named =
    let header = map heading (before ++ f ∷ fs) in
    let names : map (λ (g : Field). g.name) before ≡ map name_of_text (take (length before) header) =
    sym (ap (map name_of_text) (taken before f fs) ∙ names_back before) in
    let first = column_there header (length before) (heading f) f (map (λ (g : Field). g.name) before) (column_back f named.0.1) names (new_name before f fs differ) in
    let whole = append_assoc before (f ∷ []) fs in
    let place : length (before ++ f ∷ []) + 1 ≡ length before + 1 + 1 = omega (arith, length-append before (f ∷ [])) in
    let rest : each_ok (column_at (map heading (before ++ f ∷ fs))) (length before + 1 + 1) (map heading fs) ≡ Ok fs =
    sym (ap₂ (λ (all : List Field) (n : ℕ). each_ok (column_at (map heading all)) n (map heading fs)) whole place)
    ∙ from_column (before ++ f ∷ []) fs (ap names_differ whole ∙ differ) named.1 in
    rw (first, rest) refl

pub columns_back : (fs : List Field) → names_differ fs ≡ true → AreNamed fs → columns_of (map heading fs) ≡ Ok fs
unfolding columns_of
columns_back fs differ named = from_column [] fs differ named

-- ---- a heading is text

type_utf8 : (k : ColType) → IsUtf8 (58 ∷ type_name k)
unfolding encode
type_utf8 kind.Int = (codes ":int", (refl, refl))
type_utf8 kind.Dec = (codes ":dec", (refl, refl))
type_utf8 kind.Chr = (codes ":chr", (refl, refl))
type_utf8 kind.Date = (codes ":date", (refl, refl))
type_utf8 kind.Lgl = (codes ":lgl", (refl, refl))

pub heading_utf8 : (f : Field) → IsUtf8 f.name → IsUtf8 (heading f)
heading_utf8 f h = subst (λ (t : List ℕ). IsUtf8 t) (sym (spelled f)) (IsUtf8-append f.name (58 ∷ type_name f.kind) h (type_utf8 f.kind))
