-- The columns of a header, one after another.
use Rattle.std.proofs.Common.{◌≡◌, ℕ, ◌+◌, ◌-◌, Bool, true, false, ◌&&◌, ◌||◌, not, List, [], ◌∷◌, ◌++◌, length, map, take, drop, refl, sym, ap, ◌∙◌, Option, Some, None, Ok, Err, if◌then◌else◌, arith, ap₂, ◌==◌, ◌<◌, ◌≤◌, length-take, length-drop}
use Rattle.std.proofs.lemmas.List.{map-append, take_all}
use Rattle.std.proofs.lemmas.Bool.Decides.{nat_tests}
use Rattle.std.specs.List.{after_last, suffix_len}
use Rattle.std.specs.Option.{option_map}
use Rattle.std.specs.Str.{bytes_eq}
use Rattle.std.specs.Cmp.Lexicographic.{bytes_decides}
use Rattle.row_table.specs.declared.field.Field.{Field}
use Rattle.row_table.specs.Tables.{among_texts, has_name, names_differ}
use Rattle.scalar_value.specs.declared.value.ColType.{ColType}
use Rattle.csv_source.specs.Fields.{column_of_text, name_of_text, type_of_text, is_colon}
use Rattle.csv_source.specs.Typed.{column_at, fault_at}
use Rattle.csv_source.specs.declared.fault.TableKind.TheVariants as fault

-- ---- a column more, of another name

or-false : (a b : Bool) → (a || b) ≡ false → (a ≡ false) × (b ≡ false)
or-false true b h = cc h
or-false false b h = (refl, h)

flip : (a b : List ℕ) → bytes_eq a b ≡ false → (r : Bool) → bytes_eq b a ≡ r → r ≡ false
flip a b h true e = let same = (bytes_decides b a).0 e in absurd (let clash : true ≡ false = sym ((bytes_decides a b).1 (sym same)) ∙ h in cc clash)
flip a b h false e = refl

has_name-push : (name : List ℕ) (fs : List Field) (f : Field) → has_name name fs ≡ false → bytes_eq f.name name ≡ false → has_name name (fs ++ f ∷ []) ≡ false
has_name-push name [] f n d = ap (λ b. b || false) d
has_name-push name (g ∷ gs) f n d =
    let p = or-false (bytes_eq g.name name) (has_name name gs) n in
    ap (λ b. b || has_name name (gs ++ f ∷ [])) p.0 ∙ has_name-push name gs f p.1 d

not-true : (b : Bool) → not b ≡ true → b ≡ false
not-true true h = cc h
not-true false h = refl

both : (a b : Bool) → (a && b) ≡ true → (a ≡ true) × (b ≡ true)
both true b h = (refl, h)
both false b h = cc h

pub differ-push : (fs : List Field) (f : Field) → names_differ fs ≡ true → among_texts f.name (map (λ (g : Field). g.name) fs) ≡ false → names_differ (fs ++ f ∷ []) ≡ true
differ-push [] f h n = refl
differ-push (g ∷ gs) f h n =
    let p = both (not (has_name g.name gs)) (names_differ gs) h in
    let q = or-false (bytes_eq g.name f.name) (among_texts f.name (map (λ (k : Field). k.name) gs)) n in
    let none = has_name-push g.name gs f (not-true (has_name g.name gs) p.0) (flip g.name f.name q.0 (bytes_eq f.name g.name) refl) in
    ap (λ b. not b && names_differ (gs ++ f ∷ [])) none ∙ differ-push gs f p.1 q.1

-- ---- the column of a field

kind_given : (o : Option ColType) (name : List ℕ) (f : Field) → option_map (λ k. record { name = name; kind = k }) o ≡ Some f → f.name ≡ name
kind_given None name f h = cc h
kind_given (Some k) name f h = let e : record { name = name; kind = k } ≡ f = cc in sym (ap (λ (g : Field). g.name) e)

name_by : (b : Bool) (o : Option ColType) (name : List ℕ) (f : Field) → (if b then None else option_map (λ k. record { name = name; kind = k }) o) ≡ Some f → f.name ≡ name
name_by true o name f h = cc h
name_by false o name f h = kind_given o name f h

pub name-column : (text : List ℕ) (f : Field) → column_of_text text ≡ Some f → f.name ≡ name_of_text text
unfolding column_of_text
name-column text f h = name_by (length (name_of_text text) == 0) (type_of_text (after_last is_colon text)) (name_of_text text) f h

before : (i : ℕ) (header : List (List ℕ)) → take (i + 1 - 1) header ≡ take i header
before i header = let e : i + 1 - 1 ≡ i = omega arith in ap (λ k. take k header) e

pub column_there : (header : List (List ℕ)) (i : ℕ) (text : List ℕ) (f : Field) (names : List (List ℕ)) → column_of_text text ≡ Some f
    → names ≡ map name_of_text (take i header) → among_texts f.name names ≡ false → column_at header (i + 1) text ≡ Ok f
unfolding column_at
column_there header i text f names h e n =
    let other : among_texts f.name (map name_of_text (take (i + 1 - 1) header)) ≡ false = ap (λ t. among_texts f.name (map name_of_text t)) (before i header) ∙ ap (among_texts f.name) (sym e) ∙ n in
    rw h (ap (λ b. if b then Err (fault_at fault.NameTwice 0 (i + 1)) else Ok f) other)

pub column_twice : (header : List (List ℕ)) (i : ℕ) (text : List ℕ) (f : Field) (names : List (List ℕ)) → column_of_text text ≡ Some f
    → names ≡ map name_of_text (take i header) → among_texts f.name names ≡ true → column_at header (i + 1) text ≡ Err (fault_at fault.NameTwice 0 (i + 1))
unfolding column_at
column_twice header i text f names h e n =
    let other : among_texts f.name (map name_of_text (take (i + 1 - 1) header)) ≡ true = ap (λ t. among_texts f.name (map name_of_text t)) (before i header) ∙ ap (among_texts f.name) (sym e) ∙ n in
    rw h (ap (λ b. if b then Err (fault_at fault.NameTwice 0 (i + 1)) else Ok f) other)

pub column_none : (header : List (List ℕ)) (k : ℕ) (text : List ℕ) → column_of_text text ≡ None → column_at header k text ≡ Err (fault_at fault.HeaderType 0 k)
unfolding column_at
column_none header k text h = rw h refl

pub name-push : (header : List (List ℕ)) (columns : List Field) (f : Field) (i : ℕ) (text : List ℕ) → map (λ (g : Field). g.name) columns ≡ map name_of_text (take i header)
    → f.name ≡ name_of_text text → take (i + 1) header ≡ take i header ++ text ∷ [] → map (λ (g : Field). g.name) (columns ++ f ∷ []) ≡ map name_of_text (take (i + 1) header)
name-push header columns f i text h n t =
    map-append (λ (g : Field). g.name) columns (f ∷ []) ∙ ap₂ (λ xs x. xs ++ x ∷ []) h n ∙ sym (map-append name_of_text (take i header) (text ∷ [])) ∙ ap (map name_of_text) (sym t)

-- ---- the parts of a field

-- where what stands behind the last colon begins
abbrev pub colon_end : List ℕ → ℕ
colon_end text = length text - suffix_len (λ byte. not (is_colon byte)) text

short_name : (text : List ℕ) (n : ℕ) → n < 2 → (length (take (n - 1) text) == 0) ≡ true
short_name text n h = let none : n - 1 ≡ 0 = omega arith in rw none refl

pub column_short : (text : List ℕ) (n : ℕ) → n ≡ colon_end text → n < 2 → None ≡ column_of_text text
unfolding column_of_text
column_short text n e h =
    let short : (length (name_of_text text) == 0) ≡ true = ap (λ k. length (take (k - 1) text) == 0) (sym e) ∙ short_name text n h in
    sym (ap (λ b. if b then None else option_map (λ k. record { name = name_of_text text; kind = k }) (type_of_text (after_last is_colon text))) short)

behind_end : (text : List ℕ) (n : ℕ) → take (length text - n) (drop n text) ≡ drop n text
behind_end text n = take_all (length text - n) (drop n text) (omega (arith, length-drop n text))

long_name : (text : List ℕ) (n : ℕ) → 2 ≤ n → n ≤ length text → (length (take (n - 1) text) == 0) ≡ false
long_name text n low high = let some : length (take (n - 1) text) ≡ n - 1 = omega (arith, length-take (n - 1) text) in rw some (grind (arith, nat_tests))

pub column_parts : (text : List ℕ) (n : ℕ) (o : Option ColType) → n ≡ colon_end text → 2 ≤ n → n ≤ length text → o ≡ type_of_text (take (length text - n) (drop n text))
    → option_map (λ k. record { name = take (n - 1) text; kind = k }) o ≡ column_of_text text
unfolding column_of_text
column_parts text n o e low high t =
    let some : (length (name_of_text text) == 0) ≡ false = ap (λ k. length (take (k - 1) text) == 0) (sym e) ∙ long_name text n low high in
    let kind : o ≡ type_of_text (after_last is_colon text) = t ∙ ap type_of_text (behind_end text n) ∙ ap (λ k. type_of_text (drop k text)) e in
    ap₂ (λ k r. option_map (λ z. record { name = take (k - 1) text; kind = z }) r) e kind
    ∙ sym (ap (λ b. if b then None else option_map (λ k. record { name = name_of_text text; kind = k }) (type_of_text (after_last is_colon text))) some)
