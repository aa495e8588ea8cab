-- Keys that are compared column by column.
use Rattle.std.proofs.Common.{◌≡◌, ℕ, ◌<◌, ◌+◌, add-one, Bool, true, false, ◌&&◌, ◌||◌, not, List, ◌∷◌, drop, length, get_or, Option, Some, None, refl, sym, ◌∙◌, ap, ap₂, slice_get, unwrap_or, drop-cons}
use Rattle.std.specs.Prelude.{slice_index_or}
use Rattle.std.specs.List.{list_any}
use Rattle.std.proofs.lemmas.Option.{unwrap_or-slice_get}
use Rattle.scalar_value.specs.declared.value.Value.{Value}
use Rattle.scalar_value.specs.declared.value.Value.TheVariants as value
use Rattle.scalar_value.specs.Order.{value_same}
use Rattle.row_table.specs.Keys.{is_missing, key_of, keys_match}
use Rattle.row_table.specs.SameTables.{row_same}
use Rattle.hash_join.specs.Matches.{found_match}

abbrev values_match : Bool → Value → Value → Bool
values_match na v w = value_same v w && (na || not (is_missing v))

missing-second : (na : Bool) (v : Value) → na && is_missing v ≡ values_match na v value.Missing
missing-second true value.Missing = refl
missing-second false value.Missing = refl
missing-second true (value.Int z) = refl
missing-second false (value.Int z) = refl
missing-second true (value.Dec m) = refl
missing-second false (value.Dec m) = refl
missing-second true (value.Chr t) = refl
missing-second false (value.Chr t) = refl
missing-second true (value.Day d) = refl
missing-second false (value.Day d) = refl
missing-second true (value.Lgl b) = refl
missing-second false (value.Lgl b) = refl

missing-first : (na : Bool) (w : Value) → na && is_missing w ≡ values_match na value.Missing w
missing-first true value.Missing = refl
missing-first false value.Missing = refl
missing-first true (value.Int z) = refl
missing-first false (value.Int z) = refl
missing-first true (value.Dec m) = refl
missing-first false (value.Dec m) = refl
missing-first true (value.Chr t) = refl
missing-first false (value.Chr t) = refl
missing-first true (value.Day d) = refl
missing-first false (value.Day d) = refl
missing-first true (value.Lgl b) = refl
missing-first false (value.Lgl b) = refl

missing-both : (na : Bool) → na ≡ values_match na value.Missing value.Missing
missing-both true = refl
missing-both false = refl

found-values : (na : Bool) (o p : Option Value) → found_match na o p ≡ values_match na (unwrap_or o value.Missing) (unwrap_or p value.Missing)
found-values na None None = missing-both na
found-values na None (Some w) = missing-first na w
found-values na (Some v) None = missing-second na v
found-values na (Some v) (Some w) = refl

abbrev at : List Value → ℕ → Value
at row column = slice_index_or row column value.Missing

-- one pair of columns, and then the others
one-more : (s r na m l : Bool) → (s && r) && (na || not (m || l)) ≡ (s && (na || not m)) && (r && (na || not l))
one-more false r na m l = refl
one-more true false true m l = refl
one-more true false false true l = refl
one-more true false false false l = refl
one-more true true true m l = refl
one-more true true false true l = refl
one-more true true false false l = refl

keys-cons : (na : Bool) (v w : Value) (vs ws : List Value) → keys_match na (v ∷ vs) (w ∷ ws) ≡ values_match na v w && keys_match na vs ws
keys-cons na v w vs ws = one-more (value_same v w) (row_same vs ws) na (is_missing v) (list_any is_missing vs)

abbrev rest_match : Bool → List ℕ → List ℕ → List Value → List Value → ℕ → Bool
rest_match na ls rs x y k = keys_match na (key_of (drop k ls) x) (key_of (drop k rs) y)

-- the columns at place k, and then those behind it
keys-at : (na : Bool) (ls rs : List ℕ) (x y : List Value) (k : ℕ) → k < length ls → k < length rs
    → rest_match na ls rs x y k ≡ found_match na (slice_get x (get_or ls k 0)) (slice_get y (get_or rs k 0)) && rest_match na ls rs x y (k + 1)
keys-at na ls rs x y k p q =
    let l = get_or ls k 0 in
    let r = get_or rs k 0 in
    let first : rest_match na ls rs x y k ≡ keys_match na (key_of (l ∷ drop (k + 1) ls) x) (key_of (r ∷ drop (k + 1) rs) y) =
    rw add-one (ap₂ (λ (cs ds : List ℕ). keys_match na (key_of cs x) (key_of ds y)) (drop-cons ls k 0 p) (drop-cons rs k 0 q)) in
    let found : found_match na (slice_get x l) (slice_get y r) ≡ values_match na (at x l) (at y r) =
    found-values na (slice_get x l) (slice_get y r) ∙ ap₂ (values_match na) (unwrap_or-slice_get x l value.Missing) (unwrap_or-slice_get y r value.Missing) in
    first
    ∙ keys-cons na (at x l) (at y r) (key_of (drop (k + 1) ls) x) (key_of (drop (k + 1) rs) y)
    ∙ sym (ap (λ b. b && rest_match na ls rs x y (k + 1)) found)

abbrev all_match : Bool → List ℕ → List ℕ → List Value → List Value → Bool
all_match na ls rs x y = keys_match na (key_of ls x) (key_of rs y)

-- columns that don't match decide, and behind those that match the others do
pub keys-differ : (na : Bool) (ls rs : List ℕ) (x y : List Value) (k : ℕ) (r : Bool) → k < length ls → k < length rs → all_match na ls rs x y ≡ rest_match na ls rs x y k
    → r ≡ found_match na (slice_get x (get_or ls k 0)) (slice_get y (get_or rs k 0)) → r ≡ false → all_match na ls rs x y ≡ false
keys-differ na ls rs x y k r p q so-far is wrong =
    so-far ∙ keys-at na ls rs x y k p q ∙ ap (λ b. b && rest_match na ls rs x y (k + 1)) (sym is ∙ wrong)

pub keys-go-on : (na : Bool) (ls rs : List ℕ) (x y : List Value) (k : ℕ) (r : Bool) → k < length ls → k < length rs → all_match na ls rs x y ≡ rest_match na ls rs x y k
    → r ≡ found_match na (slice_get x (get_or ls k 0)) (slice_get y (get_or rs k 0)) → r ≡ true → all_match na ls rs x y ≡ rest_match na ls rs x y (k + 1)
keys-go-on na ls rs x y k r p q so-far is right =
    so-far ∙ keys-at na ls rs x y k p q ∙ ap (λ b. b && rest_match na ls rs x y (k + 1)) (sym is ∙ right)
