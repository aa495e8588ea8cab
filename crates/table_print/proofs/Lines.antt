-- One more line, cell or name.
use Rattle.std.proofs.Common.{◌≡◌, ℕ, ◌+◌, ◌<◌, ◌++◌, List, [], ◌∷◌, length, get_or, map, take, drop, Some, refl, sym, ◌∙◌, ap, ap₂, arith, add-one, append_assoc, drop-cons}
use Rattle.std.specs.List.{flat_map}
use Rattle.std.proofs.lemmas.List.{take_more, append-nil}
use Rattle.std.proofs.lemmas.Grind.{flat_map-append}
use Rattle.table_print.specs.declared.column.Column.{Column}
use Rattle.table_print.specs.Aligned.{gap_at, padded, cells_from, comma_at, names_from}

pub flat-more : {A B : Type 0} (f : A → List B) (xs : List A) (i : ℕ) (d : A) → i < length xs → flat_map f (take (i + 1) xs) ≡ flat_map f (take i xs) ++ f (get_or xs i d)
flat-more f xs i d l =
    ap (flat_map f) (take_more xs i d l) ∙ flat_map-append f (take i xs) (get_or xs i d ∷ []) ∙ ap (λ t. flat_map f (take i xs) ++ t) (append-nil (f (get_or xs i d)))

flat-mapped : {A C B : Type 0} (f : C → List B) (g : A → C) (ys : List A) (y : A) → flat_map f (map g (ys ++ y ∷ [])) ≡ flat_map f (map g ys) ++ f (g y)
flat-mapped f g [] y = append-nil (f (g y))
flat-mapped f g (x ∷ ys) y = ap (λ t. f (g x) ++ t) (flat-mapped f g ys y) ∙ sym (append_assoc (f (g x)) (flat_map f (map g ys)) (f (g y)))

pub map-flat-more : {A C B : Type 0} (f : C → List B) (g : A → C) (xs : List A) (i : ℕ) (d : A) → i < length xs → flat_map f (map g (take (i + 1) xs)) ≡ flat_map f (map g (take i xs)) ++ f (g (get_or xs i d))
map-flat-more f g xs i d l = ap (λ ys. flat_map f (map g ys)) (take_more xs i d l) ∙ flat-mapped f g (take i xs) (get_or xs i d)

-- the cells from this place on begin with that of this place
pub cells-next : (k : ℕ) (columns : List Column) (texts : List (List ℕ)) (c : Column) → k < length columns → length columns ≡ length texts
    → cells_from k (drop k columns) (drop k texts) ≡ gap_at k ++ padded (get_or columns k c) (get_or texts k []) ++ cells_from (k + 1) (drop (k + 1) columns) (drop (k + 1) texts)
cells-next k columns texts c l same =
    let m : k < length texts = omega arith in
    rw (drop-cons columns k c l, drop-cons texts k [] m, add-one k) refl

pub names-next : (k : ℕ) (names : List (List ℕ)) → k < length names
    → names_from k (drop k names) ≡ comma_at k ++ get_or names k [] ++ names_from (k + 1) (drop (k + 1) names)
names-next k names l = rw (drop-cons names k [] l, add-one k) refl

pub some-same : (x y : List ℕ) → Some x ≡ Some y → x ≡ y
some-same x y e = cc

-- known bytes that grow by a line
pub grown : (before after text row line : List ℕ) → after ≡ before ++ row → Some before ≡ Some text → row ≡ line → Some after ≡ Some (text ++ line)
grown before after text row line e held same = ap Some (e ∙ ap₂ (λ (a b : List ℕ). a ++ b) (some-same before text held) same)

-- one more cell, behind its gap
pub line-step : (k : ℕ) (columns : List Column) (texts : List (List ℕ)) (d : Column) (text before mid after total : List ℕ) → k < length columns → length columns ≡ length texts
    → text ≡ get_or texts k [] → before ++ cells_from k (drop k columns) (drop k texts) ≡ total → mid ≡ before ++ gap_at k → after ≡ mid ++ padded (get_or columns k d) text
    → after ++ cells_from (k + 1) (drop (k + 1) columns) (drop (k + 1) texts) ≡ total
line-step k columns texts d text before mid after total l same at held m a =
    let cell = padded (get_or columns k d) (get_or texts k []) in
    let rest = cells_from (k + 1) (drop (k + 1) columns) (drop (k + 1) texts) in
    let whole : after ≡ (before ++ gap_at k) ++ cell = a ∙ ap (λ t. mid ++ padded (get_or columns k d) t) at ∙ ap (λ t. t ++ cell) m in
    ap (λ t. t ++ rest) whole ∙ ap (λ t. t ++ rest) (append_assoc before (gap_at k) cell) ∙ append_assoc before (gap_at k ++ cell) rest
    ∙ ap (λ t. before ++ t) (sym (cells-next k columns texts d l same)) ∙ held
