-- The first code points of a text are a front of its bytes.
use Rattle.std.proofs.Common.{ℕ, zero, suc, ◌+◌, ◌-◌, Bool, true, false, if◌then◌else◌, ◌≡◌, refl, ap, ap₂, ◌∙◌, List, [], ◌∷◌, length, take, drop, ℤ}
use Rattle.scalar_fns.specs.Texts.{begins_char, first_chars, without_chars, place_from, place_to, part_of_text}

-- the first code points are the front of that length
none_or_more : (b : Bool) (byte : ℕ) (x text : List ℕ) → take (length x) text ≡ x → take (length (if b then [] else byte ∷ x)) (byte ∷ text) ≡ (if b then [] else byte ∷ x)
none_or_more true byte x text h = refl
none_or_more false byte x text h = ap (λ (l : List ℕ). byte ∷ l) h

one_or_same : (b : Bool) (byte : ℕ) (x y text : List ℕ) → take (length x) text ≡ x → take (length y) text ≡ y → take (length (if b then byte ∷ x else byte ∷ y)) (byte ∷ text) ≡ (if b then byte ∷ x else byte ∷ y)
one_or_same true byte x y text h k = ap (λ (l : List ℕ). byte ∷ l) h
one_or_same false byte x y text h k = ap (λ (l : List ℕ). byte ∷ l) k

pub is_front : (n : ℕ) (text : List ℕ) → take (length (first_chars n text)) text ≡ first_chars n text
is_front n [] = refl
is_front zero (byte ∷ text) = none_or_more (begins_char byte) byte (first_chars zero text) text (is_front zero text)
is_front (suc n) (byte ∷ text) = one_or_same (begins_char byte) byte (first_chars n text) (first_chars (suc n) text) text (is_front n text) (is_front (suc n) text)

-- the part that is cut off at two places
pub is_part : (text rest part : List ℕ) (from to : ℤ) (first last skipped count taken : ℕ) → first ≡ place_from from → last ≡ place_to to → skipped ≡ length (first_chars (first - 1) text) → rest ≡ drop skipped text → count ≡ last + 1 - first → taken ≡ length (first_chars count rest) → part ≡ take taken rest → part ≡ part_of_text text from to
unfolding part_of_text
is_part text rest part from to first last skipped count taken f l s r n t p =
    p ∙ ap (λ (k : ℕ). take k rest) t ∙ is_front count rest ∙ ap₂ first_chars n (r ∙ ap (λ (k : ℕ). drop k text) s)
    ∙ ap₂ (λ (i j : ℕ). first_chars (j + 1 - i) (without_chars (i - 1) text)) f l
