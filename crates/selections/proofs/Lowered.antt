-- Names and texts without regard to case: their fronts, their ends, and where a text stands in a name.
use Rattle.std.proofs.Common.{ℕ, suc, ◌+◌, ◌-◌, ◌<◌, ◌≡◌, Bool, false, ◌||◌, nat_eq, List, ◌∷◌, length, get_or, take, drop, sym, ap, ◌∙◌, arith, drop-cons, Decides}
use Rattle.std.specs.List.{starts_with, ends_with}
use Rattle.std.specs.Char.{to_ascii_lowercase}
use Rattle.std.specs.Str.{bytes_eq}
use Rattle.std.proofs.lemmas.List.{length-map, length-drop, take-map, take_all, drop-map}
use Rattle.std.proofs.lemmas.Slice.Eq.{bytes_eq-Decides}
use Rattle.std.proofs.lemmas.Bool.Decides.{same_from_decides}
use Rattle.selections.specs.Columns.{lowered, contains_text}

-- a test that tells whether two texts are equal is their comparison
same_test : (xs ys : List ℕ) (r : Bool) → Decides r (ys ≡ xs) → r ≡ bytes_eq xs ys
same_test xs ys r h = same_from_decides r (bytes_eq xs ys) (λ e. sym (h.0 e), λ e. h.1 (sym e)) (bytes_eq-Decides xs ys)

pub begins : (name text : List ℕ) (r : Bool) → Decides r (lowered (take (length text) name) ≡ lowered text) → r ≡ starts_with nat_eq (lowered name) (lowered text)
begins name text r h =
    let front : take (length (lowered text)) (lowered name) ≡ lowered (take (length text) name) = ap (λ n. take n (lowered name)) (length-map text to_ascii_lowercase) ∙ take-map to_ascii_lowercase (length text) name in
    same_test (lowered text) (lowered (take (length text) name)) r h ∙ ap (λ l. bytes_eq (lowered text) l) (sym front)

pub closes : (name text part : List ℕ) (r : Bool) → part ≡ drop (length name - length text) name → Decides r (lowered part ≡ lowered text) → r ≡ ends_with nat_eq (lowered name) (lowered text)
closes name text part r is h =
    let skipped : length (lowered name) - length (lowered text) ≡ length name - length text = ap (λ n. n - length (lowered text)) (length-map name to_ascii_lowercase) ∙ ap (λ n. length name - n) (length-map text to_ascii_lowercase) in
    let end : drop (length (lowered name) - length (lowered text)) (lowered name) ≡ lowered (drop (length name - length text) name) = ap (λ n. drop n (lowered name)) skipped ∙ drop-map to_ascii_lowercase (length name - length text) name in
    same_test (lowered text) (lowered part) r h ∙ ap (λ l. bytes_eq (lowered text) (lowered l)) is ∙ ap (λ l. bytes_eq (lowered text) l) (sym end)

-- all that is behind some bytes
pub all_behind : (n : ℕ) (xs : List ℕ) → take (length xs - n) (drop n xs) ≡ drop n xs
all_behind n xs = take_all (length xs - n) (drop n xs) (omega (arith, length-drop n xs))

-- a text that does not stand at the front of a name stands in what is behind its first byte, or nowhere
pub not_here : (text name part : List ℕ) (i : ℕ) → i < length name → part ≡ drop i name → starts_with nat_eq (lowered part) (lowered text) ≡ false → contains_text (lowered text) (lowered (drop i name)) ≡ contains_text (lowered text) (lowered (drop (i + 1) name))
not_here text name part i h is fails =
    let split : drop i name ≡ get_or name i 0 ∷ drop (suc i) name = drop-cons name i 0 h in
    let one : suc i ≡ i + 1 = omega arith in
    let none : starts_with nat_eq (lowered (get_or name i 0 ∷ drop (suc i) name)) (lowered text) ≡ false = ap (λ l. starts_with nat_eq (lowered l) (lowered text)) (sym split) ∙ ap (λ l. starts_with nat_eq (lowered l) (lowered text)) (sym is) ∙ fails in
    ap (λ l. contains_text (lowered text) (lowered l)) split ∙ ap (λ b. b || contains_text (lowered text) (lowered (drop (suc i) name))) none ∙ ap (λ n. contains_text (lowered text) (lowered (drop n name))) one
