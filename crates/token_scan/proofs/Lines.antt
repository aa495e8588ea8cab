-- Where the last line of a text begins.
use Rattle.std.proofs.Common.{◌≡◌, ℕ, ◌+◌, ◌-◌, ◌<◌, ◌≤◌, Bool, true, false, not, leb, refl, reverse, List, length, get_or, arith, sym, ◌∙◌, ap, subst}
use Rattle.std.specs.List.{suffix_len, prefix_len}
use Rattle.std.specs.Str.{IsUtf8, IsCharBoundary}
use Rattle.std.proofs.lemmas.Bool.Decides.{nat_tests}
use Rattle.std.proofs.lemmas.List.Sums.{prefix_len_stops}
use Rattle.std.proofs.lemmas.List.{get_or-reverse, length-reverse}
use Rattle.std.proofs.lemmas.Str.{IsCharBoundary-after_ascii, IsCharBoundary-start}
use Rattle.token_scan.specs.Places.{is_line_feed}

-- the last line feed
feed-is : (b : ℕ) → not (is_line_feed b) ≡ false → b ≡ 10
feed-is b h = grind (arith, nat_tests)

feed-there : (text : List ℕ) (n : ℕ) → n ≡ suffix_len (λ b. not (is_line_feed b)) text → n < length text → get_or text (length text - 1 - n) 0 ≡ 10
feed-there text n e lt =
    let short : prefix_len (λ b. not (is_line_feed b)) (reverse text) < length (reverse text) = omega (arith, e, lt, length-reverse text) in
    let stop = prefix_len_stops (λ b. not (is_line_feed b)) (reverse text) 0 short in
    let there = rw (← e, get_or-reverse text n 0 lt) at stop in
    feed-is _ there

-- the text may be cut behind its last line feed
line-boundary_at : (text : List ℕ) (v : Bool) → leb (length text) (suffix_len (λ b. not (is_line_feed b)) text) ≡ v → IsUtf8 text → IsCharBoundary text (length text - suffix_len (λ b. not (is_line_feed b)) text)
line-boundary_at text true h u =
    let past : length text ≤ suffix_len (λ b. not (is_line_feed b)) text = grind (arith, nat_tests) in
    let e : 0 ≡ length text - suffix_len (λ b. not (is_line_feed b)) text = omega arith in
    let F : ℕ → Type 0 = IsCharBoundary text in subst F e (IsCharBoundary-start text u)
line-boundary_at text false h u =
    let n = suffix_len (λ b. not (is_line_feed b)) text in
    let lt : n < length text = grind (arith, nat_tests) in
    let feed = feed-there text n refl lt in
    let within : length text - 1 - n < length text = omega arith in
    let e : length text - 1 - n + 1 ≡ length text - n = omega arith in
    let F : ℕ → Type 0 = IsCharBoundary text in
    subst F e (IsCharBoundary-after_ascii text (length text - 1 - n) u within (omega arith))

line-boundary : (text : List ℕ) → IsUtf8 text → IsCharBoundary text (length text - suffix_len (λ b. not (is_line_feed b)) text)
line-boundary text u = let n = suffix_len (λ b. not (is_line_feed b)) text in line-boundary_at text (leb (length text) n) refl u

pub line-cut : (n : ℕ) (bytes text : List ℕ) → IsUtf8 text → n ≡ suffix_len (λ b. not (is_line_feed b)) bytes → bytes ≡ text → IsCharBoundary text (length text - n)
line-cut n bytes text u e same =
    let F : ℕ → Type 0 = λ (m : ℕ). IsCharBoundary text (length text - m) in
    subst F (sym (e ∙ ap (suffix_len (λ b. not (is_line_feed b))) same)) (line-boundary text u)
