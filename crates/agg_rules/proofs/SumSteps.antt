-- A sum of values that are added one after the other.
use Rattle.std.proofs.Common.{ℕ, unsigned_abs, FitsSigned, ◌*◌, ◌≤◌, ◌^◌, nat_lt, ◌+◌, ◌<◌, ◌≡◌, refl, sym, ap, ap₂, ◌∙◌, ℤ, pos, ◌+ℤ◌, List, [], ◌∷◌, ◌++◌, length, get_or, take, map, filter, arith, cond, Bool, true, false, not, append-nil, length-append}
use Rattle.std.proofs.lemmas.Int.{ints}
use Rattle.std.specs.Int.{w64, w128}
use Rattle.std.proofs.lemmas.List.{map-append}
use Rattle.std.proofs.lemmas.List.Elements.{filter_more}
use Rattle.scalar_value.specs.declared.value.Value.{Value}
use Rattle.scalar_value.specs.Truths.{is_missing, is_there}
use Rattle.scalar_value.specs.declared.value.Value.TheVariants.{Missing}
use Rattle.scalar_value.specs.declared.value.ColType.{ColType}
use Rattle.std.specs.List.{list_any}
use Rattle.agg_rules.specs.Lists.{summed_number, sum_of}
use Rattle.agg_rules.specs.Aggregates.{looked_at, as_sum, as_mean, sum_value, mean_value}
use Rattle.agg_rules.proofs.MissingSteps.{seen_are_there}

regroup : (x y z : ℤ) → x +ℤ (y +ℤ z) ≡ (x +ℤ y) +ℤ z
regroup x y z = omega (arith, ints)

unit : (x : ℤ) → x ≡ pos 0 +ℤ x
unit x = omega (arith, ints)

no_more : (x : ℤ) → x +ℤ pos 0 ≡ x
no_more x = omega (arith, ints)

sum_of-append : (xs ys : List ℤ) → sum_of (xs ++ ys) ≡ sum_of xs +ℤ sum_of ys
sum_of-append [] ys = unit (sum_of ys)
sum_of-append (x ∷ xs) ys = ap (λ (z : ℤ). x +ℤ z) (sum_of-append xs ys) ∙ regroup x (sum_of xs) (sum_of ys)

abbrev pub there_before : List Value → ℕ → List Value
there_before vs i = filter is_there (take i vs)

more : (vs : List Value) (i : ℕ) (v : Value) → i < length vs → v ≡ get_or vs i v → there_before vs (i + 1) ≡ there_before vs i ++ cond (is_there v) (v ∷ []) []
more vs i v h is = filter_more is_there vs i v h ∙ ap (λ (w : Value). there_before vs i ++ cond (is_there w) (w ∷ []) []) (sym is)

-- one more value, which is there or is passed over
pub with_one : (vs : List Value) (i : ℕ) (v : Value) → i < length vs → v ≡ get_or vs i v → is_missing v ≡ false → there_before vs (i + 1) ≡ there_before vs i ++ v ∷ []
with_one vs i v h is there = more vs i v h is ∙ ap (λ (b : Bool). there_before vs i ++ cond (not b) (v ∷ []) []) there

pub passed_over : (vs : List Value) (i : ℕ) (v : Value) → i < length vs → v ≡ get_or vs i v → is_missing v ≡ true → there_before vs (i + 1) ≡ there_before vs i
passed_over vs i v h is there = more vs i v h is ∙ ap (λ (b : Bool). there_before vs i ++ cond (not b) (v ∷ []) []) there ∙ append-nil (there_before vs i)

abbrev pub sum_before : List Value → ℕ → ℤ
sum_before vs i = sum_of (map summed_number (there_before vs i))

pub sum_with_one : (vs : List Value) (i : ℕ) (v : Value) → i < length vs → v ≡ get_or vs i v → is_missing v ≡ false → sum_before vs (i + 1) ≡ sum_before vs i +ℤ summed_number v
sum_with_one vs i v h is there =
    ap (λ (l : List Value). sum_of (map summed_number l)) (with_one vs i v h is there) ∙ ap sum_of (map-append summed_number (there_before vs i) (v ∷ []))
    ∙ sum_of-append (map summed_number (there_before vs i)) (summed_number v ∷ []) ∙ ap (λ (z : ℤ). sum_before vs i +ℤ z) (no_more (summed_number v))

pub count_with_one : (vs : List Value) (i : ℕ) (v : Value) → i < length vs → v ≡ get_or vs i v → is_missing v ≡ false → length (there_before vs (i + 1)) ≡ length (there_before vs i) + 1
count_with_one vs i v h is there = ap length (with_one vs i v h is there) ∙ length-append (there_before vs i) (v ∷ [])

-- ---- the sum and the mean of a list of values by their number and their sum

pub sum_spoilt : (t : ColType) (vs : List Value) → list_any is_missing vs ≡ true → Missing ≡ sum_value t vs
unfolding sum_value
sum_spoilt t vs h = rw h refl

sum_whole : (t : ColType) (vs : List Value) (sum : ℤ) (count : ℕ) → list_any is_missing vs ≡ false → sum ≡ sum_of (map summed_number vs) → count ≡ length vs → count < 2 ^ 64 → as_sum t sum ≡ sum_value t vs
unfolding sum_value
sum_whole t vs sum count h s n fits =
    let few : nat_lt (length vs) (2 ^ 64) ≡ true = grind arith in rw (h, few) (ap (as_sum t) s)

pub sum_is : (t : ColType) (na_rm : Bool) (vs : List Value) (sum : ℤ) (count : ℕ) → list_any is_missing (looked_at na_rm vs) ≡ false → sum ≡ sum_of (map summed_number (filter is_there vs)) → count ≡ length (filter is_there vs) → count < 2 ^ 64 → as_sum t sum ≡ sum_value t (looked_at na_rm vs)
sum_is t na_rm vs sum count h s n fits =
    let same = seen_are_there na_rm vs h in
    sum_whole t (looked_at na_rm vs) sum count h (s ∙ ap (λ (l : List Value). sum_of (map summed_number l)) same) (n ∙ ap length same) fits

pub mean_spoilt : (t : ColType) (vs : List Value) → list_any is_missing vs ≡ true → Missing ≡ mean_value t vs
unfolding mean_value
mean_spoilt t [] h = refl
mean_spoilt t (v ∷ vs) h = rw h refl

mean_whole : (t : ColType) (vs : List Value) (sum : ℤ) (count : ℕ) → list_any is_missing vs ≡ false → sum ≡ sum_of (map summed_number vs) → count ≡ length vs → count < 2 ^ 64 → 0 < count → as_mean t sum count ≡ mean_value t vs
unfolding mean_value
mean_whole t [] sum count h s n fits some = absurd (omega arith)
mean_whole t (v ∷ vs) sum count h s n fits some =
    let few : nat_lt (length (v ∷ vs)) (2 ^ 64) ≡ true = test (length (v ∷ vs)) count n fits in rw (h, few) (ap₂ (as_mean t) s n) where
      test : (k count : ℕ) → count ≡ k → count < 2 ^ 64 → nat_lt k (2 ^ 64) ≡ true
      test k count n fits = grind arith

pub mean_is : (t : ColType) (na_rm : Bool) (vs : List Value) (sum : ℤ) (count : ℕ) → list_any is_missing (looked_at na_rm vs) ≡ false → sum ≡ sum_of (map summed_number (filter is_there vs)) → count ≡ length (filter is_there vs) → count < 2 ^ 64 → 0 < count → as_mean t sum count ≡ mean_value t (looked_at na_rm vs)
mean_is t na_rm vs sum count h s n fits some =
    let same = seen_are_there na_rm vs h in
    mean_whole t (looked_at na_rm vs) sum count h (s ∙ ap (λ (l : List Value). sum_of (map summed_number l)) same) (n ∙ ap length same) fits some

mean_empty : (t : ColType) (vs : List Value) → 0 ≡ length vs → Missing ≡ mean_value t vs
unfolding mean_value
mean_empty t [] h = refl
mean_empty t (v ∷ vs) h = absurd (omega arith)

pub mean_of_none : (t : ColType) (na_rm : Bool) (vs : List Value) (count : ℕ) → list_any is_missing (looked_at na_rm vs) ≡ false → count ≡ length (filter is_there vs) → count ≡ 0 → Missing ≡ mean_value t (looked_at na_rm vs)
mean_of_none t na_rm vs count h n none = mean_empty t (looked_at na_rm vs) (sym none ∙ n ∙ ap length (seen_are_there na_rm vs h))

-- one more number of 64 bits
pub still_small : (s x : ℤ) (count : ℕ) → unsigned_abs s ≤ count * 2 ^ 63 → FitsSigned w64 x → unsigned_abs (s +ℤ x) ≤ (count + 1) * 2 ^ 63
still_small s x count h fits = omega (arith, ints)

pub still_fits : (s x : ℤ) (count : ℕ) → unsigned_abs (s +ℤ x) ≤ (count + 1) * 2 ^ 63 → count + 1 < 2 ^ 64 → FitsSigned w128 (s +ℤ x)
still_fits s x count h few = grind (arith, ints)

pub total_fits : (s : ℤ) (count : ℕ) → unsigned_abs s ≤ count * 2 ^ 63 → count < 2 ^ 64 → FitsSigned w128 s
total_fits s count h few = grind (arith, ints)
