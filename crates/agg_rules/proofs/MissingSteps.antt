-- What leaving out missing values changes, and what it doesn't.
use Rattle.std.proofs.Common.{Bool, true, false, ◌||◌, ◌≡◌, refl, ap, List, [], ◌∷◌, filter}
use Rattle.std.specs.List.{list_any}
use Rattle.scalar_value.specs.declared.value.Value.{Value}
use Rattle.scalar_value.specs.declared.value.Value.TheVariants.{Missing, Int, Dec, Chr, Day, Lgl}
use Rattle.scalar_value.specs.Truths.{is_missing, is_there, is_true, is_false}
use Rattle.agg_rules.specs.Lists.{unless_missing}
use Rattle.agg_rules.specs.Aggregates.{looked_at}

pub none_missing : (vs : List Value) → list_any is_missing (filter is_there vs) ≡ false
none_missing [] = refl
none_missing (Int z ∷ vs) = none_missing vs
none_missing (Dec m ∷ vs) = none_missing vs
none_missing (Chr t ∷ vs) = none_missing vs
none_missing (Day d ∷ vs) = none_missing vs
none_missing (Lgl b ∷ vs) = none_missing vs
none_missing (Missing ∷ vs) = none_missing vs

all_there : (vs : List Value) → list_any is_missing vs ≡ false → filter is_there vs ≡ vs
all_there [] h = refl
all_there (Int z ∷ vs) h = ap (λ l. Int z ∷ l) (all_there vs h)
all_there (Dec m ∷ vs) h = ap (λ l. Dec m ∷ l) (all_there vs h)
all_there (Chr t ∷ vs) h = ap (λ l. Chr t ∷ l) (all_there vs h)
all_there (Day d ∷ vs) h = ap (λ l. Day d ∷ l) (all_there vs h)
all_there (Lgl b ∷ vs) h = ap (λ l. Lgl b ∷ l) (all_there vs h)
all_there (Missing ∷ vs) h = cc

-- where none of the values that are looked at is missing they are those that are there
pub seen_are_there : (na_rm : Bool) (vs : List Value) → list_any is_missing (looked_at na_rm vs) ≡ false → filter is_there vs ≡ looked_at na_rm vs
seen_are_there true vs h = refl
seen_are_there false vs h = all_there vs h

true_there : (vs : List Value) → list_any is_true (filter is_there vs) ≡ list_any is_true vs
true_there [] = refl
true_there (Int z ∷ vs) = true_there vs
true_there (Dec m ∷ vs) = true_there vs
true_there (Chr t ∷ vs) = true_there vs
true_there (Day d ∷ vs) = true_there vs
true_there (Lgl b ∷ vs) = ap (λ (x : Bool). b || x) (true_there vs)
true_there (Missing ∷ vs) = true_there vs

false_there : (vs : List Value) → list_any is_false (filter is_there vs) ≡ list_any is_false vs
false_there [] = refl
false_there (Int z ∷ vs) = false_there vs
false_there (Dec m ∷ vs) = false_there vs
false_there (Chr t ∷ vs) = false_there vs
false_there (Day d ∷ vs) = false_there vs
false_there (Lgl true ∷ vs) = false_there vs
false_there (Lgl false ∷ vs) = refl
false_there (Missing ∷ vs) = false_there vs

-- no missing value is TRUE or FALSE
pub true_seen : (na_rm : Bool) (vs : List Value) → list_any is_true (looked_at na_rm vs) ≡ list_any is_true vs
true_seen true vs = true_there vs
true_seen false vs = refl

pub false_seen : (na_rm : Bool) (vs : List Value) → list_any is_false (looked_at na_rm vs) ≡ list_any is_false vs
false_seen true vs = false_there vs
false_seen false vs = refl

pub unless_none : (vs : List Value) (v : Value) → list_any is_missing vs ≡ false → unless_missing vs v ≡ v
unless_none vs v h = rw h refl
