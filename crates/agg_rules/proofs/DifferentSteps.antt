-- A set of the values so far has as many keys as the list has different values.
use Rattle.std.proofs.Common.{ℕ, suc, ◌+◌, ◌<◌, Bool, true, false, ◌&&◌, ◌||◌, cond, if◌then◌else◌, ◌≡◌, refl, sym, ap, ◌∙◌, List, [], ◌∷◌, ◌++◌, length, get_or, take, map, Bor}
use Rattle.std.specs.List.{list_any, IsDistinct}
use Rattle.std.specs.Cmp.{IsEquivalence}
use Rattle.std.specs.Set.{distinct_count, unique_keys, is_member}
use Rattle.std.proofs.lemmas.Cmp.{on_equiv}
use Rattle.std.proofs.lemmas.List.{take_more}
use Rattle.std.proofs.lemmas.List.Folds.{list_any-append}
use Rattle.std.proofs.lemmas.Map.Made.{length-from_keys}
use Rattle.scalar_value.specs.declared.value.Value.{Value}
use Rattle.scalar_value.specs.Truths.{is_missing}
use Rattle.scalar_value.specs.Order.{value_same}
use Rattle.scalar_value.specs.OrderLaws.{value_same-equivalence}
use Rattle.agg_rules.specs.Lists.{each_once}
use Rattle.agg_rules.specs.Aggregates.{looked_at}
use Rattle.agg_rules.proofs.SumSteps.{with_one, passed_over}

abbrev pub same_key : Bor Value → Bor Value → Bool
same_key x y = value_same x.now y.now

laws : IsEquivalence same_key
laws = on_equiv (λ (b : Bor Value). b.now) value_same-equivalence

-- ---- one more value that is looked at, or is passed over

pub one_more : (na_rm : Bool) (vs : List Value) (i : ℕ) (v : Value) → i < length vs → v ≡ get_or vs i v → (na_rm && is_missing v) ≡ false → looked_at na_rm (take (i + 1) vs) ≡ looked_at na_rm (take i vs) ++ v ∷ []
one_more true vs i v h is there = with_one vs i v h is there
one_more false vs i v h is there = take_more vs i v h ∙ ap (λ (w : Value). take i vs ++ w ∷ []) (sym is)

pub no_more : (na_rm : Bool) (vs : List Value) (i : ℕ) (v : Value) → i < length vs → v ≡ get_or vs i v → (na_rm && is_missing v) ≡ true → looked_at na_rm (take (i + 1) vs) ≡ looked_at na_rm (take i vs)
no_more true vs i v h is there = passed_over vs i v h is there
no_more false vs i v h is there = cc

turned : (a b c : Bool) → a ≡ c → cond a true b ≡ (b || (c || false))
turned true true c e = refl
turned true false true e = refl
turned true false false e = cc
turned false true c e = refl
turned false false true e = cc
turned false false false e = refl

-- whether a value is among those so far and one more
pub among_more : (q v : Value) (vs : List Value) → cond (value_same v q) true (list_any (value_same q) vs) ≡ list_any (value_same q) (vs ++ v ∷ [])
among_more q v vs = turned (value_same v q) (list_any (value_same q) vs) (value_same q v) (value_same-equivalence.symm v q) ∙ sym (list_any-append (value_same q) vs (v ∷ []))

-- ---- the number of keys

borrowed : {X : Type 0} → Bor X → Value → Bor Value
borrowed b v = record { ref_ptr = b.ref_ptr; now = v }

any_borrowed : {X : Type 0} (b : Bor X) (q : Bor Value) (vs : List Value) → list_any (same_key q) (map (borrowed b) vs) ≡ list_any (value_same q.now) vs
unfolding borrowed
any_borrowed b q [] = refl
any_borrowed b q (v ∷ vs) = ap (λ (t : Bool). value_same q.now v || t) (any_borrowed b q vs)

as_many : {X Y : Type 0} (s t : Bool) (x : X) (y : Y) (xs : List X) (ys : List Y) → s ≡ t → length xs ≡ length ys → length (cond s xs (x ∷ xs)) ≡ length (if t then ys else y ∷ ys)
as_many true true x y xs ys e n = n
as_many true false x y xs ys e n = cc
as_many false true x y xs ys e n = cc
as_many false false x y xs ys e n = ap suc n

once_borrowed : {X : Type 0} (b : Bor X) (vs : List Value) → distinct_count same_key (map (borrowed b) vs) ≡ length (each_once vs)
unfolding borrowed
once_borrowed b [] = refl
once_borrowed b (v ∷ vs) =
    as_many (is_member same_key (map (borrowed b) vs) (borrowed b v)) (list_any (value_same v) vs) (borrowed b v) v (unique_keys same_key (map (borrowed b) vs)) (each_once vs) (any_borrowed b (borrowed b v) vs) (once_borrowed b vs)

-- keys of which no two are equal, and which are the values of the list, are as many as its different values
pub different_keys : {X : Type 0} (b : Bor X) (keys : List (Bor Value)) (vs : List Value) → IsDistinct same_key keys → ((q : Bor Value) → list_any (same_key q) keys ≡ list_any (value_same q.now) vs) → length keys ≡ length (each_once vs)
different_keys b keys vs distinct h = length-from_keys laws keys (map (borrowed b) vs) distinct (λ q. h q ∙ sym (any_borrowed b q vs)) ∙ once_borrowed b vs
