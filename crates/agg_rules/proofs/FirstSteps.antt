-- The value that comes first, kept while a list is passed, is the first that none of the list comes before.
use Rattle.std.proofs.Common.{Bool, true, false, not, ◌&&◌, cond, if◌then◌else◌, ◌||◌, Option, Some, None, unwrap_or, ◌≡◌, refl, sym, ap, ◌∙◌, List, [], ◌∷◌, filter}
use Rattle.std.specs.List.{fold, find, list_all, list_any}
use Rattle.std.specs.Ordering.{is_lt, is_eq, ordering_reverse}
use Rattle.std.specs.declared.cmp.Ordering.{Ordering}
use Rattle.std.specs.declared.cmp.Ordering.TheVariants.{Less, Equal, Greater}
use Rattle.std.specs.Cmp.{IsStrictWeakOrder}
use Rattle.std.proofs.lemmas.List.MinMax.{ranks_by, IsStrictWeakOrder-flip}
use Rattle.scalar_value.specs.declared.value.Value.{Value}
use Rattle.scalar_value.specs.declared.value.Value.TheVariants.{Missing, Int, Dec, Chr, Day, Lgl}
use Rattle.scalar_value.specs.Truths.{is_there}
use Rattle.scalar_value.specs.Order.{value_cmp, value_same}
use Rattle.scalar_value.specs.OrderLaws.{value_cmp-total, value_same-equal, value_same-self}
use Rattle.agg_rules.specs.Lists.{comes_before, foremost}
use Rattle.agg_rules.specs.Running.{foremost_of, foremost_after}

-- ---- the order

smaller : IsStrictWeakOrder (comes_before false)
smaller = ranks_by value_cmp-total (λ v. v)

order : (descending : Bool) → IsStrictWeakOrder (comes_before descending)
order false = smaller
order true = IsStrictWeakOrder-flip (comes_before false) smaller

neither : (o p : Ordering) → p ≡ ordering_reverse o → is_lt o ≡ false → is_lt p ≡ false → is_eq o ≡ true
neither Less p e h k = cc
neither Equal p e h k = refl
neither Greater p e h k = let back = ap is_lt e in cc

-- two values of which none comes before the other are equal
tied : (descending : Bool) (a b : Value) → comes_before descending a b ≡ false → comes_before descending b a ≡ false → a ≡ b
tied false a b p q = value_same-equal a b (neither (value_cmp a b) (value_cmp b a) (value_cmp-total.antisymm b a) p q)
tied true a b p q = value_same-equal a b (neither (value_cmp a b) (value_cmp b a) (value_cmp-total.antisymm b a) q p)

none_before_itself : (descending : Bool) (v : Value) → comes_before descending v v ≡ false
none_before_itself descending v = by_test (comes_before descending v v) refl where
  by_test : (b : Bool) → comes_before descending v v ≡ b → comes_before descending v v ≡ false
  by_test true e = (order descending).one_way v v e
  by_test false e = e

-- ---- the value that is kept

passing : (descending : Bool) (first : Option Value) (vs : List Value) → fold (foremost_after descending) first vs ≡ fold (λ f v. Some (foremost_of descending f v)) first (filter is_there vs)
passing descending first [] = refl
passing descending first (Int z ∷ vs) = passing descending (Some (foremost_of descending first (Int z))) vs
passing descending first (Dec m ∷ vs) = passing descending (Some (foremost_of descending first (Dec m))) vs
passing descending first (Chr t ∷ vs) = passing descending (Some (foremost_of descending first (Chr t))) vs
passing descending first (Day d ∷ vs) = passing descending (Some (foremost_of descending first (Day d))) vs
passing descending first (Lgl b ∷ vs) = passing descending (Some (foremost_of descending first (Lgl b))) vs
passing descending first (Missing ∷ vs) = passing descending first vs

-- r is kept of b and then of the list
record Keeps (descending : Bool) (b : Value) (vs : List Value) : Type 0 where
  r : Value
  is : fold (λ f v. Some (foremost_of descending f v)) (Some b) vs ≡ Some r
  start : comes_before descending b r ≡ false
  rest : list_all (λ w. not (comes_before descending w r)) vs ≡ true
  member : list_any (value_same r) (b ∷ vs) ≡ true

both : (a b : Bool) → a ≡ false → b ≡ true → (not a && b) ≡ true
both true b p q = cc
both false b p q = q

later : (a b : Bool) → b ≡ true → (a || b) ≡ true
later true b p = refl
later false b p = p

between : (a b c : Bool) → (a || c) ≡ true → (a || (b || c)) ≡ true
between true b c p = refl
between false b c p = later b c p

kept_by : (descending : Bool) (b v : Value) (vs : List Value) (t : Bool) → comes_before descending v b ≡ t → Keeps descending (if t then v else b) vs → Keeps descending b (v ∷ vs)
kept_by descending b v vs true e k = record {
  r = k.r;
  is = ap (λ (t : Bool). fold (λ f w. Some (foremost_of descending f w)) (Some (if t then v else b)) vs) e ∙ k.is;
  start = (order descending).chain b v k.r ((order descending).one_way v b e) k.start;
  rest = both (comes_before descending v k.r) _ k.start k.rest;
  member = later (value_same k.r b) _ k.member;
}
kept_by descending b v vs false e k = record {
  r = k.r;
  is = ap (λ (t : Bool). fold (λ f w. Some (foremost_of descending f w)) (Some (if t then v else b)) vs) e ∙ k.is;
  start = k.start;
  rest = both (comes_before descending v k.r) _ ((order descending).chain v b k.r e k.start) k.rest;
  member = between (value_same k.r b) (value_same k.r v) _ k.member;
}

kept : (descending : Bool) (b : Value) (vs : List Value) → Keeps descending b vs
kept descending b [] = record { r = b; is = refl; start = none_before_itself descending b; rest = refl; member = ap (λ (t : Bool). t || false) (value_same-self b) }
kept descending b (v ∷ vs) = kept_by descending b v vs (comes_before descending v b) refl (kept descending (if comes_before descending v b then v else b) vs)

-- ---- the value that is found

first_true : (a b : Bool) → (a && b) ≡ true → a ≡ true
first_true true b p = refl
first_true false b p = cc

second_true : (a b : Bool) → (a && b) ≡ true → b ≡ true
second_true true b p = p
second_true false b p = cc

in_rest : (a b : Bool) → a ≡ false → (a || b) ≡ true → b ≡ true
in_rest true b p q = cc
in_rest false b p q = q

at_member_by : (test : Value → Bool) (v : Value) (vs : List Value) (r : Value) (t : Bool) → value_same r v ≡ t → (list_any (value_same r) vs ≡ true → test r ≡ true) → list_any (value_same r) (v ∷ vs) ≡ true → list_all test (v ∷ vs) ≡ true → test r ≡ true
at_member_by test v vs r true e rest h k = ap test (value_same-equal r v e) ∙ first_true (test v) (list_all test vs) k
at_member_by test v vs r false e rest h k = rest (in_rest (value_same r v) (list_any (value_same r) vs) e h)

-- what holds of all of a list holds of one of it
at_member : (test : Value → Bool) (vs : List Value) (r : Value) → list_any (value_same r) vs ≡ true → list_all test vs ≡ true → test r ≡ true
at_member test [] r h k = cc
at_member test (v ∷ vs) r h k = at_member_by test v vs r (value_same r v) refl (λ m. at_member test vs r m (second_true (test v) (list_all test vs) k)) h k

apart : (test : Value → Bool) (r v : Value) → test r ≡ true → test v ≡ false → (t : Bool) → value_same r v ≡ t → value_same r v ≡ false
apart test r v p q true e = let same = ap test (value_same-equal r v e) in cc
apart test r v p q false e = e

the_only_by : (test : Value → Bool) (v : Value) (vs : List Value) (r : Value) (t : Bool) → test v ≡ t → (list_any (value_same r) vs ≡ true → find test vs ≡ Some r) → list_any (value_same r) (v ∷ vs) ≡ true → test r ≡ true → (test v ≡ true → v ≡ r) → find test (v ∷ vs) ≡ Some r
the_only_by test v vs r true e rest h p only = ap (λ (t : Bool). cond t (Some v) (find test vs)) e ∙ ap (λ (w : Value). Some w) (only e)
the_only_by test v vs r false e rest h p only =
    ap (λ (t : Bool). cond t (Some v) (find test vs)) e ∙ rest (in_rest (value_same r v) (list_any (value_same r) vs) (apart test r v p e (value_same r v) refl) h)

-- the only one of a list that passes is found
the_only : (test : Value → Bool) (vs : List Value) (r : Value) → list_any (value_same r) vs ≡ true → test r ≡ true → ((v : Value) → list_any (value_same v) vs ≡ true → test v ≡ true → v ≡ r) → find test vs ≡ Some r
the_only test [] r h p only = cc
the_only test (v ∷ vs) r h p only =
    the_only_by test v vs r (test v) refl (λ m. the_only test vs r m p (λ w n q. only w (later (value_same w v) (list_any (value_same w) vs) n) q)) h p
    (λ q. only v (ap (λ (t : Bool). t || list_any (value_same v) vs) (value_same-self v)) q)

not_true : (b : Bool) → not b ≡ true → b ≡ false
not_true true h = cc
not_true false h = refl

kept_is_first : (descending : Bool) (vs : List Value) → unwrap_or (fold (λ f v. Some (foremost_of descending f v)) None vs) Missing ≡ foremost descending vs
kept_is_first descending [] = refl
kept_is_first descending (v ∷ vs) =
    let k = kept descending v vs in
    let passes = both (comes_before descending v k.r) _ k.start k.rest in
    let found = the_only (λ u. list_all (λ w. not (comes_before descending w u)) (v ∷ vs)) (v ∷ vs) k.r k.member passes
    (λ u m q. tied descending u k.r (not_true (comes_before descending u k.r) (at_member (λ w. not (comes_before descending w k.r)) (v ∷ vs) u m passes)) (not_true (comes_before descending k.r u) (at_member (λ w. not (comes_before descending w u)) (v ∷ vs) k.r k.member q))) in
    ap (λ (o : Option Value). unwrap_or o Missing) (k.is ∙ sym found)

pub first_is : (descending : Bool) (vs : List Value) → unwrap_or (fold (foremost_after descending) None vs) Missing ≡ foremost descending (filter is_there vs)
first_is descending vs = ap (λ (o : Option Value). unwrap_or o Missing) (passing descending None vs) ∙ kept_is_first descending (filter is_there vs)
