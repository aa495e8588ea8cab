-- A list sorted by insertion ascends, keeps each element as often, and is the only such list where ties are equal.
use Rattle.std.proofs.Common.{◌≡◌, ℕ, zero, suc, ◌+◌, ◌<◌, Bool, true, false, cond, List, [], ◌∷◌, get_or, refl, sym, ◌∙◌, ap, ap₂, subst, arith, add-one}
use Rattle.std.specs.declared.cmp.Ordering.{Ordering}
use Rattle.std.specs.declared.cmp.Ordering.TheVariants.{Less, Equal, Greater}
use Rattle.std.specs.Bool.{Decides}
use Rattle.std.specs.Ordering.{is_eq, is_lt, is_gt, ordering_reverse}
use Rattle.std.specs.List.{sum_by, count_by, AllByRecursion}
use Rattle.std.specs.List.Sorted.{IsSorted}
use Rattle.std.specs.Cmp.{IsTotalOrder}
use Rattle.std.proofs.lemmas.Cmp.{upto, tied_itself}
use Rattle.std.proofs.lemmas.List.Elements.{recursion_from_All, All-from_get_or}
use Rattle.std.proofs.lemmas.List.Sorted.{ranks_by, sorted_far}
use Rattle.std.proofs.lemmas.List.Sums.{sum_by-cons}
use Rattle.row_table.specs.Sorting.{insert_by, sorted_by}

-- no element is greater than a later one
abbrev pub Ascends : {X : Type 0} → (X → X → Ordering) → List X → Type 0
Ascends order [] = Unit {0}
Ascends order (x ∷ xs) = AllByRecursion (λ y. is_gt (order x y) ≡ false) xs × Ascends order xs

pub sum_by-insert : {X : Type 0} (order : X → X → Ordering) (f : X → ℕ) (x : X) (ys : List X) → sum_by f (insert_by order x ys) ≡ f x + sum_by f ys
unfolding insert_by
sum_by-insert order f x [] = sum_by-cons f x []
sum_by-insert {X} order f x (y ∷ ys) =
    let here : sum_by f (x ∷ y ∷ ys) ≡ f x + sum_by f (y ∷ ys) = sum_by-cons f x (y ∷ ys) in
    let first : sum_by f (y ∷ ys) ≡ f y + sum_by f ys = sum_by-cons f y ys in
    let there : sum_by f (y ∷ insert_by order x ys) ≡ f y + sum_by f (insert_by order x ys) = sum_by-cons f y (insert_by order x ys) in
    let rest : sum_by f (insert_by order x ys) ≡ f x + sum_by f ys = sum_by-insert order f x ys in
    elim (is_gt (order x y)) as (λ b. sum_by f (cond b (y ∷ insert_by order x ys) (x ∷ y ∷ ys)) ≡ f x + sum_by f (y ∷ ys)) [
      | true ↦ omega arith
      | false ↦ here
    ]

pub sum_by-sorted : {X : Type 0} (order : X → X → Ordering) (f : X → ℕ) (xs : List X) → sum_by f (sorted_by order xs) ≡ sum_by f xs
unfolding sorted_by
sum_by-sorted order f [] = refl
sum_by-sorted order f (x ∷ xs) =
    let put : sum_by f (insert_by order x (sorted_by order xs)) ≡ f x + sum_by f (sorted_by order xs) = sum_by-insert order f x (sorted_by order xs) in
    let rest : sum_by f (sorted_by order xs) ≡ sum_by f xs = sum_by-sorted order f xs in
    let whole : sum_by f (x ∷ xs) ≡ f x + sum_by f xs = sum_by-cons f x xs in
    omega arith

pub all_inserted : {X : Type 0} (order : X → X → Ordering) (P : X → Type 0) (x : X) (ys : List X) → P x → AllByRecursion P ys → AllByRecursion P (insert_by order x ys)
unfolding insert_by
all_inserted order P x [] p all = (p, tt)
all_inserted order P x (y ∷ ys) p all =
    elim (is_gt (order x y)) as (λ b. AllByRecursion P (cond b (y ∷ insert_by order x ys) (x ∷ y ∷ ys))) [
      | true ↦ (all.0, all_inserted order P x ys p all.1)
      | false ↦ (p, all)
    ]

pub all_sorted : {X : Type 0} (order : X → X → Ordering) (P : X → Type 0) (xs : List X) → AllByRecursion P xs → AllByRecursion P (sorted_by order xs)
unfolding sorted_by
all_sorted order P [] all = tt
all_sorted order P (x ∷ xs) all = all_inserted order P x (sorted_by order xs) all.0 (all_sorted order P xs all.1)

pub all_weaker : {X : Type 0} (P Q : X → Type 0) → ((x : X) → P x → Q x) → (xs : List X) → AllByRecursion P xs → AllByRecursion Q xs
all_weaker P Q f [] all = tt
all_weaker P Q f (x ∷ xs) all = (f x all.0, all_weaker P Q f xs all.1)

reversed_gt : (o : Ordering) → is_gt o ≡ true → is_gt (ordering_reverse o) ≡ false
reversed_gt Less h = cc
reversed_gt Equal h = refl
reversed_gt Greater h = refl

pub tied-both : (o : Ordering) → is_gt o ≡ false → is_gt (ordering_reverse o) ≡ false → is_eq o ≡ true
tied-both Less h k = cc
tied-both Equal h k = refl
tied-both Greater h k = cc

module _ {X : Type 0} (order : X → X → Ordering) (total : IsTotalOrder order) where
  not_greater_back : (x y : X) → is_gt (order x y) ≡ true → is_gt (order y x) ≡ false
  not_greater_back x y h = ap is_gt (total.antisymm y x) ∙ reversed_gt (order x y) h

  pub not_greater_itself : (x : X) → is_gt (order x x) ≡ false
  not_greater_itself x = ap is_gt (tied_itself total x)

  ascends-insert : (x : X) (ys : List X) → Ascends order ys → Ascends order (insert_by order x ys)
  unfolding insert_by
  ascends-insert x [] up = (tt, tt)
  ascends-insert x (y ∷ ys) up =
      let P : Bool → Type 0 = λ b. is_gt (order x y) ≡ b → Ascends order (cond b (y ∷ insert_by order x ys) (x ∷ y ∷ ys)) in
      let later : P true = λ h. (all_inserted order (λ z. is_gt (order y z) ≡ false) x ys (not_greater_back x y h) up.0, ascends-insert x ys up.1) in
      let here : P false = λ h. ((h, all_weaker (λ z. is_gt (order y z) ≡ false) (λ z. is_gt (order x z) ≡ false) (λ z k. upto total x y z h k) ys up.0), up) in
      let either : (b : Bool) → P b = λ b. elim b as P [ true ↦ later | false ↦ here ] in
      either (is_gt (order x y)) refl

  pub ascends-sorted : (xs : List X) → Ascends order (sorted_by order xs)
  unfolding sorted_by
  ascends-sorted [] = tt
  ascends-sorted (x ∷ xs) = ascends-insert x (sorted_by order xs) (ascends-sorted xs)

module _ {X : Type 0} (order : X → X → Ordering) (total : IsTotalOrder order) (same : X → X → Bool) (decides : (x y : X) → Decides (same x y) (x ≡ y)) (ties : (x y : X) → same x y ≡ is_eq (order x y)) where
  -- how often x stands in the list
  abbrev often : X → List X → ℕ
  often x ys = count_by (λ y. same x y) ys

  same_itself : (x : X) → same x x ≡ true
  same_itself x = (decides x x).1 refl

  often-head : (x : X) (xs : List X) → often x (x ∷ xs) ≡ 1 + often x xs
  often-head x xs = sum_by-cons (λ y. cond (same x y) 1 0) x xs ∙ ap (λ b. cond b 1 0 + often x xs) (same_itself x)

  -- what stands in the list has what each of it has
  found : (P : X → Type 0) (x : X) (ys : List X) → 0 < often x ys → AllByRecursion P ys → P x
  found P x [] some all = absurd (omega arith)
  found P x (y ∷ ys) some all =
      let Q : Bool → Type 0 = λ b. same x y ≡ b → P x in
      let here : Q true = λ h. subst P (sym ((decides x y).0 h)) all.0 in
      let later : Q false = λ h.
      let parts : often x (y ∷ ys) ≡ cond (same x y) 1 0 + often x ys = sum_by-cons (λ z. cond (same x z) 1 0) y ys in
      let none : ◌≡◌ {A = ℕ} (cond (same x y) 1 0) 0 = ap (λ (b : Bool). cond {A = ℕ} b 1 0) h in
      found P x ys (omega arith) all.1 in
      let either : (b : Bool) → Q b = λ b. elim b as Q [ true ↦ here | false ↦ later ] in
      either (same x y) refl

  heads_equal : (x y : X) (xs ys : List X) → Ascends order (x ∷ xs) → Ascends order (y ∷ ys) → ((z : X) → often z (x ∷ xs) ≡ often z (y ∷ ys)) → x ≡ y
  heads_equal x y xs ys up up' alike =
      let at_x : often x (x ∷ xs) ≡ 1 + often x xs = often-head x xs in
      let at_y : often y (y ∷ ys) ≡ 1 + often y ys = often-head y ys in
      let alike_x : often x (x ∷ xs) ≡ often x (y ∷ ys) = alike x in
      let alike_y : often y (x ∷ xs) ≡ often y (y ∷ ys) = alike y in
      let y_first : is_gt (order y x) ≡ false = found (λ z. is_gt (order y z) ≡ false) x (y ∷ ys) (omega arith) (not_greater_itself order total y, up'.0) in
      let x_first : is_gt (order x y) ≡ false = found (λ z. is_gt (order x z) ≡ false) y (x ∷ xs) (omega arith) (not_greater_itself order total x, up.0) in
      (decides x y).0 (ties x y ∙ tied-both (order x y) x_first (sym (ap is_gt (total.antisymm y x)) ∙ y_first))

  -- two ascending lists in which each element stands equally often are equal
  pub ascending_alike : (xs ys : List X) → Ascends order xs → Ascends order ys → ((z : X) → often z xs ≡ often z ys) → xs ≡ ys
  ascending_alike [] [] up up' alike = refl
  ascending_alike [] (y ∷ ys) up up' alike =
      let at_y : often y (y ∷ ys) ≡ 1 + often y ys = often-head y ys in
      let alike_y : often y [] ≡ often y (y ∷ ys) = alike y in
      absurd (omega arith)
  ascending_alike (x ∷ xs) [] up up' alike =
      let at_x : often x (x ∷ xs) ≡ 1 + often x xs = often-head x xs in
      let alike_x : often x (x ∷ xs) ≡ often x [] = alike x in
      absurd (omega arith)
  ascending_alike (x ∷ xs) (y ∷ ys) up up' alike =
      let e : x ≡ y = heads_equal x y xs ys up up' alike in
      let rest : (z : X) → often z xs ≡ often z ys = λ z.
      let left : often z (x ∷ xs) ≡ cond (same z x) 1 0 + often z xs = sum_by-cons (λ w. cond (same z w) 1 0) x xs in
      let right : often z (y ∷ ys) ≡ cond (same z y) 1 0 + often z ys = sum_by-cons (λ w. cond (same z w) 1 0) y ys in
      let equal : ◌≡◌ {A = ℕ} (cond (same z x) 1 0) (cond (same z y) 1 0) = ap (λ (w : X). cond {A = ℕ} (same z w) 1 0) e in
      let whole : often z (x ∷ xs) ≡ often z (y ∷ ys) = alike z in
      omega arith in
      ap₂ (λ z zs. z ∷ zs) e (ascending_alike xs ys up.1 up'.1 rest)

-- ---- between std's word for a sorted list and `Ascends`

not_lt_reversed : (o : Ordering) → is_lt (ordering_reverse o) ≡ false → is_gt o ≡ false
not_lt_reversed Less h = refl
not_lt_reversed Equal h = refl
not_lt_reversed Greater h = cc

not_gt_reversed : (o : Ordering) → is_gt o ≡ false → is_lt (ordering_reverse o) ≡ false
not_gt_reversed Less h = refl
not_gt_reversed Equal h = refl
not_gt_reversed Greater h = cc

module _ {X : Type 0} (order : X → X → Ordering) (total : IsTotalOrder order) where
  not_greater : (x y : X) → is_lt (order y x) ≡ false → is_gt (order x y) ≡ false
  not_greater x y h = not_lt_reversed (order x y) (sym (ap is_lt (total.antisymm y x)) ∙ h)

  not_less : (x y : X) → is_gt (order x y) ≡ false → is_lt (order y x) ≡ false
  not_less x y h = ap is_lt (total.antisymm y x) ∙ not_gt_reversed (order x y) h

  sorted_tail : (x : X) (xs : List X) → IsSorted order (x ∷ xs) → IsSorted order xs
  sorted_tail x xs up k d low high =
      let at : is_lt (order (get_or (x ∷ xs) (suc k + 1) d) (get_or (x ∷ xs) (suc k) d)) ≡ false = up (suc k) d (omega arith) (omega arith) in
      rw add-one (rw add-one at at)

  head_least : (x : X) (xs : List X) → IsSorted order (x ∷ xs) → AllByRecursion (λ y. is_gt (order x y) ≡ false) xs
  head_least x xs up =
      recursion_from_All (λ y. is_gt (order x y) ≡ false) xs (All-from_get_or (λ y. is_gt (order x y) ≡ false) xs x (λ i h.
      not_greater x (get_or xs i x) (sorted_far (λ a b. is_lt (order a b)) (ranks_by total (λ a. a)) (x ∷ xs) up 0 (suc i) x (omega arith) (omega arith))))

  pub ascends_from_sorted : (xs : List X) → IsSorted order xs → Ascends order xs
  ascends_from_sorted [] up = tt
  ascends_from_sorted (x ∷ xs) up = (head_least x xs up, ascends_from_sorted xs (sorted_tail x xs up))

  pub sorted_from_ascends : (xs : List X) → Ascends order xs → IsSorted order xs
  sorted_from_ascends [] up k d low high = absurd (omega arith)
  sorted_from_ascends (x ∷ []) up k d low high = absurd (omega arith)
  sorted_from_ascends (x ∷ y ∷ ys) up zero d low high = not_less x y up.0.0
  sorted_from_ascends (x ∷ y ∷ ys) up (suc k) d low high =
      let at : is_lt (order (get_or (y ∷ ys) (k + 1) d) (get_or (y ∷ ys) k d)) ≡ false = sorted_from_ascends (y ∷ ys) up.1 k d (omega arith) (omega arith) in
      rw add-one (rw add-one at at)
