-- A stable sort by any total order gives the list sorted by insertion, and no other ascends with its ties in place.
use Rattle.std.proofs.Common.{◌≡◌, Bool, true, false, ◌&&◌, not, cond, List, [], ◌∷◌, filter, IsSorted, refl, sym, ◌∙◌, ap, ap₂, subst}
use Rattle.std.specs.declared.cmp.Ordering.{Ordering}
use Rattle.std.specs.declared.cmp.Ordering.TheVariants.{Less, Equal, Greater}
use Rattle.std.specs.Ordering.{is_eq, is_lt, is_gt, ordering_reverse}
use Rattle.std.specs.List.{AllByRecursion}
use Rattle.std.specs.List.Sorted.{ties, IsStable}
use Rattle.std.specs.Cmp.{IsTotalOrder}
use Rattle.std.proofs.lemmas.Cmp.{tied_itself}
use Rattle.row_table.specs.Sorting.{insert_by, sorted_by}
use Rattle.row_table.proofs.Sorting.{Ascends, ascends-sorted, ascends_from_sorted, not_greater_itself, tied-both}

equal_if : (o : Ordering) → is_eq o ≡ true → o ≡ Equal
equal_if Less h = cc
equal_if Equal h = refl
equal_if Greater h = cc

never_both : (o : Ordering) → is_eq o ≡ true → is_gt o ≡ true → ⊥
never_both Less h k = cc
never_both Equal h k = cc
never_both Greater h k = cc

neither_less : (o : Ordering) → not (is_lt o) && not (is_lt (ordering_reverse o)) ≡ is_eq o
neither_less Less = refl
neither_less Equal = refl
neither_less Greater = refl

module _ {X : Type 0} where
  passes_head : (test : X → Bool) (x : X) (xs : List X) → test x ≡ true → filter test (x ∷ xs) ≡ x ∷ filter test xs
  passes_head test x xs h = ap (λ (b : Bool). cond b (x ∷ filter test xs) (filter test xs)) h

  -- two elements of which one at most passes may change places
  one_passes : (p q : Bool) (x y : X) (rest : List X) → (p ≡ true → q ≡ true → ⊥)
      → cond q (y ∷ cond p (x ∷ rest) rest) (cond p (x ∷ rest) rest) ≡ cond p (x ∷ cond q (y ∷ rest) rest) (cond q (y ∷ rest) rest)
  one_passes true true x y rest apart = absurd (apart refl refl)
  one_passes true false x y rest apart = refl
  one_passes false true x y rest apart = refl
  one_passes false false x y rest apart = refl

  same_rest : (b : Bool) (x y : X) (xs ys : List X) → cond b (x ∷ xs) xs ≡ cond b (y ∷ ys) ys → xs ≡ ys
  same_rest true x y xs ys e = cc
  same_rest false x y xs ys e = e

  same_first : (x y : X) (xs ys : List X) → x ∷ xs ≡ y ∷ ys → x ≡ y
  same_first x y xs ys e = cc

  none_first : (x : X) (xs : List X) → [] ≡ x ∷ xs → ⊥
  none_first x xs e = cc

  all_passing : (P : X → Type 0) (test : X → Bool) (xs : List X) → AllByRecursion P xs → AllByRecursion P (filter test xs)
  all_passing P test [] all = tt
  all_passing P test (x ∷ xs) all =
      elim (test x) as (λ b. AllByRecursion P (cond b (x ∷ filter test xs) (filter test xs))) [
        | true ↦ (all.0, all_passing P test xs all.1)
        | false ↦ all_passing P test xs all.1
      ]

module _ {X : Type 0} (order : X → X → Ordering) (total : IsTotalOrder order) where
  abbrev tied : X → X → Bool
  tied w x = is_eq (order w x)

  tied_self : (x : X) → tied x x ≡ true
  tied_self x = ap is_eq (tied_itself total x)

  ties-tied : (w x : X) → ties (λ a b. is_lt (order a b)) w x ≡ tied w x
  ties-tied w x = ap (λ o. not (is_lt (order w x)) && not (is_lt o)) (total.antisymm x w) ∙ neither_less (order w x)

  filter_ties : (w : X) (xs : List X) → filter (ties (λ a b. is_lt (order a b)) w) xs ≡ filter (tied w) xs
  filter_ties w xs = ap (λ test. filter test xs) (λ i x. ties-tied w x i)

  tied_apart : (w x y : X) → is_gt (order x y) ≡ true → tied w x ≡ true → tied w y ≡ true → ⊥
  tied_apart w x y greater p q = never_both (order x y) (ap is_eq (sym (total.congr w x y (equal_if (order w x) p))) ∙ q) greater

  tied-insert : (w x : X) (ys : List X) → filter (tied w) (insert_by order x ys) ≡ filter (tied w) (x ∷ ys)
  unfolding insert_by
  tied-insert w x [] = refl
  tied-insert w x (y ∷ ys) =
      let P : Bool → Type 0 = λ b. is_gt (order x y) ≡ b → filter (tied w) (cond b (y ∷ insert_by order x ys) (x ∷ y ∷ ys)) ≡ filter (tied w) (x ∷ y ∷ ys) in
      let later : P true = λ h.
      ap (λ rest. cond (tied w y) (y ∷ rest) rest) (tied-insert w x ys) ∙ one_passes (tied w x) (tied w y) x y (filter (tied w) ys) (tied_apart w x y h) in
      let here : P false = λ h. refl in
      let either : (b : Bool) → P b = λ b. elim b as P [ true ↦ later | false ↦ here ] in
      either (is_gt (order x y)) refl

  tied-sorted : (w : X) (xs : List X) → filter (tied w) (sorted_by order xs) ≡ filter (tied w) xs
  unfolding sorted_by
  tied-sorted w [] = refl
  tied-sorted w (x ∷ xs) = tied-insert w x (sorted_by order xs) ∙ ap (λ rest. cond (tied w x) (x ∷ rest) rest) (tied-sorted w xs)

  -- the head of one list is not greater than that of another with the same ties
  head_first : (x y : X) (xs ys : List X) → Ascends order (y ∷ ys) → filter (tied x) (x ∷ xs) ≡ filter (tied x) (y ∷ ys) → is_gt (order y x) ≡ false
  head_first x y xs ys up alike =
      let P : X → Type 0 = λ z. is_gt (order y z) ≡ false in
      let all : AllByRecursion P (filter (tied x) (y ∷ ys)) = all_passing P (tied x) (y ∷ ys) (not_greater_itself order total y, up.0) in
      (subst (AllByRecursion P) (sym alike ∙ passes_head (tied x) x xs (tied_self x)) all).0

  heads_tied : (x y : X) (xs ys : List X) → Ascends order (x ∷ xs) → Ascends order (y ∷ ys) → ((w : X) → filter (tied w) (x ∷ xs) ≡ filter (tied w) (y ∷ ys)) → tied x y ≡ true
  heads_tied x y xs ys up up' alike =
      tied-both (order x y) (head_first y x ys xs up (sym (alike y))) (sym (ap is_gt (total.antisymm y x)) ∙ head_first x y xs ys up' (alike x))

  same_ties : (xs ys : List X) → Ascends order xs → Ascends order ys → ((w : X) → filter (tied w) xs ≡ filter (tied w) ys) → xs ≡ ys
  same_ties [] [] up up' alike = refl
  same_ties [] (y ∷ ys) up up' alike = absurd (none_first y (filter (tied y) ys) (alike y ∙ passes_head (tied y) y ys (tied_self y)))
  same_ties (x ∷ xs) [] up up' alike = absurd (none_first x (filter (tied x) xs) (sym (alike x) ∙ passes_head (tied x) x xs (tied_self x)))
  same_ties (x ∷ xs) (y ∷ ys) up up' alike =
      let level : tied x y ≡ true = heads_tied x y xs ys up up' alike in
      let e : x ≡ y = same_first x y (filter (tied x) xs) (filter (tied x) ys)
      (sym (passes_head (tied x) x xs (tied_self x)) ∙ alike x ∙ passes_head (tied x) y ys level) in
      let rest : (w : X) → filter (tied w) xs ≡ filter (tied w) ys = λ w.
      same_rest (tied w x) x y (filter (tied w) xs) (filter (tied w) ys)
      (alike w ∙ ap (λ z. cond (tied w z) (y ∷ filter (tied w) ys) (filter (tied w) ys)) (sym e)) in
      ap₂ (λ z zs. z ∷ zs) e (same_ties xs ys up.1 up'.1 rest)

  pub sorted_by-stable : (xs : List X) → IsStable order xs (sorted_by order xs)
  sorted_by-stable xs w = filter_ties w (sorted_by order xs) ∙ tied-sorted w xs ∙ sym (filter_ties w xs)

  -- what a stable sort ensures pins the list
  pub sorted_by-only : (xs ys : List X) → IsSorted order ys → IsStable order xs ys → ys ≡ sorted_by order xs
  sorted_by-only xs ys up stable =
      same_ties ys (sorted_by order xs) (ascends_from_sorted order total ys up) (ascends-sorted order total xs)
      (λ w. sym (filter_ties w ys) ∙ stable w ∙ filter_ties w xs ∙ sym (tied-sorted w xs))
