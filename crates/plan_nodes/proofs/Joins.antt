-- A hashjoin takes left rows one by one, and of right rows only how often each stands there counts.
use Rattle.std.proofs.Common.{◌≡◌, ℕ, Bool, true, false, cond, not, List, [], ◌∷◌, ◌++◌, map, refl, sym, ◌∙◌, ap, arith}
use Rattle.std.specs.List.{filter, list_any}
use Rattle.std.proofs.lemmas.Grind.{flat_map-append}
use Rattle.scalar_value.specs.declared.value.Value.{Value}
use Rattle.scalar_value.specs.declared.value.ColType.{ColType}
use Rattle.row_table.specs.declared.join.JoinKind.{JoinKind}
use Rattle.row_table.specs.declared.join.JoinKind.TheVariants.{Inner, Left, Right, Full, Semi, Anti}
use Rattle.row_table.specs.Keys.{rows_match}
use Rattle.plan_machine.specs.Lists.{weigh}
use Rattle.plan_machine.specs.Meaning.{SameSet}
use Rattle.plan_machine.proofs.Weigh.{weigh-map, weigh-same}
use Rattle.plan_nodes.specs.declared.options.JoinSpec.{JoinSpec}
use Rattle.plan_nodes.specs.Kinds.{matching, missing_row, joined_row, joined_rows, unmatched, unmatched_rows, has_unmatched, join_meaning}
use Rattle.plan_nodes.proofs.Weights.{SameWeight, same-weight, weigh-flat_map, filter-same, filter-alike, any-same}
use Rattle.plan_nodes.proofs.Lawful.{LawfulMeaning}

map-same : {A B : Type 0} (f : A → B) (xs ys : List A) → SameWeight xs ys → SameWeight (map f xs) (map f ys)
map-same f xs ys same = λ h. weigh-map h f xs ∙ same (λ x. h (f x)) ∙ sym (weigh-map h f ys)

-- lists that weigh the same are both empty or both not
one-empty : {A : Type 0} (y : A) (ys : List A) → SameWeight [] (y ∷ ys) → ⊥
one-empty y ys same = let e = same (λ _. 1) in omega arith

other-empty : {A : Type 0} (y : A) (ys : List A) → SameWeight (y ∷ ys) [] → ⊥
other-empty y ys same = let e = same (λ _. 1) in omega arith

-- what a left row gives with right rows that weigh the same weighs the same
row-same : (kind : JoinKind) (right : List ColType) (x : List Value) (ys zs : List (List Value)) → SameWeight ys zs → SameWeight (joined_row kind right x ys) (joined_row kind right x zs)
row-same Inner right x ys zs same = map-same (λ y. x ++ y) ys zs same
row-same Left right x [] [] same = λ h. refl
row-same Left right x [] (z ∷ zs) same = absurd (one-empty z zs same)
row-same Left right x (y ∷ ys) [] same = absurd (other-empty y ys same)
row-same Left right x (y ∷ ys) (z ∷ zs) same = map-same (λ r. x ++ r) (y ∷ ys) (z ∷ zs) same
row-same Right right x ys zs same = map-same (λ y. x ++ y) ys zs same
row-same Full right x [] [] same = λ h. refl
row-same Full right x [] (z ∷ zs) same = absurd (one-empty z zs same)
row-same Full right x (y ∷ ys) [] same = absurd (other-empty y ys same)
row-same Full right x (y ∷ ys) (z ∷ zs) same = map-same (λ r. x ++ r) (y ∷ ys) (z ∷ zs) same
row-same Semi right x [] [] same = λ h. refl
row-same Semi right x [] (z ∷ zs) same = absurd (one-empty z zs same)
row-same Semi right x (y ∷ ys) [] same = absurd (other-empty y ys same)
row-same Semi right x (y ∷ ys) (z ∷ zs) same = λ h. refl
row-same Anti right x [] [] same = λ h. refl
row-same Anti right x [] (z ∷ zs) same = absurd (one-empty z zs same)
row-same Anti right x (y ∷ ys) [] same = absurd (other-empty y ys same)
row-same Anti right x (y ∷ ys) (z ∷ zs) same = λ h. refl

abbrev row_of : JoinSpec → List ColType → List (List Value) → List Value → List (List Value)
row_of j right built x = joined_row j.kind right x (filter (rows_match (matching j) x) built)

rows-same : (j : JoinSpec) (right : List ColType) (b c xs : List (List Value)) → SameWeight b c → SameWeight (joined_rows j right b xs) (joined_rows j right c xs)
rows-same j right b c xs same = λ h.
    weigh-flat_map h (row_of j right b) xs
    ∙ weigh-same (λ x. weigh h (row_of j right b x)) (λ x. weigh h (row_of j right c x)) xs
    (λ x. row-same j.kind right x (filter (rows_match (matching j) x) b) (filter (rows_match (matching j) x) c) (filter-same (rows_match (matching j) x) b c same) h)
    ∙ sym (weigh-flat_map h (row_of j right c) xs)

abbrev is_unmatched : JoinSpec → List (List Value) → List Value → Bool
is_unmatched j streamed y = not (list_any (λ x. rows_match (matching j) x y) streamed)

unmatched-same : (j : JoinSpec) (b c xs ys : List (List Value)) → SameWeight b c → SameSet xs ys → SameWeight (unmatched j b xs) (unmatched j c ys)
unmatched-same j b c xs ys same set = λ h.
    filter-alike h (is_unmatched j xs) (is_unmatched j ys) b (λ y. ap not (any-same (λ x. rows_match (matching j) x y) xs ys set))
    ∙ filter-same (is_unmatched j ys) b c same h

rest-same : (j : JoinSpec) (left : List ColType) (b c xs ys : List (List Value)) → SameWeight b c → SameSet xs ys → SameWeight (unmatched_rows j left b xs) (unmatched_rows j left c ys)
rest-same j left b c xs ys same set = λ h.
    elim (has_unmatched j.kind) as (λ u. weigh h (cond u (map (λ y. missing_row left ++ y) (unmatched j b xs)) []) ≡ weigh h (cond u (map (λ y. missing_row left ++ y) (unmatched j c ys)) [])) [
      | true ↦ map-same (λ y. missing_row left ++ y) (unmatched j b xs) (unmatched j c ys) (unmatched-same j b c xs ys same set) h
      | false ↦ refl
    ]

-- what it gives has no order
pub join-lawful : (j : JoinSpec) (left right : List ColType) (size : ℕ) (gathers : Bool) → LawfulMeaning (join_meaning j left right size) gathers false
join-lawful j left right size gathers = record {
  part_nil = λ b. refl;
  part_append = λ b xs ys. flat_map-append (row_of j right b) xs ys;
  part_same = λ b c xs same. rows-same j right b c xs (same-weight gathers b c same);
  rest_same = λ tails b c xs ys same set. rest-same j left b c xs ys (same-weight gathers b c same) set;
  fetch_wants = λ n wants front xs ys zs enough. absurd (cc);
}
