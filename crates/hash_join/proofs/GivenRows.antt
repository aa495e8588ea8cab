-- What left rows give, in the words of the node.
use Rattle.std.proofs.Common.{◌≡◌, Bool, true, false, ◌||◌, cond, not, List, [], ◌∷◌, ◌++◌, map, filter, refl, sym, ◌∙◌, ap, ap₂, append-nil}
use Rattle.std.specs.List.{list_any}
use Rattle.scalar_value.specs.declared.value.Value.{Value}
use Rattle.scalar_value.specs.declared.value.ColType.{ColType}
use Rattle.row_table.specs.declared.join.JoinKind.{JoinKind}
use Rattle.row_table.specs.declared.join.JoinKind.TheVariants.{Inner, Left, Right, Full, Semi, Anti}
use Rattle.row_table.specs.Keys.{rows_match}
use Rattle.plan_nodes.specs.declared.options.JoinSpec.{JoinSpec}
use Rattle.plan_nodes.specs.Kinds.{matching, missing_row, joined_row, joined_rows}
use Rattle.hash_join.specs.declared.window.Window.{Window}
use Rattle.hash_join.specs.Windows.{offered, offers}
use Rattle.hash_join.specs.Given.{given_row, given_rows}
use Rattle.hash_join.proofs.Windowed.{offers-append}

row-is : (kind : JoinKind) (right : List ColType) (x : List Value) (ys : List (List Value)) → given_row kind (missing_row right) x ys ≡ joined_row kind right x ys
row-is Inner right x ys = refl
row-is Left right x [] = refl
row-is Left right x (y ∷ ys) = refl
row-is Right right x ys = refl
row-is Full right x [] = refl
row-is Full right x (y ∷ ys) = refl
row-is Semi right x [] = refl
row-is Semi right x (y ∷ ys) = refl
row-is Anti right x [] = refl
row-is Anti right x (y ∷ ys) = refl

pub rows-are : (j : JoinSpec) (right : List ColType) (built rows : List (List Value)) → given_rows j (missing_row right) built rows ≡ joined_rows j right built rows
rows-are j right built [] = refl
rows-are j right built (x ∷ rows) = ap₂ (λ xs ys. xs ++ ys) (row-is j.kind right x (filter (rows_match (matching j) x) built)) (rows-are j right built rows)

-- ---- by whether a right row matches

abbrev some : List (List Value) → Bool
some [] = false
some (y ∷ ys) = true

any-some : (f : List Value → Bool) (ys : List (List Value)) → list_any f ys ≡ some (filter f ys)
any-some f [] = refl
any-some f (y ∷ ys) =
    elim (f y) as (λ b. b || list_any f ys ≡ some (cond b (y ∷ filter f ys) (filter f ys))) [
      | true ↦ refl
      | false ↦ any-some f ys
    ]

semi : (missing x : List Value) (ys : List (List Value)) → cond (some ys) ((x ++ []) ∷ []) [] ≡ given_row Semi missing x ys
semi missing x [] = refl
semi missing x (y ∷ ys) = ap (λ r. r ∷ []) (append-nil x)

anti : (missing x : List Value) (ys : List (List Value)) → cond (not (some ys)) ((x ++ []) ∷ []) [] ≡ given_row Anti missing x ys
anti missing x [] = ap (λ r. r ∷ []) (append-nil x)
anti missing x (y ∷ ys) = refl

abbrev with_missing : List Value → List Value → List (List Value) → List (List Value)
with_missing missing x ys = map (λ y. x ++ y) ys ++ cond (not (some ys)) ((x ++ missing) ∷ []) []

left : (missing x : List Value) (ys : List (List Value)) → with_missing missing x ys ≡ given_row Left missing x ys
left missing x [] = refl
left missing x (y ∷ ys) = append-nil (map (λ y. x ++ y) (y ∷ ys))

all : (missing x : List Value) (ys : List (List Value)) → with_missing missing x ys ≡ given_row Full missing x ys
all missing x [] = refl
all missing x (y ∷ ys) = append-nil (map (λ y. x ++ y) (y ∷ ys))

module _ (f : List Value → Bool) (missing x : List Value) (built : List (List Value)) (w v : Window) where
  pub semi-offered : v ≡ offers w (cond (list_any f built) ((x ++ []) ∷ []) []) → v ≡ offers w (given_row Semi missing x (filter f built))
  semi-offered e = e ∙ ap (λ b. offers w (cond b ((x ++ []) ∷ []) [])) (any-some f built) ∙ ap (offers w) (semi missing x (filter f built))

  pub anti-offered : v ≡ offers w (cond (not (list_any f built)) ((x ++ []) ∷ []) []) → v ≡ offers w (given_row Anti missing x (filter f built))
  anti-offered e = e ∙ ap (λ b. offers w (cond (not b) ((x ++ []) ∷ []) [])) (any-some f built) ∙ ap (offers w) (anti missing x (filter f built))

  both-offered : (u : Window) → u ≡ offers w (map (λ y. x ++ y) (filter f built)) → v ≡ offers u (cond (not (list_any f built)) ((x ++ missing) ∷ []) []) → v ≡ offers w (with_missing missing x (filter f built))
  both-offered u first last =
      last
      ∙ ap₂ (λ (z : Window) (b : Bool). offers z (cond (not b) ((x ++ missing) ∷ []) [])) first (any-some f built)
      ∙ sym (offers-append w (map (λ y. x ++ y) (filter f built)) (cond (not (some (filter f built))) ((x ++ missing) ∷ []) []))

  pub left-offered : (u : Window) → u ≡ offers w (map (λ y. x ++ y) (filter f built)) → v ≡ offers u (cond (not (list_any f built)) ((x ++ missing) ∷ []) []) → v ≡ offers w (given_row Left missing x (filter f built))
  left-offered u first last = both-offered u first last ∙ ap (offers w) (left missing x (filter f built))

  pub full-offered : (u : Window) → u ≡ offers w (map (λ y. x ++ y) (filter f built)) → v ≡ offers u (cond (not (list_any f built)) ((x ++ missing) ∷ []) []) → v ≡ offers w (given_row Full missing x (filter f built))
  full-offered u first last = both-offered u first last ∙ ap (offers w) (all missing x (filter f built))

-- ---- one row more

row-more : (w : Window) (f : List Value → Bool) (x y : List Value) (ys : List (List Value))
    → offers w (map (λ z. x ++ z) (filter f (ys ++ y ∷ []))) ≡ offers (offers w (map (λ z. x ++ z) (filter f ys))) (cond (f y) ((x ++ y) ∷ []) [])
row-more w f x y [] =
    elim (f y) as (λ b. offers w (map (λ z. x ++ z) (cond b (y ∷ []) [])) ≡ offers w (cond b ((x ++ y) ∷ []) [])) [
      | true ↦ refl
      | false ↦ refl
    ]
row-more w f x y (z ∷ ys) =
    elim (f z) as (λ b. offers w (map (λ r. x ++ r) (cond b (z ∷ filter f (ys ++ y ∷ [])) (filter f (ys ++ y ∷ [])))) ≡ offers (offers w (map (λ r. x ++ r) (cond b (z ∷ filter f ys) (filter f ys)))) (cond (f y) ((x ++ y) ∷ []) [])) [
      | true ↦ row-more (offered w (x ++ z)) f x y ys
      | false ↦ row-more w f x y ys
    ]

any-more : (f : List Value → Bool) (y : List Value) (ys : List (List Value)) → list_any f (ys ++ y ∷ []) ≡ list_any f ys || f y
any-more f y [] = elim (f y) as (λ b. b || false ≡ b) [
  | true ↦ refl
  | false ↦ refl
]
any-more f y (z ∷ ys) = elim (f z) as (λ b. b || list_any f (ys ++ y ∷ []) ≡ (b || list_any f ys) || f y) [
  | true ↦ refl
  | false ↦ any-more f y ys
]

pub offered-more : (f : List Value → Bool) (x y : List Value) (ys zs : List (List Value)) (w u v : Window) → zs ≡ ys ++ y ∷ [] → u ≡ offers w (map (λ z. x ++ z) (filter f ys))
    → v ≡ offers u (cond (f y) ((x ++ y) ∷ []) []) → v ≡ offers w (map (λ z. x ++ z) (filter f zs))
offered-more f x y ys zs w u v more first last =
    last
    ∙ ap (λ z. offers z (cond (f y) ((x ++ y) ∷ []) [])) first
    ∙ sym (row-more w f x y ys)
    ∙ ap (λ rs. offers w (map (λ z. x ++ z) (filter f rs))) (sym more)

pub seen-more : (f : List Value → Bool) (y : List Value) (ys zs : List (List Value)) (a h : Bool) → zs ≡ ys ++ y ∷ [] → a ≡ list_any f ys → h ≡ f y → a || h ≡ list_any f zs
seen-more f y ys zs a h more seen hit = ap₂ (λ b c. b || c) seen hit ∙ sym (any-more f y ys) ∙ ap (list_any f) (sym more)

-- ---- one right row more that may be left over

filter-more : (f : List Value → Bool) (y : List Value) (ys : List (List Value)) → filter f (ys ++ y ∷ []) ≡ filter f ys ++ cond (f y) (y ∷ []) []
filter-more f y [] = refl
filter-more f y (z ∷ ys) =
    elim (f z) as (λ b. cond b (z ∷ filter f (ys ++ y ∷ [])) (filter f (ys ++ y ∷ [])) ≡ cond b (z ∷ filter f ys) (filter f ys) ++ cond (f y) (y ∷ []) []) [
      | true ↦ ap (λ rs. z ∷ rs) (filter-more f y ys)
      | false ↦ filter-more f y ys
    ]

pub kept-more : (f : List Value → Bool) (y : List Value) (ys zs made next : List (List Value)) → zs ≡ ys ++ y ∷ [] → made ≡ filter f ys → f y ≡ true → next ≡ made ++ y ∷ [] → next ≡ filter f zs
kept-more f y ys zs made next more so-far keeps is =
    is
    ∙ ap₂ (λ rs b. rs ++ cond b (y ∷ []) []) so-far (sym keeps)
    ∙ sym (filter-more f y ys)
    ∙ ap (filter f) (sym more)

pub kept-same : (f : List Value → Bool) (y : List Value) (ys zs made next : List (List Value)) → zs ≡ ys ++ y ∷ [] → made ≡ filter f ys → f y ≡ false → next ≡ made → next ≡ filter f zs
kept-same f y ys zs made next more so-far drops is =
    is
    ∙ so-far
    ∙ sym (append-nil (filter f ys))
    ∙ ap (λ b. filter f ys ++ cond b (y ∷ []) []) (sym drops)
    ∙ sym (filter-more f y ys)
    ∙ ap (filter f) (sym more)
