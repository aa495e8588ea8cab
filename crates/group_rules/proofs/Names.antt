-- Names that are each taken once, and the first of distinct names.
use Prim.Native.Nat.{zero}
use Rattle.std.proofs.Common.{◌≡◌, ℕ, suc, Bool, true, false, ◌&&◌, ◌||◌, not, cond, List, [], ◌∷◌, ◌++◌, take, filter, append-nil, length, get_or, add-one, ◌+◌, ◌<◌, refl, sym, ◌∙◌, ap, subst}
use Rattle.std.proofs.Math.Seq.{take-suc}
use Rattle.std.specs.Str.{bytes_eq}
use Rattle.std.proofs.lemmas.Slice.Eq.{bytes_eq-Decides}
use Rattle.row_table.specs.Tables.{among_texts}
use Rattle.group_rules.specs.declared.groups.Dropping.TheVariants.{DropLast, Drop, Keep}
use Rattle.group_rules.specs.Groups.{each_once, are_distinct}
use Rattle.group_rules.specs.GroupLaws.{OnceAmong, OnceDistinct, OnceItself, SummarisedDistinct}

-- the names but this one
abbrev without : List ℕ → List (List ℕ) → List (List ℕ)
without name names = filter (λ other. not (bytes_eq name other)) names

bytes_eq-false : (x y z : List ℕ) → bytes_eq x y ≡ true → bytes_eq x z ≡ false → bytes_eq y z ≡ false
bytes_eq-false x y z same differ = let P : List ℕ → Type 0 = λ w. bytes_eq w z ≡ false in subst P ((bytes_eq-Decides x y).0 same) differ

-- another name stands among the names but this one where it stands among them
among-without : (name other : List ℕ) (names : List (List ℕ)) → bytes_eq name other ≡ false → among_texts other (without name names) ≡ among_texts other names
among-without name other [] differ = refl
among-without name other (n ∷ ns) differ =
    let P : Bool → Type 0 = λ b. bytes_eq name n ≡ b → among_texts other (cond (not b) (n ∷ without name ns) (without name ns)) ≡ bytes_eq n other || among_texts other ns in
    let same : P true = λ h. among-without name other ns differ ∙ ap (λ b. b || among_texts other ns) (sym (bytes_eq-false name n other h differ)) in
    let apart : P false = λ h. ap (λ b. bytes_eq n other || b) (among-without name other ns differ) in
    let either : (b : Bool) → P b = λ b. elim b as P [ true ↦ same | false ↦ apart ] in
    either (bytes_eq name n) refl

or_where : (a b c : Bool) → (a ≡ false → b ≡ c) → a || b ≡ a || c
or_where true b c h = refl
or_where false b c h = h refl

pub among-once : OnceAmong
among-once name [] = refl
among-once name (n ∷ ns) =
    or_where (bytes_eq n name) (among_texts name (without n (each_once ns))) (among_texts name ns)
    (λ differ. among-without n name (each_once ns) differ ∙ among-once name ns)

without-append : (name last : List ℕ) (names : List (List ℕ)) → without name (names ++ last ∷ []) ≡ without name names ++ without name (last ∷ [])
without-append name last [] = refl
without-append name last (n ∷ ns) =
    elim (bytes_eq name n) as (λ b. cond (not b) (n ∷ without name (ns ++ last ∷ [])) (without name (ns ++ last ∷ [])) ≡ cond (not b) (n ∷ without name ns) (without name ns) ++ without name (last ∷ [])) [
      | true ↦ without-append name last ns
      | false ↦ ap (λ rest. n ∷ rest) (without-append name last ns)
    ]

-- one more name is taken unless it was there
pub once-append : (names : List (List ℕ)) (last : List ℕ) → each_once (names ++ last ∷ []) ≡ cond (among_texts last names) (each_once names) (each_once names ++ last ∷ [])
once-append [] last = refl
once-append (n ∷ ns) last =
    let rest = once-append ns last in
    ap (λ names. n ∷ without n names) rest ∙ step (bytes_eq n last) (among_texts last ns) refl
  where
    step : (a b : Bool) → bytes_eq n last ≡ a
        → n ∷ without n (cond b (each_once ns) (each_once ns ++ last ∷ [])) ≡ cond (a || b) (n ∷ without n (each_once ns)) (n ∷ without n (each_once ns) ++ last ∷ [])
    step true true h = refl
    step false true h = refl
    step true false h = ap (λ names. n ∷ names) (without-append n last (each_once ns) ∙ ap (λ c. without n (each_once ns) ++ cond (not c) (last ∷ []) []) h ∙ append-nil (without n (each_once ns)))
    step false false h = ap (λ names. n ∷ names) (without-append n last (each_once ns) ∙ ap (λ c. without n (each_once ns) ++ cond (not c) (last ∷ []) []) h)

or_parts : (a b : Bool) → a || b ≡ false → (a ≡ false) × (b ≡ false)
or_parts true b h = (cc, cc)
or_parts false b h = (refl, h)

and_parts : (a b : Bool) → a && b ≡ true → (a ≡ true) × (b ≡ true)
and_parts true b h = (refl, h)
and_parts false b h = (cc, cc)

and_both : (a b : Bool) → a ≡ true → b ≡ true → a && b ≡ true
and_both a b p q = cc

alike : (a b : Bool) → (a ≡ true → b ≡ true) → (b ≡ true → a ≡ true) → a ≡ b
alike true b f g = sym (f refl)
alike false true f g = g refl
alike false false f g = refl

bytes_eq-turned : (x y : List ℕ) → bytes_eq x y ≡ bytes_eq y x
bytes_eq-turned x y =
    alike (bytes_eq x y) (bytes_eq y x) (λ h. (bytes_eq-Decides y x).1 (sym ((bytes_eq-Decides x y).0 h))) (λ h. (bytes_eq-Decides x y).1 (sym ((bytes_eq-Decides y x).0 h)))

not_among-without : (name : List ℕ) (names : List (List ℕ)) → among_texts name (without name names) ≡ false
not_among-without name [] = refl
not_among-without name (n ∷ ns) =
    let P : Bool → Type 0 = λ b. bytes_eq name n ≡ b → among_texts name (cond (not b) (n ∷ without name ns) (without name ns)) ≡ false in
    let same : P true = λ h. not_among-without name ns in
    let apart : P false = λ h. ap (λ b. b || among_texts name (without name ns)) (bytes_eq-turned n name ∙ h) ∙ not_among-without name ns in
    let either : (b : Bool) → P b = λ b. elim b as P [ true ↦ same | false ↦ apart ] in
    either (bytes_eq name n) refl

distinct-without : (name : List ℕ) (names : List (List ℕ)) → are_distinct names ≡ true → are_distinct (without name names) ≡ true
distinct-without name [] h = refl
distinct-without name (n ∷ ns) h =
    let parts = and_parts (not (among_texts n ns)) (are_distinct ns) h in
    let rest = distinct-without name ns parts.1 in
    let P : Bool → Type 0 = λ b. bytes_eq name n ≡ b → are_distinct (cond (not b) (n ∷ without name ns) (without name ns)) ≡ true in
    let same : P true = λ e. rest in
    let apart : P false = λ e. and_both (not (among_texts n (without name ns))) (are_distinct (without name ns)) (ap not (among-without name n ns e) ∙ parts.0) rest in
    let either : (b : Bool) → P b = λ b. elim b as P [ true ↦ same | false ↦ apart ] in
    either (bytes_eq name n) refl

pub once-distinct : OnceDistinct
once-distinct [] = refl
once-distinct (n ∷ ns) =
    and_both (not (among_texts n (without n (each_once ns)))) (are_distinct (without n (each_once ns))) (ap not (not_among-without n (each_once ns)))
    (distinct-without n (each_once ns) (once-distinct ns))

not_false : (b : Bool) → not b ≡ true → b ≡ false
not_false true h = cc
not_false false h = refl

without-absent : (name : List ℕ) (names : List (List ℕ)) → among_texts name names ≡ false → without name names ≡ names
without-absent name [] h = refl
without-absent name (n ∷ ns) h =
    let parts = or_parts (bytes_eq n name) (among_texts name ns) h in
    ap (λ b. cond (not b) (n ∷ without name ns) (without name ns)) (bytes_eq-turned name n ∙ parts.0) ∙ ap (λ rest. n ∷ rest) (without-absent name ns parts.1)

pub once-itself : OnceItself
once-itself [] h = refl
once-itself (n ∷ ns) h =
    let parts = and_parts (not (among_texts n ns)) (are_distinct ns) h in
    ap (λ names. n ∷ without n names) (once-itself ns parts.1) ∙ ap (λ names. n ∷ names) (without-absent n ns (not_false (among_texts n ns) parts.0))

not_among-take : (count : ℕ) (name : List ℕ) (names : List (List ℕ)) → among_texts name names ≡ false → among_texts name (take count names) ≡ false
not_among-take zero name names h = refl
not_among-take (suc k) name [] h = refl
not_among-take (suc k) name (n ∷ ns) h =
    let parts = or_parts (bytes_eq n name) (among_texts name ns) h in
    ap (λ b. b || among_texts name (take k ns)) parts.0 ∙ not_among-take k name ns parts.1

distinct-take : (count : ℕ) (names : List (List ℕ)) → are_distinct names ≡ true → are_distinct (take count names) ≡ true
distinct-take zero names h = refl
distinct-take (suc k) [] h = refl
distinct-take (suc k) (n ∷ ns) h =
    let parts = and_parts (not (among_texts n ns)) (are_distinct ns) h in
    and_both (not (among_texts n (take k ns))) (are_distinct (take k ns)) (ap not (not_among-take k n ns (not_false (among_texts n ns) parts.0))) (distinct-take k ns parts.1)

pub summarised-distinct : SummarisedDistinct
summarised-distinct DropLast groups h = distinct-take _ groups h
summarised-distinct Drop groups h = refl
summarised-distinct Keep groups h = h

-- one turn more of taking each name once
pub once-next : (names : List (List ℕ)) (count : ℕ) (name : List ℕ) (made next : List (List ℕ)) → count < length names → name ≡ get_or names count name
    → made ≡ each_once (take count names) → next ≡ cond (among_texts name made) made (made ++ name ∷ []) → next ≡ each_once (take (count + 1) names)
once-next names count name made next below there before step =
    let grown : take (count + 1) names ≡ take count names ++ name ∷ [] =
    ap (λ k. take k names) (add-one count) ∙ take-suc names count name below ∙ ap (λ n. take count names ++ n ∷ []) (sym there) in
    let begun = take count names in
    step ∙ ap (λ m. cond (among_texts name m) m (m ++ name ∷ [])) before ∙ ap (λ b. cond b (each_once begun) (each_once begun ++ name ∷ [])) (among-once name begun)
    ∙ sym (once-append begun name) ∙ ap each_once (sym grown)
