-- Each key stands once among the different keys.
use Rattle.std.proofs.Common.{◌≡◌, ℕ, ◌+◌, min, Bool, true, false, not, cond, List, [], ◌∷◌, filter, refl, sym, ◌∙◌, ap, true≢false, arith}
use Rattle.std.proofs.lemmas.List.Sums.{sum_by-cons}
use Rattle.scalar_value.specs.declared.value.Value.{Value}
use Rattle.row_table.specs.Keys.{different}
use Rattle.row_table.specs.SameTables.{row_same, times}
use Rattle.row_table.proofs.Rows.{row_same-decides}

abbrev one_if : Bool → ℕ
one_if b = cond b 1 0

times-cons : (key row : List Value) (rows : List (List Value)) → times key (row ∷ rows) ≡ one_if (row_same key row) + times key rows
times-cons key row rows = sum_by-cons (λ other. one_if (row_same key other)) row rows

false_if : (b : Bool) → (b ≡ true → ⊥) → b ≡ false
false_if true none = absurd (none refl)
false_if false none = refl

-- the list without the rows that equal `gone`
abbrev without : List Value → List (List Value) → List (List Value)
without gone rows = filter (λ other. not (row_same gone other)) rows

-- a row that equals `gone` does not equal another key
unequal : (gone key row : List Value) → row_same gone key ≡ false → row_same gone row ≡ true → row_same key row ≡ false
unequal gone key row apart h =
    false_if (row_same key row) (λ k.
    true≢false (sym ((row_same-decides gone key).1 ((row_same-decides gone row).0 h ∙ sym ((row_same-decides key row).0 k))) ∙ apart))

-- a row that equals the key equals what the key equals
equal_too : (gone key row : List Value) → row_same gone key ≡ true → row_same gone row ≡ false → row_same key row ≡ false
equal_too gone key row same h = ap (λ k. row_same k row) (sym ((row_same-decides gone key).0 same)) ∙ h

times-without_other : (gone key : List Value) (rows : List (List Value)) → row_same gone key ≡ false → times key (without gone rows) ≡ times key rows
times-without_other gone key [] apart = refl
times-without_other gone key (row ∷ rows) apart =
    let P : Bool → Type 0 = λ b. row_same gone row ≡ b → times key (cond (not b) (row ∷ without gone rows) (without gone rows)) ≡ times key (row ∷ rows) in
    let ih : times key (without gone rows) ≡ times key rows = times-without_other gone key rows apart in
    let whole : times key (row ∷ rows) ≡ one_if (row_same key row) + times key rows = times-cons key row rows in
    let dropped : P true = λ h.
    let none : one_if (row_same key row) ≡ 0 = ap one_if (unequal gone key row apart h) in
    omega arith in
    let kept : P false = λ h.
    let more : times key (row ∷ without gone rows) ≡ one_if (row_same key row) + times key (without gone rows) = times-cons key row (without gone rows) in
    omega arith in
    let either : (b : Bool) → P b = λ b. elim b as P [ true ↦ dropped | false ↦ kept ] in
    either (row_same gone row) refl

times-without_it : (gone key : List Value) (rows : List (List Value)) → row_same gone key ≡ true → times key (without gone rows) ≡ 0
times-without_it gone key [] same = refl
times-without_it gone key (row ∷ rows) same =
    let P : Bool → Type 0 = λ b. row_same gone row ≡ b → times key (cond (not b) (row ∷ without gone rows) (without gone rows)) ≡ 0 in
    let ih : times key (without gone rows) ≡ 0 = times-without_it gone key rows same in
    let dropped : P true = λ h. ih in
    let kept : P false = λ h.
    let more : times key (row ∷ without gone rows) ≡ one_if (row_same key row) + times key (without gone rows) = times-cons key row (without gone rows) in
    let none : one_if (row_same key row) ≡ 0 = ap one_if (equal_too gone key row same h) in
    omega arith in
    let either : (b : Bool) → P b = λ b. elim b as P [ true ↦ dropped | false ↦ kept ] in
    either (row_same gone row) refl

turned : (x y : List Value) (b : Bool) → row_same x y ≡ b → row_same y x ≡ b
turned x y true h = (row_same-decides y x).1 (sym ((row_same-decides x y).0 h))
turned x y false h = false_if (row_same y x) (λ k. true≢false (sym ((row_same-decides x y).1 (sym ((row_same-decides y x).0 k))) ∙ h))

pub times-different : (list : List (List Value)) (key : List Value) → times key (different list) ≡ min (times key list) 1
times-different [] key = refl
times-different (first ∷ rest) key =
    let P : Bool → Type 0 = λ b. row_same key first ≡ b → times key (different (first ∷ rest)) ≡ min (times key (first ∷ rest)) 1 in
    let ih : times key (different rest) ≡ min (times key rest) 1 = times-different rest key in
    let whole : times key (first ∷ rest) ≡ one_if (row_same key first) + times key rest = times-cons key first rest in
    let left : times key (different (first ∷ rest)) ≡ one_if (row_same key first) + times key (without first (different rest)) = times-cons key first (without first (different rest)) in
    let here : P true = λ h.
    let one : one_if (row_same key first) ≡ 1 = ap one_if h in
    let none : times key (without first (different rest)) ≡ 0 = times-without_it first key (different rest) (turned key first true h) in
    omega arith in
    let there : P false = λ h.
    let zero : one_if (row_same key first) ≡ 0 = ap one_if h in
    let all : times key (without first (different rest)) ≡ times key (different rest) = times-without_other first key (different rest) (turned key first false h) in
    omega arith in
    let either : (b : Bool) → P b = λ b. elim b as P [ true ↦ here | false ↦ there ] in
    either (row_same key first) refl
