-- The names that the code keeps, for those of the definitions.
use Rattle.std.proofs.Common.{◌≡◌, ◌<◌, ℕ, ◌+◌, Bool, true, false, if◌then◌else◌, Option, Some, None, List, [], ◌∷◌, ◌++◌, take, length, refl, sym, ap, subst, ◌∙◌, add-one, get_or}
use Rattle.std.specs.Str.{bytes_eq}
use Rattle.std.proofs.lemmas.Option.{slice_get_read}
use Rattle.std.proofs.Math.Seq.{take-suc}
use Rattle.std.proofs.lemmas.List.{map-append}
use Rattle.plan_nodes.specs.Operators.{Each}
use Rattle.script_evaluation.specs.declared.stage.Stage.{Stage}
use Rattle.script_evaluation.specs.Evaluation.{Named, Evaluated, Scope, of_words, opening, or_earlier, found}
use Rattle.script_evaluation.specs.EvaluationLaws.{IsStageOf}
use Rattle.script_evaluation.specs.Working.{StageScope, IsEntryOf, IsScopeOf, table_stage, or_earlier_stage, found_stage}

-- ---- one name more

each_more : {A B : Type 0} (R : A → B → Type 0) (xs : List A) (ys : List B) (x : A) (y : B) → Each R xs ys → R x y → Each R (xs ++ x ∷ []) (ys ++ y ∷ [])
each_more R [] [] x y h r = (r, tt)
each_more R [] (b ∷ ys) x y h r = absurd h
each_more R (a ∷ xs) [] x y h r = absurd h
each_more R (a ∷ xs) (b ∷ ys) x y h r = (h.0, each_more R xs ys x y h.1 r)

pub scope_more : (tables : List Named) (scope : Scope) (stages : StageScope) (name : List ℕ) (e : Evaluated) (stage : Stage) → IsScopeOf tables scope stages → IsStageOf tables e stage
    → IsScopeOf tables (scope ++ (name, e) ∷ []) (stages ++ (name, stage) ∷ [])
scope_more tables scope stages name e stage h is = each_more (IsEntryOf tables) scope stages (name, e) (name, stage) h (record { name = refl; stage = is })

-- the tables of the words, one after the other
pub words_more : (tables : List Named) (k : ℕ) (t : Named) (stages : StageScope) → k < length tables → t ≡ get_or tables k t → IsScopeOf tables (opening (take k tables)) stages
    → IsScopeOf tables (opening (take (k + 1) tables)) (stages ++ (t.0, table_stage t k) ∷ [])
words_more tables k t stages low is h =
    let stage : IsStageOf tables (of_words t).1 (table_stage t k) = record { tree = refl; shape = refl; source = slice_get_read tables (length tables) k t refl low is } in
    let one : take (k + 1) tables ≡ take k tables ++ t ∷ [] = ap (λ n. take n tables) (add-one k) ∙ (take-suc tables k t low ∙ ap (λ x. take k tables ++ x ∷ []) (sym is)) in
    let more : opening (take (k + 1) tables) ≡ opening (take k tables) ++ of_words t ∷ [] = ap opening one ∙ map-append of_words (take k tables) (t ∷ []) in
    subst (λ scope. IsScopeOf tables scope (stages ++ (t.0, table_stage t k) ∷ [])) (sym more) (scope_more tables (opening (take k tables)) stages t.0 (of_words t).1 (table_stage t k) h stage)

-- ---- what a name stands for

either_stage : (b : Bool) (later earlier : Option Stage) (x : Stage) → or_earlier_stage (if b then Some x else later) earlier ≡ (if b then Some x else or_earlier_stage later earlier)
either_stage true later earlier x = refl
either_stage false later earlier x = refl

-- the last of the names decides
pub found_last : (name : List ℕ) (front : StageScope) (entry : List ℕ × Stage) → found_stage name (front ++ entry ∷ []) ≡ (if bytes_eq entry.0 name then Some entry.1 else found_stage name front)
found_last name [] entry = refl
found_last name (first ∷ front) entry =
    ap (λ o. or_earlier_stage o (if bytes_eq first.0 name then Some first.1 else None)) (found_last name front entry)
    ∙ either_stage (bytes_eq entry.0 name) (found_stage name front) (if bytes_eq first.0 name then Some first.1 else None) entry.1

pub found_turn : (name : List ℕ) (stages rest front : StageScope) (entry : List ℕ × Stage) → found_stage name stages ≡ found_stage name rest → rest ≡ front ++ entry ∷ []
    → found_stage name stages ≡ (if bytes_eq entry.0 name then Some entry.1 else found_stage name front)
found_turn name stages rest front entry h is = h ∙ (ap (found_stage name) is ∙ found_last name front entry)

-- nothing for nothing, and a stage for what it is the stage of
abbrev pub IsFoundAs : List Named → Option Evaluated → Option Stage → Type 0
IsFoundAs tables None None = Unit {0}
IsFoundAs tables None (Some stage) = ⊥
IsFoundAs tables (Some e) None = ⊥
IsFoundAs tables (Some e) (Some stage) = IsStageOf tables e stage

or_earlier_as : (tables : List Named) (later : Option Evaluated) (made : Option Stage) (b : Bool) (e : Evaluated) (stage : Stage) → IsFoundAs tables later made → IsStageOf tables e stage
    → IsFoundAs tables (or_earlier later (if b then Some e else None)) (or_earlier_stage made (if b then Some stage else None))
or_earlier_as tables None None true e stage h is = is
or_earlier_as tables None None false e stage h is = tt
or_earlier_as tables None (Some y) b e stage h is = absurd h
or_earlier_as tables (Some x) None b e stage h is = absurd h
or_earlier_as tables (Some x) (Some y) b e stage h is = h

pub found_as : (tables : List Named) (name : List ℕ) (scope : Scope) (stages : StageScope) → IsScopeOf tables scope stages → IsFoundAs tables (found name scope) (found_stage name stages)
found_as tables name [] [] h = tt
found_as tables name [] (y ∷ stages) h = absurd h
found_as tables name (x ∷ scope) [] h = absurd h
found_as tables name (x ∷ scope) (y ∷ stages) h =
    subst (λ n. IsFoundAs tables (found name (x ∷ scope)) (or_earlier_stage (found_stage name stages) (if bytes_eq n name then Some y.1 else None))) (sym h.0.name)
    (or_earlier_as tables (found name scope) (found_stage name stages) (bytes_eq x.0 name) x.1 y.1 (found_as tables name scope stages h.1) h.0.stage)

pub found_some : (tables : List Named) (o : Option Evaluated) (made : Option Stage) (stage : Stage) → IsFoundAs tables o made → Some stage ≡ made → (e : Evaluated) × (o ≡ Some e) × IsStageOf tables e stage
found_some tables (Some e) (Some y) stage h is = let same : y ≡ stage = cc in (e, refl, subst (IsStageOf tables e) same h)
found_some tables None (Some y) stage h is = absurd h
found_some tables (Some e) None stage h is = absurd h
found_some tables None None stage h is = absurd (cc)

pub found_none : (tables : List Named) (o : Option Evaluated) (made : Option Stage) → IsFoundAs tables o made → None ≡ made → o ≡ None
found_none tables None None h is = refl
found_none tables (Some e) None h is = absurd h
found_none tables None (Some y) h is = absurd h
found_none tables (Some e) (Some y) h is = absurd (cc)
