-- What a name stands for, by the lists of verbs.
use Rattle.std.proofs.Common.{◌≡◌, ℕ, refl, sym, ap, ◌∙◌, Bool, true, false, cond, List, [], ◌∷◌, map, Option, Some}
use Rattle.std.specs.Prelude.{find}
use Rattle.std.specs.Str.{bytes_eq}
use Rattle.verb_arguments.specs.declared.names.VerbName.{VerbName}
use Rattle.verb_arguments.specs.declared.names.LaterVerb.{LaterVerb}
use Rattle.verb_arguments.specs.declared.names.LeftOutVerb.{LeftOutVerb}
use Rattle.verb_arguments.specs.VerbNames.{verb_name, verbs, later_verbs, known_by, known}
use Rattle.verb_arguments.specs.Working.{later_name, laters, left_out_name, left_outs, named}

find_named : {X : Type 0} (f : X → List ℕ) (p : List ℕ → Bool) (xs : List X) → find p (map f xs) ≡ named f (find (λ x. p (f x)) xs)
find_named f p [] = refl
find_named f p (x ∷ xs) =
    elim (p (f x)) as (λ b. cond b (Some (f x)) (find p (map f xs)) ≡ named f (cond b (Some x) (find (λ y. p (f y)) xs))) [ true ↦ refl | false ↦ find_named f p xs ]

-- the look-up in all three lists
pub by_lists : (name : List ℕ) (a : Option VerbName) (b : Option LaterVerb) (c : Option LeftOutVerb)
    → a ≡ find (λ v. bytes_eq name (verb_name v)) verbs → b ≡ find (λ v. bytes_eq name (later_name v)) laters → c ≡ find (λ v. bytes_eq name (left_out_name v)) left_outs
    → known_by a (named later_name b) (named left_out_name c) ≡ known name
by_lists name a b c is_a is_b is_c =
    ap (λ v. known_by v (named later_name b) (named left_out_name c)) is_a
    ∙ ap (λ l. known_by (find (λ v. bytes_eq name (verb_name v)) verbs) l (named left_out_name c)) (ap (named later_name) is_b ∙ sym (find_named later_name (bytes_eq name) laters))
    ∙ ap (known_by (find (λ v. bytes_eq name (verb_name v)) verbs) (find (bytes_eq name) later_verbs)) (ap (named left_out_name) is_c ∙ sym (find_named left_out_name (bytes_eq name) left_outs))
