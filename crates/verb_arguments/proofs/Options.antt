-- An option that stands at most once, read from the left.
use Rattle.std.proofs.Common.{◌≡◌, ℕ, refl, ap, ◌∙◌, Bool, true, false, not, cond, ◌&&◌, List, [], ◌∷◌}
use Rattle.std.specs.Prelude.{filter}
use Rattle.std.specs.List.{list_all}
use Rattle.syntax_tree.specs.declared.tree.Arg.{Arg}
use Rattle.syntax_tree.specs.declared.tree.Term.{Term}
use Rattle.verb_arguments.specs.Arguments.{value_of, is_named, count_named, at_most_once}
use Rattle.verb_arguments.specs.Forms.{has_option, is_anchor, is_empty}
use Rattle.verb_arguments.specs.Working.{option_left, anchors_left}

option_again : (name : List ℕ) (test : Term → Bool) (args : List Arg) → option_left true name test args ≡ is_empty (count_named name args)
option_again name test [] = refl
option_again name test (a ∷ args) =
    elim (is_named name a) as (λ b. cond b (not true && (test (value_of a) && option_left true name test args)) (option_left true name test args) ≡ is_empty (cond b (a ∷ count_named name args) (count_named name args)))
    [ true ↦ refl | false ↦ option_again name test args ]

first_named : (t : Bool) (a : Arg) (form : Arg → Bool) (others : List Arg) → (t && is_empty others) ≡ (at_most_once (a ∷ others) && (t && list_all form others))
first_named true a form [] = refl
first_named true a form (b ∷ bs) = refl
first_named false a form [] = refl
first_named false a form (b ∷ bs) = refl

pub option_read : (name : List ℕ) (test : Term → Bool) (args : List Arg) → option_left false name test args ≡ has_option name test args
option_read name test [] = refl
option_read name test (a ∷ args) =
    elim (is_named name a) as (λ b. cond b (not false && (test (value_of a) && option_left true name test args)) (option_left false name test args) ≡ (at_most_once (cond b (a ∷ count_named name args) (count_named name args)) && list_all (λ x. test (value_of x)) (cond b (a ∷ count_named name args) (count_named name args)))) [
      | true ↦ ap (λ e. test (value_of a) && e) (option_again name test args) ∙ first_named (test (value_of a)) a (λ x. test (value_of x)) (count_named name args)
      | false ↦ option_read name test args
    ]

anchors_again : (args : List Arg) → anchors_left true args ≡ is_empty (filter is_anchor args)
anchors_again [] = refl
anchors_again (a ∷ args) =
    elim (is_anchor a) as (λ b. cond b (not true && anchors_left true args) (anchors_left true args) ≡ is_empty (cond b (a ∷ filter is_anchor args) (filter is_anchor args)))
    [ true ↦ refl | false ↦ anchors_again args ]

once_empty : (a : Arg) (others : List Arg) → is_empty others ≡ at_most_once (a ∷ others)
once_empty a [] = refl
once_empty a (b ∷ bs) = refl

pub anchors_read : (args : List Arg) → anchors_left false args ≡ at_most_once (filter is_anchor args)
anchors_read [] = refl
anchors_read (a ∷ args) =
    elim (is_anchor a) as (λ b. cond b (not false && anchors_left true args) (anchors_left false args) ≡ at_most_once (cond b (a ∷ filter is_anchor args) (filter is_anchor args)))
    [ true ↦ anchors_again args ∙ once_empty a (filter is_anchor args) | false ↦ anchors_read args ]
