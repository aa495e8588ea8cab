-- The forms of the verbs' arguments: what may stand, how often and under which names.
use Rattle.std.specs.Prelude.{ℕ, Bool, true, false, not, ◌&&◌, ◌||◌, codes, Option, Some, None, List, [], ◌∷◌, filter}
use Rattle.std.specs.List.{list_all, list_any}
use Rattle.std.specs.Str.{bytes_eq}
use Rattle.row_table.specs.declared.field.Field.{Field}
use Rattle.syntax_tree.specs.declared.tree.Term.{Term}
use Rattle.syntax_tree.specs.declared.tree.Arg.{Arg}
use Rattle.selections.specs.Selectors.{selector}
use Rattle.verb_arguments.specs.declared.names.VerbName.{VerbName}
use Rattle.verb_arguments.specs.declared.names.VerbName.TheVariants as verb
use Rattle.verb_arguments.specs.Arguments.{value_of, name_of, is_unnamed, is_named, count_named, at_most_once, is_column, is_column_argument, is_names, arguments_of, truth_of, is_pipeline, has_literal_form}

abbrev pub by : List ℕ
by = codes ".by"

-- an option stands at most once, with a value of its form
abbrev pub has_option : List ℕ → (Term → Bool) → List Arg → Bool
has_option name form args = at_most_once (count_named name args) && list_all (λ a. form (value_of a)) (count_named name args)

-- the other arguments are of one form
abbrev pub others : List (List ℕ) → (Arg → Bool) → List Arg → Bool
others options form args = list_all (λ a. list_any (λ name. is_named name a) options || form a) args

abbrev pub is_condition : Arg → Bool
is_condition a = is_unnamed a && not (is_pipeline (value_of a))

-- `mutate` has no `.keep`, `.before` and `.after` here
abbrev pub is_new_name : Option (List ℕ) → Bool
is_new_name None = false
is_new_name (Some name) = not (list_any (bytes_eq name) (codes ".keep" ∷ codes ".before" ∷ codes ".after" ∷ []))

abbrev pub is_new_column : Arg → Bool
is_new_column a = is_new_name (name_of a) && not (is_pipeline (value_of a))

abbrev pub is_renaming : Arg → Bool
is_renaming a = not (is_unnamed a) && is_column (value_of a)

abbrev pub is_selector : List Field → Arg → Bool
is_selector schema a = is_unnamed a && (selector schema (value_of a)).form

abbrev pub is_truth : Term → Bool
is_truth t = elim (truth_of t) [ None ↦ false | Some b ↦ true ]

abbrev pub is_anchor : Arg → Bool
is_anchor a = is_named (codes ".before") a || is_named (codes ".after") a

-- a column's replacement in `list(col = literal, ..)`
abbrev pub is_replacement : Arg → Bool
is_replacement a = not (is_unnamed a) && has_literal_form (value_of a)

abbrev pub are_replacements : Option (List Arg) → Bool
are_replacements None = false
are_replacements (Some args) = list_all is_replacement args

abbrev pub is_one_list : List Arg → Bool
is_one_list [] = false
is_one_list (a ∷ []) = is_unnamed a && are_replacements (arguments_of (codes "list") (value_of a))
is_one_list (a ∷ b ∷ args) = false

abbrev pub is_empty : List Arg → Bool
is_empty [] = true
is_empty (a ∷ args) = false

-- whether a verb's arguments have its form
abbrev pub has_form : VerbName → List Field → List Arg → Bool
has_form verb.Filter schema args = has_option by is_names args && others (by ∷ []) is_condition args
has_form verb.Mutate schema args = has_option by is_names args && others (by ∷ []) is_new_column args
has_form verb.Select schema args = list_all (λ a. is_selector schema a || is_renaming a) args
has_form verb.Rename schema args = list_all is_renaming args
has_form verb.Relocate schema args =
    at_most_once (filter is_anchor args) && list_all (λ a. (is_anchor a && is_column (value_of a)) || is_selector schema a) args
has_form verb.GroupBy schema args = has_option (codes ".add") is_truth args && others (codes ".add" ∷ []) is_column_argument args
has_form verb.Ungroup schema args = is_empty args
has_form verb.DropNa schema args = list_all is_column_argument args
has_form verb.ReplaceNa schema args = is_one_list args
