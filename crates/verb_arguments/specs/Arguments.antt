-- The arguments of a call, and terms of a form.
use Rattle.std.specs.Prelude.{ℕ, Bool, true, false, ◌&&◌, ◌||◌, codes, Option, Some, None, List, [], ◌∷◌, map, filter}
use Rattle.std.specs.List.{list_all}
use Rattle.std.specs.Str.{bytes_eq}
use Rattle.token_scan.specs.declared.token.Oper.{Oper}
use Rattle.token_scan.specs.declared.token.Oper.TheVariants as op
use Rattle.token_scan.specs.declared.token.Reserved.{Reserved}
use Rattle.token_scan.specs.declared.token.Reserved.TheVariants as word
use Rattle.syntax_tree.specs.declared.tree.Term.{Term, out-Term}
use Rattle.syntax_tree.specs.declared.tree.Call.{Call, out-Call}
use Rattle.syntax_tree.specs.declared.tree.Arg.{Arg, out-Arg}
use Rattle.syntax_tree.specs.declared.tree.TermKind.TheOpen.{Name, Whole, Decimal, Str, Word, Unary, Binary, Pipe}
use Rattle.syntax_tree.specs.declared.tree.TermKind.TheOpen as open_kind
use Rattle.syntax_tree.specs.declared.tree.TermKind.TheViews.{out-TermKind}

abbrev pub name_of : Arg → Option (List ℕ)
name_of a = (out-Arg a).name

abbrev pub place_of_arg : Arg → ℕ
place_of_arg a = (out-Arg a).at

abbrev pub value_of : Arg → Term
value_of a = (out-Arg a).value

abbrev pub is_unnamed : Arg → Bool
is_unnamed a = elim (name_of a) [ None ↦ true | Some name ↦ false ]

abbrev pub has_text : List ℕ → Option (List ℕ) → Bool
has_text text None = false
has_text text (Some name) = bytes_eq name text

-- whether an argument has this name
abbrev pub is_named : List ℕ → Arg → Bool
is_named text a = has_text text (name_of a)

abbrev pub count_named : List ℕ → List Arg → List Arg
count_named text args = filter (is_named text) args

-- an option stands at most once, with a value of its form
abbrev pub at_most_once : List Arg → Bool
at_most_once [] = true
at_most_once (a ∷ []) = true
at_most_once (a ∷ b ∷ args) = false

-- ---- terms of a form

-- the name that a term is
abbrev pub column_name : Term → Option (List ℕ)
column_name t = elim (out-TermKind (out-Term t).kind) [ Name n ↦ Some n | _ ↦ None ]

abbrev pub is_column : Term → Bool
is_column t = elim (column_name t) [ None ↦ false | Some n ↦ true ]

-- the arguments of a call of this function
abbrev pub arguments_of_call : List ℕ → Call → Option (List Arg)
arguments_of_call name c = elim (bytes_eq (out-Call c).name name) [ true ↦ Some (out-Call c).args | false ↦ None ]

abbrev pub arguments_of : List ℕ → Term → Option (List Arg)
arguments_of name t = elim (out-TermKind (out-Term t).kind) [ open_kind.Call c ↦ arguments_of_call name c | _ ↦ None ]

-- NAMES: one column, or `c(..)` of columns
abbrev pub is_column_argument : Arg → Bool
is_column_argument a = is_unnamed a && is_column (value_of a)

abbrev pub are_columns : Option (List Arg) → Bool
are_columns None = false
are_columns (Some args) = list_all is_column_argument args

abbrev pub is_names : Term → Bool
is_names t = is_column t || are_columns (arguments_of (codes "c") t)

-- the columns of NAMES, from the left
abbrev pub names_of : Term → List Term
names_of t = elim (arguments_of (codes "c") t) [ None ↦ t ∷ [] | Some args ↦ map value_of args ]

-- TRUE or FALSE
abbrev pub truth_of_word : Reserved → Option Bool
truth_of_word word.True = Some true
truth_of_word word.False = Some false
truth_of_word w = None

abbrev pub truth_of : Term → Option Bool
truth_of t = elim (out-TermKind (out-Term t).kind) [ Word w ↦ truth_of_word w | _ ↦ None ]

abbrev pub is_pipeline : Term → Bool
is_pipeline t = elim (out-TermKind (out-Term t).kind) [ Pipe p ↦ true | _ ↦ false ]

abbrev pub is_text : Term → Bool
is_text t = elim (out-TermKind (out-Term t).kind) [ Str text ↦ true | _ ↦ false ]

abbrev pub is_number : Term → Bool
is_number t = elim (out-TermKind (out-Term t).kind) [ Whole z ↦ true | Decimal m ↦ true | _ ↦ false ]

abbrev pub is_minus : Oper → Bool
is_minus op.Sub = true
is_minus o = false

-- `as.Date` of one text
abbrev pub is_one_text : Option (List Arg) → Bool
is_one_text None = false
is_one_text (Some []) = false
is_one_text (Some (a ∷ [])) = is_unnamed a && is_text (value_of a)
is_one_text (Some (a ∷ b ∷ args)) = false

-- whether a term has the form of a literal: a number, `-` and a number, a text, a word, or `as.Date` of a text
abbrev pub has_literal_form : Term → Bool
has_literal_form t =
    elim (out-TermKind (out-Term t).kind) [
      | Whole z ↦ true
      | Decimal m ↦ true
      | Str text ↦ true
      | Word w ↦ true
      | Unary o operand ↦ is_minus o && is_number operand
      | open_kind.Call c ↦ is_one_text (arguments_of_call (codes "as.Date") c)
      | _ ↦ false
    ]
