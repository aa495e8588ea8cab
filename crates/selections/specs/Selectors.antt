-- The selections of tidyselect that a script may write, selector by selector from left to right.
use Rattle.std.specs.Prelude.{ℕ, Bool, true, false, ◌&&◌, nat_eq, if◌then◌else◌, codes, Option, Some, None, Result, Ok, List, [], ◌∷◌, map}
use Rattle.std.specs.List.{list_all, starts_with, ends_with}
use Rattle.std.specs.Str.{bytes_eq}
use Rattle.row_table.specs.declared.field.Field.{Field}
use Rattle.token_scan.specs.declared.token.Oper.{Oper}
use Rattle.token_scan.specs.declared.token.Oper.TheVariants as op
use Rattle.syntax_tree.specs.declared.tree.Term.{Term, Term-F}
use Rattle.syntax_tree.specs.declared.tree.TermKind.TheOpen.{TermKind-F, Arg-F, Call-F, Pipe-F, Name, Whole, Decimal, Str, Word, Unary, Binary, Pipe}
use Rattle.syntax_tree.specs.declared.tree.TermKind.TheOpen as open_kind
use Rattle.syntax_tree.specs.declared.tree.Call.{Call}
use Rattle.syntax_tree.specs.declared.tree.Arg.{Arg}
use Rattle.syntax_tree.specs.declared.tree.TermKind.TheFolds.{fold-Term, fold-Call, fold-Arg}
use Rattle.term_calls.specs.declared.fault.TermFault.{TermFault}
use Rattle.term_calls.specs.declared.fault.TermFaultKind.TheVariants.{UnknownColumn}
use Rattle.term_calls.specs.Faults.{and_then, fault}
use Rattle.term_types.specs.Terms.{place_of, is_none}
use Rattle.selections.specs.declared.selector.Selector.{Selector}
use Rattle.selections.specs.Columns.{all_places, with_or_without, between, lowered, contains_text, places_that}

abbrev pub no_selector : Option (List ℕ) → Selector
no_selector text = record { form = false; column = false; away = false; columns = Ok []; text = text }

abbrev pub of_columns : Bool → Result (List ℕ) TermFault → Selector
of_columns form columns = record { form = form; column = false; away = false; columns = columns; text = None }

abbrev pub column_or_unknown : ℕ → Option ℕ → Result (List ℕ) TermFault
column_or_unknown at None = fault UnknownColumn at
column_or_unknown at (Some place) = Ok (place ∷ [])

abbrev pub column_selector : ℕ → Option ℕ → Selector
column_selector at place = record (of_columns true (column_or_unknown at place)) { column = true }

-- ---- selections

abbrev pub first_away : List Selector → Bool
first_away [] = false
first_away (s ∷ ss) = s.away

-- what is chosen at the start: nothing, or all columns where the first selector takes columns away
abbrev pub start : List Field → List Selector → List ℕ
start schema ss = if first_away ss then all_places schema else []

abbrev pub with_selector : List ℕ → Selector → List ℕ → List ℕ
with_selector had s columns = with_or_without had s.away columns

abbrev pub with_selectors : List ℕ → List Selector → Result (List ℕ) TermFault
with_selectors had [] = Ok had
with_selectors had (s ∷ ss) = and_then s.columns (λ columns. with_selectors (with_selector had s columns) ss)

-- the columns of a selection, or the first that is not there
abbrev pub selection : List Field → List Selector → Result (List ℕ) TermFault
selection schema ss = with_selectors (start schema ss) ss

-- ---- calls: `everything()`, `starts_with("s")`, `ends_with("s")`, `contains("s")` and `c(..)`

pub record SelectorArgument : Type 0 where
  pub name : Option (List ℕ)
  pub value : Selector

abbrev pub is_plain : SelectorArgument → Bool
is_plain a = is_none a.name && a.value.form

abbrev pub values : List SelectorArgument → List Selector
values args = map (λ (a : SelectorArgument). a.value) args

-- the columns whose name passes with a text, without regard to case
abbrev pub by_one_text : List Field → (List ℕ → List ℕ → Bool) → Option (List ℕ) → Option (List ℕ) → Selector
by_one_text schema test None (Some text) = of_columns true (Ok (places_that (λ name. test (lowered text) (lowered name)) schema))
by_one_text schema test None None = no_selector None
by_one_text schema test (Some name) text = no_selector None

-- a selector by the one text in its parentheses
abbrev pub by_text : List Field → (List ℕ → List ℕ → Bool) → List SelectorArgument → Selector
by_text schema test [] = no_selector None
by_text schema test (a ∷ []) = by_one_text schema test a.name a.value.text
by_text schema test (a ∷ b ∷ args) = no_selector None

abbrev pub all_columns : List Field → List SelectorArgument → Selector
all_columns schema [] = of_columns true (Ok (all_places schema))
all_columns schema (a ∷ args) = no_selector None

-- `c(..)`: a selection of its own
abbrev pub list_of : List Field → List SelectorArgument → Selector
list_of schema args = of_columns (list_all is_plain args) (selection schema (values args))

abbrev pub call_selector : List Field → List ℕ → List SelectorArgument → Selector
call_selector schema name args =
    if bytes_eq name (codes "c") then list_of schema args else (
    if bytes_eq name (codes "everything") then all_columns schema args else (
    if bytes_eq name (codes "starts_with") then by_text schema (λ text column. starts_with nat_eq column text) args else (
    if bytes_eq name (codes "ends_with") then by_text schema (λ text column. ends_with nat_eq column text) args else (
    if bytes_eq name (codes "contains") then by_text schema contains_text args else no_selector None))))

-- ---- terms

abbrev pub is_minus : Oper → Bool
is_minus op.Sub = true
is_minus o = false

abbrev pub is_colon : Oper → Bool
is_colon op.Colon = true
is_colon o = false

-- `-` and a selector: its columns are those of the selection that it alone is
abbrev pub away_of : List Field → Oper → Selector → Selector
away_of schema o s = record (of_columns (is_minus o && s.form) (selection schema (s ∷ []))) { away = true }

abbrev pub first_place : List ℕ → ℕ
first_place [] = 0
first_place (p ∷ ps) = p

abbrev pub range_columns : List Field → Result (List ℕ) TermFault → Result (List ℕ) TermFault → Result (List ℕ) TermFault
range_columns schema a b = and_then a (λ x. and_then b (λ y. Ok (between (first_place x) (first_place y) schema)))

-- `a:b`: the columns from one to the other, whichever of the two stands first
abbrev pub range_of : List Field → Oper → Selector → Selector → Selector
range_of schema o a b = of_columns (is_colon o && (a.column && b.column)) (range_columns schema a.columns b.columns)

abbrev pub kind_step : List Field → TermKind-F (ℕ → Selector) SelectorArgument Selector (Unit {0}) Selector → ℕ → Selector
kind_step schema (Name n) at = column_selector at (place_of n schema)
kind_step schema (Whole z) at = no_selector None
kind_step schema (Decimal m) at = no_selector None
kind_step schema (Str text) at = no_selector (Some text)
kind_step schema (Word w) at = no_selector None
kind_step schema (Unary o s) at = away_of schema o s
kind_step schema (Binary o a b) at = range_of schema o a b
kind_step schema (open_kind.Call s) at = s
kind_step schema (Pipe p) at = no_selector None

abbrev pub arg_step : Arg-F (ℕ → Selector) SelectorArgument Selector (Unit {0}) Selector → SelectorArgument
arg_step a = record { name = a.name; value = a.value }

abbrev pub call_step : List Field → Call-F (ℕ → Selector) SelectorArgument Selector (Unit {0}) Selector → Selector
call_step schema c = call_selector schema c.name c.args

abbrev pub pipe_step : Pipe-F (ℕ → Selector) SelectorArgument Selector (Unit {0}) Selector → Unit {0}
pipe_step p = tt

abbrev pub term_step : Term-F (ℕ → Selector) SelectorArgument Selector (Unit {0}) Selector → Selector
term_step t = t.kind t.at

-- what is read of a term, of a call and of an argument over these columns
abbrev pub selector : List Field → Term → Selector
selector schema =
    fold-Term (ℕ → Selector) SelectorArgument Selector (Unit {0}) Selector (kind_step schema) arg_step (call_step schema) pipe_step term_step

abbrev pub called : List Field → Call → Selector
called schema =
    fold-Call (ℕ → Selector) SelectorArgument Selector (Unit {0}) Selector (kind_step schema) arg_step (call_step schema) pipe_step term_step

abbrev pub argument : List Field → Arg → SelectorArgument
argument schema =
    fold-Arg (ℕ → Selector) SelectorArgument Selector (Unit {0}) Selector (kind_step schema) arg_step (call_step schema) pipe_step term_step
