-- The checked form of each verb, or the first fault of its arguments from the left, inner parts before outer ones.
use Rattle.std.specs.Prelude.{ℕ, Bool, true, false, not, ◌&&◌, ◌||◌, nat_eq, if◌then◌else◌, codes, Option, Some, None, Result, Ok, List, [], ◌∷◌, ◌++◌, map, filter, fold}
use Rattle.std.specs.List.{list_any, flat_map}
use Rattle.std.specs.Str.{bytes_eq}
use Rattle.scalar_value.specs.declared.value.Value.{Value}
use Rattle.scalar_value.specs.declared.value.Value.TheVariants as cell
use Rattle.scalar_value.specs.declared.value.ColType.{ColType}
use Rattle.scalar_value.specs.declared.value.ColType.TheVariants.{Int, Dec, Lgl}
use Rattle.row_table.specs.declared.field.Field.{Field}
use Rattle.na_expr.specs.declared.expr.Expr.{Expr}
use Rattle.na_expr.specs.Operators.{carried}
use Rattle.na_expr.specs.Types.{is_kind}
use Rattle.syntax_tree.specs.declared.tree.Term.{Term, out-Term}
use Rattle.syntax_tree.specs.declared.tree.Arg.{Arg}
use Rattle.term_calls.specs.declared.fault.TermFault.{TermFault}
use Rattle.term_calls.specs.declared.fault.TermFaultKind.TheVariants.{UnknownColumn, WrongArguments, WrongType}
use Rattle.term_calls.specs.declared.piece.Piece.{Piece}
use Rattle.term_calls.specs.declared.piece.Piece.TheVariants.{Na, Free, Number, Literal, Typed}
use Rattle.term_calls.specs.Faults.{and_then, all_of, fault}
use Rattle.term_types.specs.Terms.{piece, expression, place_of}
use Rattle.verb_forms.specs.declared.part.Part.{Part}
use Rattle.verb_forms.specs.declared.verb.Verb.{Verb}
use Rattle.verb_forms.specs.declared.verb.Verb.TheVariants.{Filter, Mutate, Select, Rename, Relocate, GroupBy, Ungroup, DropNa, ReplaceNa}
use Rattle.verb_forms.specs.Columns.{name_at, kind_at, with_column}
use Rattle.verb_forms.specs.Shapes.{ShapeValue}
use Rattle.selections.specs.Columns.{all_places, is_among, with_columns, without}
use Rattle.selections.specs.declared.selector.Selector.{Selector}
use Rattle.selections.specs.Selectors.{selector, with_selector, start}
use Rattle.verb_types.specs.declared.choice.Choice.{Choice}
use Rattle.verb_types.specs.declared.conditions.Conditions.{Conditions}
use Rattle.verb_types.specs.declared.moves.Move.{Move}
use Rattle.verb_arguments.specs.declared.names.VerbName.{VerbName}
use Rattle.verb_arguments.specs.declared.names.VerbName.TheVariants as verb
use Rattle.verb_types.specs.declared.values.Values.{Values}
use Rattle.verb_arguments.specs.Arguments.{name_of, place_of_arg, value_of, is_unnamed, is_named, column_name, names_of, arguments_of, truth_of}
use Rattle.verb_arguments.specs.Forms.{by}

-- ---- columns by their names

abbrev pub column_or_unknown : ℕ → Option ℕ → Result ℕ TermFault
column_or_unknown at None = fault UnknownColumn at
column_or_unknown at (Some place) = Ok place

abbrev pub text_or_none : Option (List ℕ) → List ℕ
text_or_none None = []
text_or_none (Some text) = text

-- the place of the column that a term names
abbrev pub column_of : List Field → Term → Result ℕ TermFault
column_of schema t = column_or_unknown (out-Term t).at (place_of (text_or_none (column_name t)) schema)

abbrev pub columns_of : List Field → List Term → Result (List ℕ) TermFault
columns_of schema ts = all_of (map (column_of schema) ts)

-- the places of columns of these names
abbrev pub place_in : Option ℕ → List ℕ
place_in None = []
place_in (Some place) = place ∷ []

abbrev pub places_of : List Field → List (List ℕ) → List ℕ
places_of schema names = flat_map (λ name. place_in (place_of name schema)) names

-- the columns that group a verb: those of `.by`, each once, else the table's groups
abbrev pub grouping : ShapeValue → Option (List ℕ) → List ℕ
grouping x None = places_of x.schema x.groups
grouping x (Some columns) = with_columns [] columns

-- ---- filter

-- an expression without aggregates and window calls, which are not built yet
abbrev pub plain_part : Expr → Part
plain_part e = record { calls = []; value = e }

abbrev pub truth_part : ℕ → Expr × ColType → Result Part TermFault
truth_part at e = if is_kind e.1 Lgl then Ok (plain_part e.0) else fault WrongType at

-- a condition is a truth value
abbrev pub condition : List Field → Term → Result Part TermFault
condition schema t = and_then (expression schema t) (truth_part (out-Term t).at)

abbrev pub with_condition : List Field → Conditions → Arg → Result Conditions TermFault
with_condition schema had a =
    if is_named by a
    then and_then (columns_of schema (names_of (value_of a))) (λ columns. Ok (record had { columns = Some columns }))
    else and_then (condition schema (value_of a)) (λ p. Ok (record had { parts = had.parts ++ p ∷ [] }))

abbrev pub with_conditions : List Field → Conditions → List Arg → Result Conditions TermFault
with_conditions schema had [] = Ok had
with_conditions schema had (a ∷ args) = and_then (with_condition schema had a) (λ now. with_conditions schema now args)

abbrev pub filter_of : ShapeValue → List Arg → Result Verb TermFault
filter_of x args =
    and_then (with_conditions x.schema (record { columns = None; parts = [] }) args) (λ had. Ok (Filter (grouping x had.columns) had.parts))

-- ---- mutate

-- one expression more, whose column the next expression sees
abbrev pub with_new : Values → List ℕ → Expr × ColType → Values
with_new had name e = record had { schema = with_column name e.1 had.schema; values = had.values ++ (name, plain_part e.0) ∷ [] }

-- each expression sees the columns that the ones before it made
abbrev pub with_value : List Field → Values → Arg → Result Values TermFault
with_value schema had a =
    if is_named by a
    then and_then (columns_of schema (names_of (value_of a))) (λ columns. Ok (record had { columns = Some columns }))
    else and_then (expression had.schema (value_of a)) (λ e. Ok (with_new had (text_or_none (name_of a)) e))

abbrev pub with_values : List Field → Values → List Arg → Result Values TermFault
with_values schema had [] = Ok had
with_values schema had (a ∷ args) = and_then (with_value schema had a) (λ now. with_values schema now args)

abbrev pub mutate_of : ShapeValue → List Arg → Result Verb TermFault
mutate_of x args =
    and_then (with_values x.schema (record { columns = None; schema = x.schema; values = [] }) args) (λ had. Ok (Mutate (grouping x had.columns) had.values))

-- ---- select and rename

-- a column under its own name
abbrev pub own_name : List Field → ℕ → ℕ × List ℕ
own_name schema at = (at, name_at schema at)

abbrev pub is_column_at : ℕ → ℕ × List ℕ → Bool
is_column_at at c = nat_eq c.0 at

abbrev pub has_column : List (ℕ × List ℕ) → ℕ → Bool
has_column chosen at = list_any (is_column_at at) chosen

abbrev pub with_own : List Field → List (ℕ × List ℕ) → ℕ → List (ℕ × List ℕ)
with_own schema had at = if has_column had at then had else had ++ own_name schema at ∷ []

abbrev pub without_columns : List (ℕ × List ℕ) → List ℕ → List (ℕ × List ℕ)
without_columns had away = filter (λ c. not (is_among away c.0)) had

abbrev pub with_picked : List Field → Choice → Bool → List ℕ → Choice
with_picked schema had away columns =
    record had { chosen = if away then without_columns had.chosen columns else fold (with_own schema) had.chosen columns }

-- a column under a new name: where it is chosen already it keeps its place
abbrev pub taking : ℕ → List ℕ → ℕ × List ℕ → ℕ × List ℕ
taking at new c = if is_column_at at c then (at, new) else c

abbrev pub with_named : Choice → List ℕ → ℕ → Choice
with_named had new at =
    record { chosen = if has_column had.chosen at then map (taking at new) had.chosen else had.chosen ++ (at, new) ∷ []; given = had.given ++ (at, new) ∷ [] }

abbrev pub with_choice : List Field → Choice → Arg → Result Choice TermFault
with_choice schema had a =
    if is_unnamed a
    then (let s = selector schema (value_of a) in and_then s.columns (λ columns. Ok (with_picked schema had s.away columns)))
    else and_then (column_of schema (value_of a)) (λ at. Ok (with_named had (text_or_none (name_of a)) at))

abbrev pub with_choices : List Field → Choice → List Arg → Result Choice TermFault
with_choices schema had [] = Ok had
with_choices schema had (a ∷ args) = and_then (with_choice schema had a) (λ now. with_choices schema now args)

-- whether a column was given two different new names
abbrev pub differs_from : ℕ × List ℕ → ℕ × List ℕ → Bool
differs_from a b = nat_eq a.0 b.0 && not (bytes_eq a.1 b.1)

abbrev pub has_two_names : List (ℕ × List ℕ) → Bool
has_two_names [] = false
has_two_names (c ∷ cs) = list_any (differs_from c) cs || has_two_names cs

abbrev pub all_own : List Field → List (ℕ × List ℕ)
all_own schema = map (own_name schema) (all_places schema)

-- all columns are chosen at the start where the first selector takes columns away
abbrev pub chosen_at_start : List Field → List Arg → List (ℕ × List ℕ)
chosen_at_start schema [] = []
chosen_at_start schema (a ∷ args) = if is_unnamed a && (selector schema (value_of a)).away then all_own schema else []

-- grouping columns that are not chosen stand in front, in the order of the groups
abbrev pub with_groups : ShapeValue → List (ℕ × List ℕ) → List (ℕ × List ℕ)
with_groups x chosen =
    map (own_name x.schema) (filter (λ at. not (has_column chosen at)) (places_of x.schema x.groups)) ++ chosen

abbrev pub not_empty : List (ℕ × List ℕ) → Bool
not_empty [] = false
not_empty (c ∷ cs) = true

abbrev pub select_of : ShapeValue → ℕ → List Arg → Result Verb TermFault
select_of x at args =
    and_then (with_choices x.schema (record { chosen = chosen_at_start x.schema args; given = [] }) args) (λ had.
    if not (has_two_names had.given) && not_empty (with_groups x had.chosen) then Ok (Select (with_groups x had.chosen)) else fault WrongArguments at)

-- all columns, each under its new name where one was given
abbrev pub rename_of : ShapeValue → ℕ → List Arg → Result Verb TermFault
rename_of x at args =
    and_then (with_choices x.schema (record { chosen = all_own x.schema; given = [] }) args) (λ had.
    if has_two_names had.given then fault WrongArguments at else Ok (Rename had.chosen))

-- ---- relocate

abbrev pub with_move : List Field → Move → Arg → Result Move TermFault
with_move schema had a =
    if is_unnamed a
    then (let s = selector schema (value_of a) in and_then s.columns (λ columns. Ok (record had { chosen = with_selector had.chosen s columns })))
    else and_then (column_of schema (value_of a)) (λ at. Ok (record had { anchor = Some (is_named (codes ".after") a, at) }))

abbrev pub with_moves : List Field → Move → List Arg → Result Move TermFault
with_moves schema had [] = Ok had
with_moves schema had (a ∷ args) = and_then (with_move schema had a) (λ now. with_moves schema now args)

-- the columns that move stand in front, or directly before or after the anchor
abbrev pub beside_anchor : List ℕ → Bool → ℕ → ℕ → List ℕ
beside_anchor moved after anchor at = if nat_eq at anchor then (if after then at ∷ moved else moved ++ at ∷ []) else at ∷ []

abbrev pub moved_to : List ℕ → List ℕ → Option (Bool × ℕ) → List ℕ
moved_to moved rest None = moved ++ rest
moved_to moved rest (Some anchor) = flat_map (beside_anchor moved anchor.0 anchor.1) rest

abbrev pub anchor_moves : List ℕ → Option (Bool × ℕ) → Bool
anchor_moves moved None = false
anchor_moves moved (Some anchor) = is_among moved anchor.1

abbrev pub selectors_of : List Field → List Arg → List Selector
selectors_of schema args = map (λ a. selector schema (value_of a)) (filter is_unnamed args)

abbrev pub relocate_of : ShapeValue → ℕ → List Arg → Result Verb TermFault
relocate_of x at args =
    and_then (with_moves x.schema (record { chosen = start x.schema (selectors_of x.schema args); anchor = None }) args) (λ had.
    if anchor_moves had.chosen had.anchor
    then fault WrongArguments at
    else Ok (Relocate (map (own_name x.schema) (moved_to had.chosen (without (all_places x.schema) had.chosen) had.anchor))))

-- ---- group_by, drop_na

abbrev pub adds : List Arg → Bool
adds args = list_any (λ a. is_named (codes ".add") a && elim (truth_of (value_of a)) [ Some true ↦ true | _ ↦ false ]) args

abbrev pub group_by_of : ShapeValue → List Arg → Result Verb TermFault
group_by_of x args =
    and_then (columns_of x.schema (map value_of (filter is_unnamed args))) (λ columns.
    Ok (GroupBy (with_columns (if adds args then places_of x.schema x.groups else []) columns)))

-- all columns where the script names none
abbrev pub or_all : List Field → List ℕ → List ℕ
or_all schema [] = all_places schema
or_all schema (c ∷ cs) = c ∷ cs

abbrev pub drop_na_of : ShapeValue → List Arg → Result Verb TermFault
drop_na_of x args = and_then (columns_of x.schema (map value_of args)) (λ columns. Ok (DropNa (or_all x.schema columns)))

-- ---- replace_na

-- whether a column of the first type takes a literal of the second: equal types, and a whole number for a decimal
abbrev pub takes_literal : ColType → ColType → Bool
takes_literal Dec t = is_kind t Dec || is_kind t Int
takes_literal k t = is_kind k t

abbrev pub value_for : ℕ → ColType → Value → ColType → Result Value TermFault
value_for at kind v t = if takes_literal kind t then Ok (carried kind v) else fault WrongType at

abbrev pub replacement : ℕ → ColType → Piece → Result Value TermFault
replacement at kind Na = Ok cell.Missing
replacement at kind Free = Ok cell.Missing
replacement at kind (Number v t) = value_for at kind v t
replacement at kind (Literal v t) = value_for at kind v t
replacement at kind (Typed e t) = fault WrongArguments at

abbrev pub replaced_column : List Field → Arg → Result (ℕ × Value) TermFault
replaced_column schema a =
    and_then (column_or_unknown (place_of_arg a) (place_of (text_or_none (name_of a)) schema)) (λ at.
    and_then (piece schema (value_of a)) (λ p. and_then (replacement (out-Term (value_of a)).at (kind_at schema at) p) (λ v. Ok (at, v))))

abbrev pub listed : List Arg → List Arg
listed [] = []
listed (a ∷ args) = elim (arguments_of (codes "list") (value_of a)) [ None ↦ [] | Some inner ↦ inner ]

abbrev pub replace_na_of : ShapeValue → List Arg → Result Verb TermFault
replace_na_of x args = and_then (all_of (map (replaced_column x.schema) (listed args))) (λ cells. Ok (ReplaceNa cells))

-- ---- each verb

abbrev pub verb_of : VerbName → ShapeValue → ℕ → List Arg → Result Verb TermFault
verb_of verb.Filter x at args = filter_of x args
verb_of verb.Mutate x at args = mutate_of x args
verb_of verb.Select x at args = select_of x at args
verb_of verb.Rename x at args = rename_of x at args
verb_of verb.Relocate x at args = relocate_of x at args
verb_of verb.GroupBy x at args = group_by_of x args
verb_of verb.Ungroup x at args = Ok Ungroup
verb_of verb.DropNa x at args = drop_na_of x args
verb_of verb.ReplaceNa x at args = replace_na_of x args
