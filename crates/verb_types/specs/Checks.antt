-- The check of a verb's call: the checked verb with the shape after it, or the first fault. The lowest step that finds a fault
-- decides: the verb's name, the form of its arguments, `.by` on groups, the arguments, a grouping column that would be written,
-- and two columns of one name.
use Rattle.std.specs.Prelude.{ℕ, Bool, true, false, not, ◌&&◌, if◌then◌else◌, Result, Ok, Err, List, [], ◌∷◌}
use Rattle.std.specs.List.{list_any}
use Rattle.row_table.specs.Tables.{names_differ}
use Rattle.syntax_tree.specs.declared.tree.Arg.{Arg}
use Rattle.syntax_tree.specs.declared.tree.Call.{Call, out-Call}
use Rattle.term_calls.specs.declared.fault.TermFault.{TermFault}
use Rattle.term_calls.specs.declared.fault.TermFaultKind.{TermFaultKind}
use Rattle.term_calls.specs.declared.fault.TermFaultKind.TheVariants as term
use Rattle.term_calls.specs.Faults.{and_then}
use Rattle.verb_forms.specs.declared.verb.Verb.{Verb}
use Rattle.verb_forms.specs.After.{after}
use Rattle.verb_forms.specs.Shapes.{ShapeValue}
use Rattle.verb_forms.specs.Suits.{writes_group}
use Rattle.verb_types.specs.declared.fault.VerbFault.{VerbFault}
use Rattle.verb_types.specs.declared.fault.VerbKind.{VerbKind}
use Rattle.verb_types.specs.declared.fault.VerbKind.TheVariants.{UnknownColumn, UnknownFunction, WrongType, WrongArguments, DuplicateName, GroupChanged, ByOnGroups, OutOfProfile, NotBuilt}
use Rattle.verb_arguments.specs.declared.names.VerbName.{VerbName}
use Rattle.verb_arguments.specs.declared.names.VerbName.TheVariants as verb
use Rattle.verb_arguments.specs.declared.names.Known.{Known}
use Rattle.verb_arguments.specs.declared.names.Known.TheVariants.{Built, Later, LeftOut, Unknown}
use Rattle.verb_arguments.specs.Arguments.{is_named}
use Rattle.verb_arguments.specs.Forms.{by, has_form}
use Rattle.verb_types.specs.Steps.{verb_of}
use Rattle.verb_arguments.specs.VerbNames.{known}

abbrev pub refused : {A : Type 0} → VerbKind → ℕ → Result A VerbFault
refused kind at = Err (record { kind = kind; at = at })

abbrev pub verb_kind : TermFaultKind → VerbKind
verb_kind term.UnknownColumn = UnknownColumn
verb_kind term.UnknownFunction = UnknownFunction
verb_kind term.OutOfProfile = OutOfProfile
verb_kind term.WrongArguments = WrongArguments
verb_kind term.WrongType = WrongType
verb_kind term.NotBuilt = NotBuilt

-- a fault of the arguments
abbrev pub of_arguments : {A : Type 0} → Result A TermFault → Result A VerbFault
of_arguments (Ok x) = Ok x
of_arguments (Err f) = refused (verb_kind f.kind) f.at

-- the next step, unless a step finds a fault
abbrev pub unless : {A : Type 0} → Bool → VerbKind → ℕ → Result A VerbFault → Result A VerbFault
unless found kind at next = if found then refused kind at else next

abbrev pub is_grouped : ShapeValue → Bool
is_grouped x = elim x.groups [ [] ↦ false | g ∷ gs ↦ true ]

-- `.by` is an option of filter and mutate alone, and groups a table that has no groups
abbrev pub has_by : VerbName → List Arg → Bool
has_by verb.Filter args = list_any (is_named by) args
has_by verb.Mutate args = list_any (is_named by) args
has_by v args = false

-- the steps behind those of the arguments, on the checked verb and on the shape after it
abbrev pub result_of : ℕ → ShapeValue → Verb → Result (Verb × ShapeValue) VerbFault
result_of at x v = unless (writes_group v x) GroupChanged at (unless (not (names_differ (after v x).schema)) DuplicateName at (Ok (v, after v x)))

abbrev pub checked_verb : VerbName → ℕ → ShapeValue → List Arg → Result (Verb × ShapeValue) VerbFault
checked_verb name at x args =
    unless (not (has_form name x.schema args)) WrongArguments at (
    unless (has_by name args && is_grouped x) ByOnGroups at (
    and_then (of_arguments (verb_of name x at args)) (result_of at x)))

abbrev pub by_name : Known → ℕ → ShapeValue → List Arg → Result (Verb × ShapeValue) VerbFault
by_name (Built name) at x args = checked_verb name at x args
by_name Later at x args = refused NotBuilt at
by_name LeftOut at x args = refused OutOfProfile at
by_name Unknown at x args = refused UnknownFunction at

-- the checked verb and the shape after it, or the first fault of a call
abbrev pub checked : Call → ShapeValue → Result (Verb × ShapeValue) VerbFault
checked call x = by_name (known (out-Call call).name) (out-Call call).at x (out-Call call).args
