-- Words of the proofs; no clause of a public function cites them.
use Rattle.std.specs.Prelude.{ℕ, Bool, true, false, not, ◌&&◌, if◌then◌else◌, codes, Some, Result, Ok, List, [], ◌∷◌, ◌++◌, IsTrue}
use Rattle.row_table.specs.declared.field.Field.{Field}
use Rattle.syntax_tree.specs.declared.tree.Arg.{Arg}
use Rattle.term_calls.specs.declared.fault.TermFault.{TermFault}
use Rattle.term_calls.specs.Faults.{and_then}
use Rattle.row_table.specs.Tables.{names_differ, are_groups}
use Rattle.verb_forms.specs.declared.verb.Verb.{Verb}
use Rattle.verb_forms.specs.After.{after}
use Rattle.verb_forms.specs.Shapes.{ShapeValue}
use Rattle.verb_forms.specs.Suits.{writes_group}
use Rattle.verb_arguments.specs.Arguments.{value_of, is_unnamed, is_named, truth_of}
use Rattle.verb_types.specs.declared.fault.VerbFault.{VerbFault}
use Rattle.verb_types.specs.declared.fault.VerbKind.TheVariants.{GroupChanged, DuplicateName}
use Rattle.verb_types.specs.Checks.{unless}
use Rattle.verb_types.specs.Steps.{column_of}

-- ---- the columns of arguments without names

abbrev pub with_unnamed : List Field → List ℕ → Arg → Result (List ℕ) TermFault
with_unnamed schema had a = if is_unnamed a then and_then (column_of schema (value_of a)) (λ at. Ok (had ++ at ∷ [])) else Ok had

abbrev pub with_all_unnamed : List Field → List ℕ → List Arg → Result (List ℕ) TermFault
with_all_unnamed schema had [] = Ok had
with_all_unnamed schema had (a ∷ args) = and_then (with_unnamed schema had a) (λ now. with_all_unnamed schema now args)

-- ---- the shape after a verb, or the fault of the steps behind the arguments

abbrev pub shape_or_fault : ℕ → ShapeValue → Verb → Result ShapeValue VerbFault
shape_or_fault at x v = unless (writes_group v x) GroupChanged at (unless (not (names_differ (after v x).schema)) DuplicateName at (Ok (after v x)))

-- where names differ after a verb, its groups are columns there
abbrev pub KeepsGroups : ShapeValue → Verb → Type 0
KeepsGroups x v = IsTrue (names_differ (after v x).schema) → IsTrue (are_groups (after v x).schema (after v x).groups)

-- ---- group_by

abbrev pub is_adding : Arg → Bool
is_adding a = is_named (codes ".add") a && elim (truth_of (value_of a)) [ Some true ↦ true | _ ↦ false ]
