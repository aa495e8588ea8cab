-- Each checked verb suits its shape.
use Rattle.std.proofs.Common.{◌≡◌, ℕ, true, false, not, ◌&&◌, Result, Ok, Err, List, refl, subst, IfOk}
use Rattle.std.proofs.lemmas.Bool.{not-false, not_from_false}
use Rattle.scalar_value.specs.declared.memory.Or.{Or}
use Rattle.scalar_value.specs.Gives.{Gives}
use Rattle.row_table.specs.Tables.{names_differ}
use Rattle.syntax_tree.specs.declared.tree.Arg.{Arg}
use Rattle.syntax_tree.specs.declared.tree.Call.{Call, out-Call}
use Rattle.term_calls.specs.declared.fault.TermFault.{TermFault}
use Rattle.term_calls.specs.Faults.{and_then}
use Rattle.term_types.proofs.TypedPieces.{IfGiven, then_given}
use Rattle.verb_forms.specs.declared.verb.Verb.{Verb}
use Rattle.verb_forms.specs.Shapes.{ShapeValue, IsShape}
use Rattle.verb_forms.specs.After.{after}
use Rattle.verb_forms.specs.Suits.{Suits, writes_group}
use Rattle.verb_arguments.specs.declared.names.VerbName.{VerbName}
use Rattle.verb_arguments.specs.declared.names.VerbName.TheVariants as verb
use Rattle.verb_arguments.specs.declared.names.Known.{Known}
use Rattle.verb_arguments.specs.declared.names.Known.TheVariants.{Built, Later, LeftOut, Unknown}
use Rattle.verb_arguments.specs.Forms.{has_form}
use Rattle.verb_arguments.specs.VerbNames.{known}
use Rattle.verb_types.specs.declared.fault.VerbFault.{VerbFault}
use Rattle.verb_types.specs.Checks.{of_arguments, is_grouped, has_by, result_of, checked_verb, by_name, checked}
use Rattle.verb_types.specs.CheckLaws.{CheckedVerbsSuit}
use Rattle.verb_types.specs.Steps.{verb_of}
use Rattle.verb_types.proofs.Promises.{Promised, given_if}
use Rattle.verb_types.proofs.FilterSuits.{filter_promised}
use Rattle.verb_types.proofs.MutateSuits.{mutate_promised}
use Rattle.verb_types.proofs.SelectSuits.{select_promised}
use Rattle.verb_types.proofs.RenameSuits.{rename_promised}
use Rattle.verb_types.proofs.RelocateSuits.{relocate_promised}
use Rattle.verb_types.proofs.GroupBySuits.{group_by_promised}
use Rattle.verb_types.proofs.MissingSuits.{drop_na_promised, replace_na_promised}

-- the arguments have the verb's form, and `.by` stands on no grouped table
abbrev IsTaken : VerbName → ShapeValue → List Arg → Type 0
IsTaken name x args = (has_form name x.schema args ≡ true) × ((has_by name args && is_grouped x) ≡ false)

verb_promised : (name : VerbName) (x : ShapeValue) (at : ℕ) (args : List Arg) → IsShape x → IsTaken name x args → IfGiven (Promised x) (verb_of name x at args)
verb_promised verb.Filter x at args is h = filter_promised x args is h.1
verb_promised verb.Mutate x at args is h = mutate_promised x args is h.1
verb_promised verb.Select x at args is h = select_promised x at args is
verb_promised verb.Rename x at args is h = rename_promised x at args is h.0
verb_promised verb.Relocate x at args is h = relocate_promised x at args is
verb_promised verb.GroupBy x at args is h = group_by_promised x args is
verb_promised verb.Ungroup x at args is h = record { form = refl; grouped = λ d. refl }
verb_promised verb.DropNa x at args is h = drop_na_promised x args is
verb_promised verb.ReplaceNa x at args is h = replace_na_promised x args is

arguments_given : {A : Type 0} (P : A → Type 0) (r : Result A TermFault) → IfGiven P r → IfGiven P (of_arguments r)
arguments_given P (Ok x) h = h
arguments_given P (Err f) h = tt

-- a verb with the shape after it
abbrev pub IsSuiting : ShapeValue → Verb × ShapeValue → Type 0
IsSuiting x r = Suits r.0 x × (r.1 ≡ after r.0 x)

pub result_suits : (x : ShapeValue) (at : ℕ) (v : Verb) → Promised x v → IfGiven (IsSuiting x) (result_of at x v)
result_suits x at v h =
    given_if (IsSuiting x) (writes_group v x) _ _ (λ e. tt)
    (λ kept. given_if (IsSuiting x) (not (names_differ (after v x).schema)) _ (Ok (v, after v x)) (λ e. tt)
    (λ e.
    let differ : names_differ (after v x).schema ≡ true = not-false (names_differ (after v x).schema) e in
    (record { form = h.form; keeps = not_from_false (writes_group v x) kept; named = differ; grouped = h.grouped differ }, refl)))

verb_suits : (name : VerbName) (x : ShapeValue) (at : ℕ) (args : List Arg) → IsShape x → IfGiven (IsSuiting x) (checked_verb name at x args)
verb_suits name x at args is =
    given_if (IsSuiting x) (not (has_form name x.schema args)) _ _ (λ e. tt)
    (λ form. given_if (IsSuiting x) (has_by name args && is_grouped x) _ (and_then (of_arguments (verb_of name x at args)) (result_of at x)) (λ e. tt)
    (λ free. then_given (Promised x) (IsSuiting x) (of_arguments (verb_of name x at args)) (result_of at x)
    (arguments_given (Promised x) (verb_of name x at args) (verb_promised name x at args is (not-false (has_form name x.schema args) form, free))) (result_suits x at)))

name_suits : (name : Known) (x : ShapeValue) (at : ℕ) (args : List Arg) → IsShape x → IfGiven (IsSuiting x) (by_name name at x args)
name_suits (Built name) x at args is = verb_suits name x at args is
name_suits Later x at args is = tt
name_suits LeftOut x at args is = tt
name_suits Unknown x at args is = tt

pub call_suits : (call : Call) (x : ShapeValue) → IsShape x → IfGiven (IsSuiting x) (checked call x)
call_suits call x is = name_suits (known (out-Call call).name) x (out-Call call).at (out-Call call).args is

given_at : {A F : Type 0} (P : A → Type 0) (r : Result A F) (y : A) → IfGiven P r → r ≡ Ok y → P y
given_at P r y h is = subst (λ s. IfGiven P s) is h

pub checked_verbs_suit : CheckedVerbsSuit
checked_verbs_suit call x v y is e = given_at (IsSuiting x) (checked call x) (v, y) (call_suits call x is) e

-- ---- the code

-- what a call that may want memory answers suits where what it is to give does
pub suits_given : (x : ShapeValue) (given : Result (Verb × ShapeValue) VerbFault) (r : Result (Verb × ShapeValue) (Or VerbFault)) → IfGiven (IsSuiting x) given → Gives r given → IfOk r (IsSuiting x)
suits_given x given (Ok y) h e = given_at (IsSuiting x) given y h e
suits_given x given (Err f) h e = tt

-- a verb that is read of arguments of its form
pub read_promised : (name : VerbName) (x : ShapeValue) (at : ℕ) (args : List Arg) (v : Verb) → IsShape x → (has_form name x.schema args ≡ true) × ((has_by name args && is_grouped x) ≡ false)
    → of_arguments (verb_of name x at args) ≡ Ok v → Promised x v
read_promised name x at args v is h e =
    given_at (Promised x) (of_arguments (verb_of name x at args)) v (arguments_given (Promised x) (verb_of name x at args) (verb_promised name x at args is h)) e
