-- The meaning of a script over the tables of the words: its assignments in order, then its last pipeline, verb by verb over whole
-- tables. Beside each table stands the tree of nodes that is to compute it.
use Rattle.std.specs.Prelude.{ℕ, if◌then◌else◌, Option, Some, None, Result, Ok, Err, List, [], ◌∷◌, ◌++◌, map}
use Rattle.std.specs.Str.{bytes_eq}
use Rattle.row_table.specs.Tables.{TableValue}
use Rattle.syntax_tree.specs.declared.tree.Script.{Script}
use Rattle.syntax_tree.specs.declared.tree.Pipe.{Pipe, out-Pipe}
use Rattle.syntax_tree.specs.declared.tree.Call.{Call, out-Call}
use Rattle.verb_forms.specs.declared.verb.Verb.{Verb}
use Rattle.verb_forms.specs.Shapes.{shape_of}
use Rattle.verb_meaning.specs.Meaning.{meaning}
use Rattle.verb_types.specs.declared.fault.VerbFault.{VerbFault}
use Rattle.verb_types.specs.declared.fault.VerbKind.TheVariants.{UnknownTable}
use Rattle.verb_types.specs.Checks.{checked}
use Rattle.plan_compile.specs.declared.tree.Tree.{Tree}
use Rattle.plan_compile.specs.declared.tree.TooLarge.{TooLarge}
use Rattle.plan_compile.specs.Trees.{source_tree, added}
use Rattle.script_evaluation.specs.declared.fault.EvaluationFault.{EvaluationFault}
use Rattle.script_evaluation.specs.declared.fault.EvaluationKind.{EvaluationKind}
use Rattle.script_evaluation.specs.declared.fault.EvaluationKind.TheVariants.{Verb as VerbRefused, PlanTooLarge}

-- a table of the words, by its name
abbrev pub Named : Type 0
Named = List ℕ × TableValue

-- what a pipeline gives: its table, and the tree of nodes over a table of the words
pub record Evaluated : Type 0 where
  pub table : TableValue
  pub tree : Tree
  pub source : TableValue

-- what the names of a script stand for: the tables of the words, and behind them the assigned pipelines in their order
abbrev pub Scope : Type 0
Scope = List (List ℕ × Evaluated)

abbrev pub of_words : Named → List ℕ × Evaluated
of_words t = (t.0, record { table = t.1; tree = source_tree t.0 (shape_of t.1); source = t.1 })

abbrev pub opening : List Named → Scope
opening tables = map of_words tables

-- what a name stands for: the last of that name, which hides those before it
abbrev pub or_earlier : Option Evaluated → Option Evaluated → Option Evaluated
or_earlier (Some later) earlier = Some later
or_earlier None earlier = earlier

abbrev pub found : List ℕ → Scope → Option Evaluated
found name [] = None
found name (e ∷ scope) = or_earlier (found name scope) (if bytes_eq e.0 name then Some e.1 else None)

-- the second step over what the first gives, unless it is refused
abbrev pub and_then : {A B : Type 0} → Result A EvaluationFault → (A → Result B EvaluationFault) → Result B EvaluationFault
and_then (Ok x) next = next x
and_then (Err f) next = Err f

abbrev pub refused_at : {A : Type 0} → EvaluationKind → ℕ → Result A EvaluationFault
refused_at kind at = Err (record { kind = kind; at = at })

-- ---- one verb: its check, and then the plan's size

abbrev pub of_check : {A : Type 0} → Result A VerbFault → Result A EvaluationFault
of_check (Ok x) = Ok x
of_check (Err f) = refused_at (VerbRefused f.kind) f.at

abbrev pub of_size : {A : Type 0} → ℕ → Result A TooLarge → Result A EvaluationFault
of_size at (Ok x) = Ok x
of_size at (Err f) = refused_at PlanTooLarge at

abbrev pub with_verb : ℕ → Evaluated → Verb → Result Evaluated EvaluationFault
with_verb at e v = and_then (of_size at (added e.tree v)) (λ tree. Ok (record e { table = meaning v e.table; tree = tree }))

abbrev pub with_call : Evaluated → Call → Result Evaluated EvaluationFault
with_call e call = and_then (of_check (checked call (shape_of e.table))) (λ v. with_verb (out-Call call).at e v.0)

-- ---- pipelines and assignments

abbrev pub with_calls : Evaluated → List Call → Result Evaluated EvaluationFault
with_calls e [] = Ok e
with_calls e (call ∷ calls) = and_then (with_call e call) (λ now. with_calls now calls)

abbrev pub known_or_fault : ℕ → Option Evaluated → Result Evaluated EvaluationFault
known_or_fault at None = refused_at (VerbRefused UnknownTable) at
known_or_fault at (Some e) = Ok e

abbrev pub piped : Scope → Pipe → Result Evaluated EvaluationFault
piped scope pipe = and_then (known_or_fault (out-Pipe pipe).at (found (out-Pipe pipe).table scope)) (λ e. with_calls e (out-Pipe pipe).calls)

abbrev pub with_assigned : Scope → List (List ℕ × Pipe) → Result Scope EvaluationFault
with_assigned scope [] = Ok scope
with_assigned scope (assign ∷ assigns) = and_then (piped scope assign.1) (λ e. with_assigned (scope ++ (assign.0, e) ∷ []) assigns)

-- the last pipeline's table with its tree, or the first fault
unfoldable pub evaluated : Script → List Named → Result Evaluated EvaluationFault
evaluated script tables = and_then (with_assigned (opening tables) script.assigns) (λ scope. piped scope script.last)
