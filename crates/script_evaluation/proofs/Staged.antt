-- What the code keeps of a pipeline, verb by verb.
use Rattle.std.proofs.Common.{◌≡◌, ◌<◌, ℕ, suc, ◌+◌, Some, None, Result, Ok, Err, List, [], ◌∷◌, ◌++◌, length, get_or, drop, refl, sym, ap, subst, ◌∙◌, add-one, drop-cons}
use Rattle.scalar_value.specs.declared.memory.Or.{Or}
use Rattle.scalar_value.specs.declared.memory.Or.TheVariants.{Fault, Memory}
use Rattle.syntax_tree.specs.declared.tree.Script.{Script}
use Rattle.syntax_tree.specs.declared.tree.Call.{Call, out-Call}
use Rattle.syntax_tree.specs.declared.tree.Pipe.{Pipe, out-Pipe}
use Rattle.verb_forms.specs.declared.verb.Verb.{Verb}
use Rattle.verb_forms.specs.Shapes.{ShapeValue, shape_of}
use Rattle.verb_forms.specs.After.{after}
use Rattle.verb_meaning.specs.Meaning.{meaning}
use Rattle.verb_types.specs.declared.fault.VerbKind.TheVariants.{UnknownTable}
use Rattle.verb_types.specs.Checks.{checked}
use Rattle.plan_compile.specs.declared.tree.Tree.{Tree}
use Rattle.plan_compile.specs.Trees.{added}
use Rattle.script_evaluation.specs.declared.fault.EvaluationFault.{EvaluationFault}
use Rattle.script_evaluation.specs.declared.fault.EvaluationKind.TheVariants.{Verb as VerbRefused}
use Rattle.script_evaluation.specs.declared.stage.Stage.{Stage}
use Rattle.script_evaluation.specs.Evaluation.{Named, Evaluated, Scope, and_then, of_check, of_size, with_verb, with_call, with_calls, known_or_fault, found, piped, with_assigned, opening, evaluated}
use Rattle.script_evaluation.specs.EvaluationLaws.{IsStageOf, GivesStage}
use Rattle.script_evaluation.specs.Working.{StageScope, IsScopeOf, GivesScope, found_stage}
use Rattle.script_evaluation.proofs.Refusals.{added_is}
use Rattle.script_evaluation.proofs.Scopes.{scope_more, found_as, found_some, found_none}

pub verb_given : (tables : List Named) (e : Evaluated) (stage : Stage) (at : ℕ) (v : Verb) (shape : ShapeValue) (tree : Tree) → added stage.tree v ≡ Ok tree → IsStageOf tables e stage → shape ≡ after v (shape_of e.table)
    → (x : Evaluated) × (with_verb at e v ≡ Ok x) × IsStageOf tables x (record { tree = tree; shape = shape; source = stage.source })
verb_given tables e stage at v shape tree made is behind =
    let fits : added e.tree v ≡ Ok tree = subst (λ t. added t v ≡ Ok tree) is.tree made in
    let x : Evaluated = record e { table = meaning v e.table; tree = tree } in
    let name : tree.name ≡ e.tree.name = ap (λ (t : Tree). t.name) (added_is e.tree tree v fits).0 in (
      x,
      ap (λ r. and_then (of_size at r) (λ (t : Tree). Ok (record e { table = meaning v e.table; tree = t }))) fits,
      record { tree = refl; shape = behind; source = is.source ∙ ap (λ n. Some (n, e.source)) (sym name) },
    )

pub call_given : (tables : List Named) (e : Evaluated) (stage : Stage) (call : Call) (v : Verb) (shape : ShapeValue) (r : Result Stage (Or EvaluationFault)) → checked call stage.shape ≡ Ok (v, shape) → shape ≡ after v stage.shape → IsStageOf tables e stage
    → (shape ≡ after v (shape_of e.table) → GivesStage tables r (with_verb (out-Call call).at e v)) → GivesStage tables r (with_call e call)
call_given tables e stage call v shape r is behind stands given =
    let here : checked call (shape_of e.table) ≡ Ok (v, shape) = subst (λ s. checked call s ≡ Ok (v, shape)) stands.shape is in
    let same : with_verb (out-Call call).at e v ≡ with_call e call = sym (ap (λ r. and_then (of_check r) (λ (p : Verb × ShapeValue). with_verb (out-Call call).at e p.0)) here) in
    subst (GivesStage tables r) same (given (behind ∙ ap (after v) stands.shape))

-- ---- calls

next_of : {A : Type 0} (xs : List A) (k : ℕ) (x : A) → k < length xs → x ≡ get_or xs k x → drop k xs ≡ x ∷ drop (k + 1) xs
next_of xs k x low is = drop-cons xs k x low ∙ (ap (λ y. y ∷ drop (suc k) xs) (sym is) ∙ ap (λ n. x ∷ drop n xs) (sym (add-one k)))

next_call : (calls : List Call) (k : ℕ) (call : Call) → k < length calls → call ≡ get_or calls k call → drop k calls ≡ call ∷ drop (k + 1) calls
next_call calls k call low is = next_of calls k call low is

-- the calls that are left go on from where the stage stands
pub record GoesOn (tables : List Named) (e : Evaluated) (calls left : List Call) (stage : Stage) : Type 0 where
  pub now : Evaluated
  pub leads : with_calls e calls ≡ with_calls now left
  pub stands : IsStageOf tables now stage

pub calls_refused : (tables : List Named) (e : Evaluated) (calls : List Call) (k : ℕ) (call : Call) (stage : Stage) (o : Or EvaluationFault) → k < length calls → call ≡ get_or calls k call
    → GoesOn tables e calls (drop k calls) stage → ((now : Evaluated) → IsStageOf tables now stage → GivesStage tables (Err o) (with_call now call)) → GivesStage tables (Err o) (with_calls e calls)
calls_refused tables e calls k call stage (Fault f) low is had given =
    had.leads ∙ (ap (with_calls had.now) (next_call calls k call low is) ∙ ap (λ r. and_then r (λ now. with_calls now (drop (k + 1) calls))) (given had.now had.stands))
calls_refused tables e calls k call stage Memory low is had given = tt

pub calls_go_on : (tables : List Named) (e : Evaluated) (calls : List Call) (k : ℕ) (call : Call) (stage later : Stage) → k < length calls → call ≡ get_or calls k call
    → GoesOn tables e calls (drop k calls) stage → ((now : Evaluated) → IsStageOf tables now stage → GivesStage tables (Ok later) (with_call now call)) → GoesOn tables e calls (drop (k + 1) calls) later
calls_go_on tables e calls k call stage later low is had given =
    let given = given had.now had.stands in
    record {
      now = given.0;
      leads = had.leads ∙ (ap (with_calls had.now) (next_call calls k call low is) ∙ ap (λ r. and_then r (λ now. with_calls now (drop (k + 1) calls))) given.1);
      stands = given.2;
    }

pub calls_end : (tables : List Named) (e : Evaluated) (calls left : List Call) (stage : Stage) → left ≡ [] → GoesOn tables e calls left stage → GivesStage tables (Ok stage) (with_calls e calls)
calls_end tables e calls left stage none had = (had.now, had.leads ∙ ap (with_calls had.now) none, had.stands)

-- ---- pipelines

pub pipe_given : (tables : List Named) (names : Scope) (stages : StageScope) (pipe : Pipe) (stage : Stage) (r : Result Stage (Or EvaluationFault)) → Some stage ≡ found_stage (out-Pipe pipe).table stages
    → ((e : Evaluated) → IsStageOf tables e stage → GivesStage tables r (with_calls e (out-Pipe pipe).calls)) → IsScopeOf tables names stages → GivesStage tables r (piped names pipe)
pipe_given tables names stages pipe stage r is given scope =
    let f = found_some tables (found (out-Pipe pipe).table names) (found_stage (out-Pipe pipe).table stages) stage (found_as tables (out-Pipe pipe).table names stages scope) is in
    let same : piped names pipe ≡ with_calls f.0 (out-Pipe pipe).calls = ap (λ o. and_then (known_or_fault (out-Pipe pipe).at o) (λ e. with_calls e (out-Pipe pipe).calls)) f.1 in
    subst (GivesStage tables r) (sym same) (given f.0 f.2)

pub pipe_unknown : (tables : List Named) (names : Scope) (stages : StageScope) (pipe : Pipe) → None ≡ found_stage (out-Pipe pipe).table stages → IsScopeOf tables names stages
    → piped names pipe ≡ Err (record { kind = VerbRefused UnknownTable; at = (out-Pipe pipe).at })
pipe_unknown tables names stages pipe is scope =
    let f = found_none tables (found (out-Pipe pipe).table names) (found_stage (out-Pipe pipe).table stages) (found_as tables (out-Pipe pipe).table names stages scope) is in
    ap (λ o. and_then (known_or_fault (out-Pipe pipe).at o) (λ e. with_calls e (out-Pipe pipe).calls)) f

-- ---- assignments

-- the assignments that are left go on from what the names stand for
pub record NamesGoOn (tables : List Named) (names : Scope) (assigns left : List (List ℕ × Pipe)) (stages : StageScope) : Type 0 where
  pub now : Scope
  pub leads : with_assigned names assigns ≡ with_assigned now left
  pub stand : IsScopeOf tables now stages

abbrev then_named : Scope → List ℕ → List (List ℕ × Pipe) → Evaluated → Result Scope EvaluationFault
then_named scope name left e = with_assigned (scope ++ (name, e) ∷ []) left

next_assign : (names : Scope) (assigns : List (List ℕ × Pipe)) (k : ℕ) (assign : List ℕ × Pipe) → k < length assigns → assign ≡ get_or assigns k assign
    → with_assigned names (drop k assigns) ≡ and_then (piped names assign.1) (then_named names assign.0 (drop (k + 1) assigns))
next_assign names assigns k assign low is = ap (with_assigned names) (next_of assigns k assign low is)

pub assign_refused : (tables : List Named) (names : Scope) (assigns : List (List ℕ × Pipe)) (k : ℕ) (assign : List ℕ × Pipe) (stages left : StageScope) (o : Or EvaluationFault) → k < length assigns
    → assign ≡ get_or assigns k assign → NamesGoOn tables names assigns (drop k assigns) stages → ((now : Scope) → IsScopeOf tables now stages → GivesStage tables (Err o) (piped now assign.1))
    → GivesScope tables left (Err o) (with_assigned names assigns)
assign_refused tables names assigns k assign stages left (Fault f) low is had given =
    had.leads ∙ (next_assign had.now assigns k assign low is ∙ ap (λ r. and_then r (then_named had.now assign.0 (drop (k + 1) assigns))) (given had.now had.stand))
assign_refused tables names assigns k assign stages left Memory low is had given = tt

pub names_go_on : (tables : List Named) (names : Scope) (assigns : List (List ℕ × Pipe)) (k : ℕ) (assign : List ℕ × Pipe) (stages : StageScope) (stage : Stage) → k < length assigns
    → assign ≡ get_or assigns k assign → NamesGoOn tables names assigns (drop k assigns) stages → ((now : Scope) → IsScopeOf tables now stages → GivesStage tables (Ok stage) (piped now assign.1))
    → NamesGoOn tables names assigns (drop (k + 1) assigns) (stages ++ (assign.0, stage) ∷ [])
names_go_on tables names assigns k assign stages stage low is had given =
    let given = given had.now had.stand in
    record {
      now = had.now ++ (assign.0, given.0) ∷ [];
      leads = had.leads ∙ (next_assign had.now assigns k assign low is ∙ ap (λ r. and_then r (then_named had.now assign.0 (drop (k + 1) assigns))) given.1);
      stand = scope_more tables had.now stages assign.0 given.0 stage had.stand given.2;
    }

pub names_end : (tables : List Named) (names : Scope) (assigns left : List (List ℕ × Pipe)) (stages : StageScope) → left ≡ [] → NamesGoOn tables names assigns left stages
    → (scope : Scope) × (with_assigned names assigns ≡ Ok scope) × IsScopeOf tables scope stages
names_end tables names assigns left stages none had = (had.now, had.leads ∙ ap (with_assigned had.now) none, had.stand)

-- ---- scripts

pub script_refused : (tables : List Named) (script : Script) (stages : StageScope) (o : Or EvaluationFault) → GivesScope tables stages (Err o) (with_assigned (opening tables) script.assigns) → GivesStage tables (Err o) (evaluated script tables)
unfolding evaluated
script_refused tables script stages (Fault f) given = ap (λ r. and_then r (λ scope. piped scope script.last)) given
script_refused tables script stages Memory given = tt

pub script_given : (tables : List Named) (script : Script) (stages : StageScope) (r : Result Stage (Or EvaluationFault)) → GivesScope tables stages (Ok tt) (with_assigned (opening tables) script.assigns)
    → ((names : Scope) → IsScopeOf tables names stages → GivesStage tables r (piped names script.last)) → GivesStage tables r (evaluated script tables)
unfolding evaluated
script_given tables script stages r given last =
    let same : and_then (with_assigned (opening tables) script.assigns) (λ scope. piped scope script.last) ≡ piped given.0 script.last = ap (λ r. and_then r (λ scope. piped scope script.last)) given.1 in
    subst (GivesStage tables r) (sym same) (last given.0 given.2)
