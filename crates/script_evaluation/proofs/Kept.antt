-- The tree of an evaluated script means its table: what a name stands for comes from a table of the words by verbs, each of which
-- suits the table before it.
use Rattle.std.proofs.Common.{◌≡◌, ◌≤◌, ℕ, zero, suc, Bool, true, false, if◌then◌else◌, Option, Some, None, Ok, List, [], ◌∷◌, ◌++◌, refl, sym, ap, subst, ◌∙◌, lit≤, arith}
use Rattle.std.specs.Str.{bytes_eq}
use Rattle.std.specs.List.{All, Contains}
use Rattle.std.proofs.lemmas.List.Elements.{All-map, All-push, All-contains_itself}
use Rattle.std.proofs.lemmas.List.Sums.{fold-append}
use Rattle.row_table.specs.Tables.{TableValue, IsTable}
use Rattle.syntax_tree.specs.declared.tree.Pipe.{Pipe, out-Pipe}
use Rattle.syntax_tree.specs.declared.tree.Call.{Call, out-Call}
use Rattle.verb_forms.specs.declared.verb.Verb.{Verb}
use Rattle.verb_forms.specs.Shapes.{shape_of}
use Rattle.verb_forms.specs.Suits.{Suits}
use Rattle.verb_meaning.specs.Meaning.{meaning}
use Rattle.verb_meaning.specs.Laws.{TableOfTable}
use Rattle.verb_types.specs.Checks.{checked}
use Rattle.verb_types.specs.CheckLaws.{CheckedVerbsSuit}
use Rattle.plan_compile.specs.declared.tree.Tree.{Tree}
use Rattle.plan_compile.specs.Trees.{source_tree, with_verb as tree_with, with_verbs, plan_size, added}
use Rattle.plan_compile.specs.CompileLaws.{AllSuit, table_after, IsTreeOf, TreesMean}
use Rattle.script_evaluation.specs.Evaluation.{Named, Evaluated, Scope, of_words, opening, or_earlier, found, of_check, of_size, with_verb, with_call, with_calls, known_or_fault, piped, with_assigned, evaluated}
use Rattle.script_evaluation.specs.EvaluationLaws.{IsEvaluated, PlansMeanTheirTables}
use Rattle.script_evaluation.proofs.Refusals.{not_refused, check_ok, size_ok, known_ok, added_is}

-- ---- one verb more

suit_more : (x : TableValue) (vs : List Verb) (v : Verb) → AllSuit x vs → Suits v (shape_of (table_after x vs)) → AllSuit x (vs ++ v ∷ [])
suit_more x [] v all suits = (suits, tt)
suit_more x (w ∷ vs) v all suits = (all.0, suit_more (meaning w x) vs v all.1 suits)

table_more : (x : TableValue) (vs : List Verb) (v : Verb) → table_after x (vs ++ v ∷ []) ≡ meaning v (table_after x vs)
table_more x vs v = fold-append (λ (y : TableValue) (w : Verb). meaning w y) x vs (v ∷ [])

tree_more : (t : Tree) (vs : List Verb) (v : Verb) → with_verbs t (vs ++ v ∷ []) ≡ tree_with (with_verbs t vs) v
tree_more t vs v = fold-append tree_with t vs (v ∷ [])

-- ---- what is kept

-- the verbs by which the tree and the table come from a table of the words
record Comes (tables : List Named) (e : Evaluated) : Type 0 where
  name : List ℕ
  verbs : List Verb
  among : Contains tables (name, e.source)
  named : e.tree.name ≡ name
  head : (e.tree.mark ≡ e.source.mark) × (e.tree.schema ≡ e.source.schema)
  size : plan_size e.tree ≤ 256
  tree : e.tree ≡ with_verbs (source_tree name (shape_of e.source)) verbs
  suits : AllSuit e.source verbs
  after : e.table ≡ table_after e.source verbs
  table : IsTable e.table

-- so it does where the table of the words is a table
record MayCome (tables : List Named) (e : Evaluated) : Type 0 where
  comes : IsTable e.source → Comes tables e

abbrev AllCome : List Named → Scope → Type 0
AllCome tables scope = All (λ (x : List ℕ × Evaluated). MayCome tables x.1) scope

words_come : (tables : List Named) (t : Named) → Contains tables t → MayCome tables (of_words t).1
words_come tables t among = record {
  comes = λ table. record {
    name = t.0;
    verbs = [];
    among = among;
    named = refl;
    head = (refl, refl);
    size = lit≤ tt;
    tree = refl;
    suits = tt;
    after = refl;
    table = table;
  };
}

opening_comes : (tables : List Named) → AllCome tables (opening tables)
opening_comes tables = All-map (λ (x : List ℕ × Evaluated). MayCome tables x.1) of_words tables (λ k d low. words_come tables _ (All-contains_itself tables k d low))

or_earlier_comes : (tables : List Named) (later : Option Evaluated) (is : Bool) (e x : Evaluated) → ((y : Evaluated) → later ≡ Some y → MayCome tables y) → MayCome tables e
    → or_earlier later (if is then Some e else None) ≡ Some x → MayCome tables x
or_earlier_comes tables (Some y) is e x all here h = all x h
or_earlier_comes tables None true e x all here h = let same : e ≡ x = cc in subst (MayCome tables) same here
or_earlier_comes tables None false e x all here h = absurd (cc)

found_comes : (tables : List Named) (name : List ℕ) (scope : Scope) (x : Evaluated) → AllCome tables scope → found name scope ≡ Some x → MayCome tables x
found_comes tables name [] x all h = absurd (cc)
found_comes tables name (e ∷ scope) x all h =
    or_earlier_comes tables (found name scope) (bytes_eq e.0 name) e.1 x (λ y. found_comes tables name scope y (λ k d low. all (suc k) d (omega arith))) (all zero e (omega arith)) h

module _ (suit : CheckedVerbsSuit) (keep : TableOfTable) (tables : List Named) where
  verb_comes : (e : Evaluated) (v : Verb) (t : Tree) → (IsTable e.table → Suits v (shape_of e.table)) → t ≡ tree_with e.tree v → plan_size t ≤ 256 → Comes tables e
      → Comes tables (record e { table = meaning v e.table; tree = t })
  verb_comes e v t suits is few had =
      let s = suits had.table in
      record {
        name = had.name;
        verbs = had.verbs ++ v ∷ [];
        among = had.among;
        named = ap (λ (t : Tree). t.name) is ∙ had.named;
        head = (ap (λ (t : Tree). t.mark) is ∙ had.head.0, ap (λ (t : Tree). t.schema) is ∙ had.head.1);
        size = few;
        tree = is ∙ (ap (λ t. tree_with t v) had.tree ∙ sym (tree_more (source_tree had.name (shape_of e.source)) had.verbs v));
        suits = suit_more e.source had.verbs v had.suits (subst (λ y. Suits v (shape_of y)) had.after s);
        after = ap (meaning v) had.after ∙ sym (table_more e.source had.verbs v);
        table = keep v e.table s had.table;
      }

  verb_may_come : (at : ℕ) (e now : Evaluated) (v : Verb) → (IsTable e.table → Suits v (shape_of e.table)) → MayCome tables e → with_verb at e v ≡ Ok now → MayCome tables now
  verb_may_come at e now v suits had h =
      let b = not_refused (of_size at (added e.tree v)) (λ t. Ok (record e { table = meaning v e.table; tree = t })) now h in
      let t : Tree = b.value in
      let is = added_is e.tree t v (size_ok at (added e.tree v) t b.first) in
      let made : Evaluated = record e { table = meaning v e.table; tree = t } in
      let same : made ≡ now = cc (b.second) in
      subst (MayCome tables) same (record { comes = λ table. verb_comes e v t suits is.0 is.1 (had.comes table) })

  call_comes : (e now : Evaluated) (call : Call) → MayCome tables e → with_call e call ≡ Ok now → MayCome tables now
  call_comes e now call had h =
      let b = not_refused (of_check (checked call (shape_of e.table))) (λ v. with_verb (out-Call call).at e v.0) now h in
      let is = check_ok (checked call (shape_of e.table)) b.value b.first in
      verb_may_come (out-Call call).at e now b.value.0 (λ table. (suit call (shape_of e.table) b.value.0 b.value.1 (record { named = table.named; grouped = table.grouped }) is).0) had b.second

  calls_come : (e now : Evaluated) (calls : List Call) → MayCome tables e → with_calls e calls ≡ Ok now → MayCome tables now
  calls_come e now [] had h = let same : e ≡ now = cc in subst (MayCome tables) same had
  calls_come e now (call ∷ calls) had h =
      let b = not_refused (with_call e call) (λ x. with_calls x calls) now h in
      calls_come b.value now calls (call_comes e b.value call had b.first) b.second

  pipe_comes : (scope : Scope) (pipe : Pipe) (now : Evaluated) → AllCome tables scope → piped scope pipe ≡ Ok now → MayCome tables now
  pipe_comes scope pipe now all h =
      let b = not_refused (known_or_fault (out-Pipe pipe).at (found (out-Pipe pipe).table scope)) (λ e. with_calls e (out-Pipe pipe).calls) now h in
      calls_come b.value now (out-Pipe pipe).calls
      (found_comes tables (out-Pipe pipe).table scope b.value all (known_ok (out-Pipe pipe).at (found (out-Pipe pipe).table scope) b.value b.first)) b.second

  assigned_comes : (scope now : Scope) (assigns : List (List ℕ × Pipe)) → AllCome tables scope → with_assigned scope assigns ≡ Ok now → AllCome tables now
  assigned_comes scope now [] all h = let same : scope ≡ now = cc in subst (AllCome tables) same all
  assigned_comes scope now (assign ∷ assigns) all h =
      let b = not_refused (piped scope assign.1) (λ e. with_assigned (scope ++ (assign.0, e) ∷ []) assigns) now h in
      assigned_comes (scope ++ (assign.0, b.value) ∷ []) now assigns
      (All-push (λ (x : List ℕ × Evaluated). MayCome tables x.1) scope (assign.0, b.value) all (pipe_comes scope assign.1 b.value all b.first)) b.second

-- ---- the law

means : TreesMean → (tables : List Named) (e : Evaluated) → IsTable e.source → Comes tables e → IsEvaluated tables e
means trees tables e is had =
    let t : Tree = with_verbs (source_tree had.name (shape_of e.source)) had.verbs in
    let of : IsTreeOf t e.source (table_after e.source had.verbs) = trees had.name e.source had.verbs is had.suits in
    record {
      source = subst (λ n. Contains tables (n, e.source)) (sym had.named) had.among;
      head = had.head;
      size = had.size;
      means = subst (λ t. IsTreeOf t e.source e.table) (sym had.tree) (subst (IsTreeOf t e.source) (sym had.after) of);
      table = had.table;
    }

-- by the laws of checks, of verbs and of their trees
pub plans_mean_their_tables : CheckedVerbsSuit → TableOfTable → TreesMean → PlansMeanTheirTables
unfolding evaluated
plans_mean_their_tables suit keep trees script tables e h table =
    let b = not_refused (with_assigned (opening tables) script.assigns) (λ scope. piped scope script.last) e h in
    let all = assigned_comes suit keep tables (opening tables) b.value script.assigns (opening_comes tables) b.first in
    means trees tables e table ((pipe_comes suit keep tables b.value script.last e all b.second).comes table)
