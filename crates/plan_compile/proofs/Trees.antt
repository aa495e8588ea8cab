-- Trees of verbs, and their plans.
use Rattle.std.proofs.Common.{◌≡◌, ℕ, List, [], ◌∷◌, ◌++◌, refl, sym, ◌∙◌, ap, ap₂, subst}
use Rattle.scalar_value.specs.declared.value.Value.{Value}
use Rattle.row_table.specs.declared.field.Field.{Field}
use Rattle.row_table.specs.Tables.{TableValue, IsTable}
use Rattle.chain_plans.specs.declared.nodes.Step.{Step}
use Rattle.chain_plans.specs.Chains.{AreSteps, chain_rows, step_rows}
use Rattle.chain_plans.specs.ChainLaws.{ChainsArePlans, ChainsMean}
use Rattle.verb_forms.specs.declared.verb.Verb.{Verb}
use Rattle.verb_forms.specs.Shapes.{shape_of}
use Rattle.verb_forms.specs.Suits.{Suits}
use Rattle.verb_meaning.specs.Meaning.{meaning}
use Rattle.verb_meaning.specs.Laws.{TableOfTable}
use Rattle.plan_compile.specs.declared.tree.Tree.{Tree}
use Rattle.plan_compile.specs.Steps.{steps_of}
use Rattle.plan_compile.specs.Trees.{source_tree, schema_behind, tree_columns, with_verb, with_verbs}
use Rattle.plan_compile.specs.CompileLaws.{AllSuit, table_after, AreStepsOf, VerbsAreSteps, IsTreeOf, TreesMean, PlansMean}

-- ---- steps behind steps

steps_more : (schema : List Field) (xs ys : List Step) → AreSteps schema xs → AreSteps (schema_behind schema xs) ys → AreSteps schema (xs ++ ys)
steps_more schema [] ys h k = k
steps_more schema (s ∷ xs) ys h k = (h.0, steps_more s.schema xs ys h.1 k)

behind_more : (schema : List Field) (xs ys : List Step) → schema_behind schema (xs ++ ys) ≡ schema_behind (schema_behind schema xs) ys
behind_more schema [] ys = refl
behind_more schema (s ∷ xs) ys = behind_more s.schema xs ys

rows_more : (xs ys : List Step) (rows : List (List Value)) → chain_rows (xs ++ ys) rows ≡ chain_rows ys (chain_rows xs rows)
rows_more [] ys rows = refl
rows_more (s ∷ xs) ys rows = rows_more xs ys (step_rows s.kind rows)

-- ---- one verb more

-- the tree's steps stand over the columns of x, and give the columns and rows of y
record Grown (t : Tree) (x y : TableValue) : Type 0 where
  schema : t.schema ≡ x.schema
  steps : AreSteps x.schema t.steps
  columns : schema_behind x.schema t.steps ≡ y.schema
  rows : chain_rows t.steps x.rows ≡ y.rows

grown_more : VerbsAreSteps → (t : Tree) (x y : TableValue) (v : Verb) → IsTable y → Suits v (shape_of y) → Grown t x y → Grown (with_verb t v) x (meaning v y)
grown_more verbs t x y v is suits g =
    let more : AreStepsOf v y = verbs v y is suits in
    let added : List Step = steps_of v (tree_columns t) in
    let columns : tree_columns t ≡ y.schema = ap (λ f. schema_behind f t.steps) g.schema ∙ g.columns in
    let same : steps_of v y.schema ≡ added = ap (steps_of v) (sym columns) in
    record {
      schema = g.schema;
      steps = steps_more x.schema t.steps added g.steps
          (subst (λ f. AreSteps f added) (sym g.columns) (subst (λ ss. AreSteps y.schema ss) same more.steps));
      columns = behind_more x.schema t.steps added ∙ ap (λ f. schema_behind f added) g.columns ∙ ap (schema_behind y.schema) (sym same) ∙ more.columns;
      rows = rows_more t.steps added x.rows ∙ ap (chain_rows added) g.rows ∙ ap (λ ss. chain_rows ss y.rows) (sym same) ∙ more.rows;
    }

grown_all : VerbsAreSteps → TableOfTable → (t : Tree) (x y : TableValue) (vs : List Verb) → IsTable y → AllSuit y vs → Grown t x y → Grown (with_verbs t vs) x (table_after y vs)
grown_all verbs tables t x y [] is suit g = g
grown_all verbs tables t x y (v ∷ vs) is suit g =
    grown_all verbs tables (with_verb t v) x (meaning v y) vs (tables v y suit.0 is) suit.1 (grown_more verbs t x y v is suit.0 g)

pub trees_mean : VerbsAreSteps → TableOfTable → TreesMean
trees_mean verbs tables name x vs is suit =
    let t : Tree = source_tree name (shape_of x) in
    let g : Grown (with_verbs t vs) x (table_after x vs) = grown_all verbs tables t x x vs is suit (record { schema = refl; steps = tt; columns = refl; rows = refl }) in
    record {
      steps = g.steps;
      columns = ap (λ f. schema_behind f (with_verbs t vs).steps) g.schema ∙ g.columns;
      rows = g.rows;
    }

-- ---- plans

-- verbs add steps alone
keeps_schema : (t : Tree) (vs : List Verb) → (with_verbs t vs).schema ≡ t.schema
keeps_schema t [] = refl
keeps_schema t (v ∷ vs) = keeps_schema (with_verb t v) vs

pub plans_mean : TreesMean → ChainsArePlans → ChainsMean → PlansMean
plans_mean trees plans mean name x vs pace is suit on =
    let t : Tree = with_verbs (source_tree name (shape_of x)) vs in
    let of : IsTreeOf t x (table_after x vs) = trees name x vs is suit in
    let steps : AreSteps t.schema t.steps = subst (λ f. AreSteps f t.steps) (sym (keeps_schema (source_tree name (shape_of x)) vs)) of.steps in (
      plans t.name t.mark t.schema t.steps steps,
      mean t.name t.mark t.schema t.steps x.rows pace steps on ∙ of.rows,
    )
