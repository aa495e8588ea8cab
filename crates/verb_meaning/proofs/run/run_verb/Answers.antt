use Rattle.std.proofs.Common.{◌≡◌, sym, ap, ◌∙◌, subst}
use Rattle.row_table.specs.Tables.{TableValue, names_differ, fit_rows, are_groups}
use Rattle.verb_forms.specs.Shapes.{ShapeValue, shape_of}
use Rattle.verb_forms.specs.After.{after}
use Rattle.verb_forms.specs.Suits.{Suits}
use Rattle.verb_meaning.proofs.Fitting.{rows-fit}
use Rattle.verb_meaning.proofs.run.run_verb.Goals as goal

pub invariant_of-result : goal.invariant_of-result
invariant_of-result c =
    let shape : ShapeValue = record { schema = c.x.inside.schema; groups = c.x.inside.groups; mark = c.x.inside.mark } in
    let found : ShapeValue = record { schema = c.in_ok-schema.schema; groups = c.in_ok-schema.groups; mark = c.in_ok-schema.mark } in
    let suits : Suits c.args.verb.now shape = subst (λ (t : TableValue). Suits c.args.verb.now (shape_of t)) (sym c.x.view_is) c.requires in
    let made : found ≡ after c.args.verb.now shape = c.in_ok-schema.ensures in
    record {
      named = ap (λ (s : ShapeValue). names_differ s.schema) made ∙ suits.named;
      filled = ap (λ (s : ShapeValue). fit_rows s.schema c.in_ok-rows.rows) made ∙ ap (fit_rows (after c.args.verb.now shape).schema) c.in_ok-rows.ensures
          ∙ rows-fit c.args.verb.now shape c.x.inside.rows suits.form c.x.invariant.filled;
      grouped = ap (λ (s : ShapeValue). are_groups s.schema s.groups) made ∙ suits.grouped;
    }
