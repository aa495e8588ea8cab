use Rattle.std.proofs.Common.{◌++◌, [], ◌∷◌, List, ℕ, sym, ◌∙◌, ap, ap₂, subst}
use Rattle.std.proofs.lemmas.List.{map_more}
use Rattle.csv.specs.Records.{AllText, fields_of}
use Rattle.csv.proofs.RecordFacts.{text-more}
use Rattle.table_print.specs.Cells.{heading}
use Rattle.table_print.proofs.Texts.{no-text}
use Rattle.table_print.proofs.cells.fill_headings.Goals as goal

pub loop-field-init : goal.loop-field-init
loop-field-init c = record { cells = c.clear.ensures.fields; text = subst AllText (sym c.clear.ensures.fields) no-text }

pub loop-field-preserved : goal.loop-field-preserved
loop-field-preserved c = record {
  cells =
      c.in_ok-push_field.ensures.fields
      ∙ ap₂ (λ (cells : List (List ℕ)) (cell : List ℕ). cells ++ cell ∷ []) c.loop-field.invariant.cells (c.as_str.ensures.value ∙ c.in_ok-heading.ensures ∙ ap heading c.field-item.is)
      ∙ sym (map_more heading c.args.fields.now c.loop-field.field-index c.field-item.result c.loop-field-test.true);
  text = subst AllText (sym c.in_ok-push_field.ensures.fields) (text-more (fields_of c.loop-field.line) c.as_str.result.now c.loop-field.invariant.text c.as_str.utf8);
}
