use Rattle.std.proofs.Common.{◌≡◌, ◌++◌, [], ◌∷◌, List, ℕ, sym, ◌∙◌, ap, subst}
use Rattle.csv.specs.Records.{AllText, fields_of}
use Rattle.csv.proofs.RecordFacts.{text-more}
use Rattle.scalar_fns.specs.Written.{written}
use Rattle.table_print.proofs.cells.put_value.Goals as goal

pub returns-in_ok-push_field-in-Chr-clause-text : goal.returns-in_ok-push_field-in-Chr-clause-text
returns-in_ok-push_field-in-Chr-clause-text c all =
    subst AllText (sym c.in_ok-push_field-in-Chr.ensures.fields) (text-more (fields_of c.args.line.now) c.as_str.result.now all c.as_str.utf8)

pub returns-in_ok-push_field-in-Int-clause-text : goal.returns-in_ok-push_field-in-Int-clause-text
returns-in_ok-push_field-in-Int-clause-text c all =
    subst AllText (sym c.in_ok-push_field-in-Int.ensures.fields) (text-more (fields_of c.args.line.now) c.format.result.now all c.format.utf8)

pub returns-in_ok-push_field-in_default : goal.returns-in_ok-push_field-in_default
returns-in_ok-push_field-in_default c =
    let told : c.as_str-in_default.result.now ≡ written c.args.value.now =
    c.as_str-in_default.ensures.value ∙ c.in_ok-write_value-in_default.ensures.appended ∙ ap (λ (t : List ℕ). t ++ written c.args.value.now) c.empty-text.ensures in
    record {
      cells = c.in_ok-push_field-in_default.ensures.fields ∙ ap (λ (t : List ℕ). fields_of c.args.line.now ++ t ∷ []) told;
      text = λ all. subst AllText (sym c.in_ok-push_field-in_default.ensures.fields) (text-more (fields_of c.args.line.now) c.as_str-in_default.result.now all c.as_str-in_default.utf8);
    }
