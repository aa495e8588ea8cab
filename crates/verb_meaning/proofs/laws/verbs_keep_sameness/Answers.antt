use Rattle.verb_forms.specs.Shapes.{shape_of}
use Rattle.verb_meaning.proofs.Fitting.{rows-fit}
use Rattle.verb_meaning.proofs.Sameness.{same_meaning}
use Rattle.verb_meaning.proofs.laws.verbs_keep_sameness.Goals as goal

pub returns-clause-same : goal.returns-clause-same
returns-clause-same c v x y suits same = same_meaning v x y same

pub returns-clause-table : goal.returns-clause-table
returns-clause-table c v x suits is = record {
  named = suits.named;
  filled = rows-fit v (shape_of x) x.rows suits.form is.filled;
  grouped = suits.grouped;
}
