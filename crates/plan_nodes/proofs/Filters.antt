-- A filter takes its rows one by one.
use Rattle.std.proofs.Common.{Bool, refl}
use Rattle.std.proofs.lemmas.List.Elements.{filter-append}
use Rattle.scalar_value.specs.Truths.{is_true}
use Rattle.na_expr.specs.declared.expr.Expr.{Expr}
use Rattle.na_expr.specs.Evaluation.{val}
use Rattle.plan_nodes.specs.Kinds.{filter_meaning}
use Rattle.plan_nodes.proofs.Lawful.{LawfulMeaning}

pub filter-lawful : (e : Expr) (gathers gives : Bool) → LawfulMeaning (filter_meaning e) gathers gives
filter-lawful e gathers gives = record {
  part_nil = λ b. refl;
  part_append = λ b xs ys. filter-append (λ row. is_true (val row e)) xs ys;
  part_same = λ b c xs same h. refl;
  rest_same = λ tails b c xs ys same set. absurd (cc);
  fetch_wants = λ n wants front xs ys zs enough. refl;
}
