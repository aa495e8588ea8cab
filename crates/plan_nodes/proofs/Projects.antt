-- A project takes its rows one by one.
use Rattle.std.proofs.Common.{Bool, List, map, refl}
use Rattle.std.proofs.lemmas.List.{map-append}
use Rattle.scalar_value.specs.declared.value.ColType.{ColType}
use Rattle.na_expr.specs.declared.expr.Expr.{Expr}
use Rattle.na_expr.specs.Evaluation.{val}
use Rattle.plan_nodes.specs.Kinds.{project_meaning}
use Rattle.plan_nodes.proofs.Lawful.{LawfulMeaning}

pub project-lawful : (es : List Expr) (kinds : List ColType) (gathers gives : Bool) → LawfulMeaning (project_meaning es kinds) gathers gives
project-lawful es kinds gathers gives = record {
  part_nil = λ b. refl;
  part_append = λ b xs ys. map-append (λ row. map (val row) es) xs ys;
  part_same = λ b c xs same h. refl;
  rest_same = λ tails b c xs ys same set. absurd (cc);
  fetch_wants = λ n wants front xs ys zs enough. refl;
}
