-- A source's operator gives nothing.
use Rattle.std.proofs.Common.{Bool, refl}
use Rattle.plan_nodes.specs.Kinds.{no_meaning}
use Rattle.plan_nodes.proofs.Lawful.{LawfulMeaning}

pub source-lawful : (gathers gives : Bool) → LawfulMeaning no_meaning gathers gives
source-lawful gathers gives = record {
  part_nil = λ b. refl;
  part_append = λ b xs ys. refl;
  part_same = λ b c xs same h. refl;
  rest_same = λ tails b c xs ys same set. absurd (cc);
  fetch_wants = λ n wants front xs ys zs enough. refl;
}
