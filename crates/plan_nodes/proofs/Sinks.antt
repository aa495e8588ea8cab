-- A sink streams nothing and has no tails.
use Rattle.std.proofs.Common.{ℕ, Bool, refl}
use Rattle.plan_nodes.specs.Kinds.{sink_meaning}
use Rattle.plan_nodes.proofs.Lawful.{LawfulMeaning}

pub sink-lawful : (size : ℕ) (gathers gives : Bool) → LawfulMeaning (sink_meaning size) gathers gives
sink-lawful size gathers gives = record {
  part_nil = λ b. refl;
  part_append = λ b xs ys. refl;
  part_same = λ b c xs same h. refl;
  rest_same = λ tails b c xs ys same set. absurd (cc);
  fetch_wants = λ n wants front xs ys zs enough. absurd (cc);
}
