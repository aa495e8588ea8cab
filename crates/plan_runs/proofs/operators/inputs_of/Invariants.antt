use Rattle.std.proofs.Common.{◌≡◌, map, take}
use Rattle.plan_nodes.specs.Plans.{node_at}
use Rattle.plan_runs.proofs.operators.inputs_of.Given as goal

abbrev pub invariant-loop-input : goal.invariant-loop-input
invariant-loop-input l = map (λ s. s.now) l.schemas.items ≡ map (λ e. (node_at l.nodes e).schema) (take l.input-index l.input-items)
