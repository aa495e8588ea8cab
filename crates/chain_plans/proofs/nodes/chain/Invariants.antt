use Rattle.std.proofs.Common.{◌≡◌, ◌≤◌, ◌+◌, ◌++◌, length}
use Rattle.chain_plans.specs.Chains.{chain_nodes, nodes_behind}
use Rattle.chain_plans.proofs.Making.{last_columns}
use Rattle.chain_plans.proofs.nodes.chain.Given as goal

abbrev pub invariant-loop-step : goal.invariant-loop-step
invariant-loop-step l = record {
  some : 1 ≤ length l.nodes.items;
  few : length l.nodes.items + length l.step-iterator.rest.items ≤ 255;
  so_far : l.nodes.items ++ nodes_behind l.fn.mark (length l.nodes.items) (last_columns l.nodes.items) l.step-iterator.rest.items ≡ chain_nodes l.fn.name l.fn.mark l.fn.schema l.fn.steps;
}
