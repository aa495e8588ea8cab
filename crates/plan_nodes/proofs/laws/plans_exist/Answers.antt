use Rattle.std.proofs.Common.{refl}
use Rattle.plan_nodes.proofs.Example.{nodes, tables, pace, full_join, condition, is-plan, is-pace}
use Rattle.plan_nodes.proofs.laws.plans_exist.Goals as goal

pub returns : goal.returns
returns c = (
  nodes,
  tables,
  pace,
  record {
    plan = is-plan;
    paced = is-pace;
    sources = ((refl, refl, refl), ((refl, refl, refl), tt));
    two_sources = refl;
    join = 3;
    join_spec = full_join;
    is_join = refl;
    tails = refl;
    filter = 4;
    condition = condition;
    is_filter = refl;
  },
)
