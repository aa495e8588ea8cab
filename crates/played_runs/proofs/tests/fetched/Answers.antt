use Rattle.std.proofs.Common.{List, sym, subst}
use Rattle.plan_nodes.specs.declared.node.Node.{Node}
use Rattle.plan_store.specs.Beginning.{AreTables}
use Rattle.played_runs.proofs.Tested.{fetch_is_plan}
use Rattle.played_runs.proofs.tests.fetched.Goals as goal

pub operators_of-requires-clause-plan : goal.operators_of-requires-clause-plan
operators_of-requires-clause-plan g c = fetch_is_plan c.args.offset c.args.count c.in_ok-plan.plan.nodes c.requires c.in_ok-plan.ensures

pub play-requires-clause-planned : goal.play-requires-clause-planned
play-requires-clause-planned g c κs within = fetch_is_plan c.args.offset c.args.count c.in_ok-plan.plan.nodes c.requires c.in_ok-plan.ensures

pub play-requires-clause-tables : goal.play-requires-clause-tables
play-requires-clause-tables g c κs within = subst (λ (ns : List Node). AreTables ns c.in_ok-tables.tables) (sym c.in_ok-plan.ensures) (c.in_ok-tables.ensures c.args.offset c.args.count)
