use Rattle.std.proofs.Common.{◌≡◌, []}
use Rattle.plan_nodes.specs.Kinds.{unmatched_rows}
use Rattle.plan_nodes.specs.Examples.{by_first}
use Rattle.plan_nodes.proofs.JoinParts.{sealed-holds}
use Rattle.plan_nodes.proofs.tests.join.FirstJoinOperator.seal.Goals as goal

pub returns : goal.returns
returns g c inputs lists fits each =
    let last : c.in_ok-ends.ends ≡ unmatched_rows by_first c.args.self.now.left c.in_ok-rows.rows [] = cc c.in_ok-ends.ensures in
    sealed-holds c.args.self.now.left c.args.self.now.right c.args.self.now.size inputs fits c.args.locals lists c.in_ok-rows.rows c.in_ok-ends.ends c.in_ok-rows.ensures last each
