use Rattle.std.proofs.Common.{◌≡◌}
use Rattle.plan_machine.specs.Batch.{rows_of}
use Rattle.plan_nodes.specs.Operators.{flat}
use Rattle.plan_nodes.specs.Kinds.{unmatched_rows}
use Rattle.plan_nodes.specs.Examples.{by_first, bare}
use Rattle.plan_nodes.proofs.JoinParts.{closed-holds}
use Rattle.plan_nodes.proofs.tests.join.FirstJoinOperator.close.Goals as goal

pub returns : goal.returns
returns g c inputs built lists fits holds each =
    let all : c.in_ok-streamed.streamed ≡ rows_of (bare (flat c.args.locals)) = cc (c.in_ok-streamed.ensures, c.in_ok-all.ensures) in
    let last : c.in_ok-ends.ends ≡ unmatched_rows by_first c.args.self.now.left c.in_ok-rows.rows c.in_ok-streamed.streamed = cc c.in_ok-ends.ensures in
    closed-holds c.args.self.now.left c.args.self.now.right c.args.self.now.size inputs fits c.args.locals lists built c.args.shared.now.rows c.args.shared.now.ends c.in_ok-rows.rows c.in_ok-streamed.streamed c.in_ok-ends.ends c.in_ok-rows.ensures all last holds each
