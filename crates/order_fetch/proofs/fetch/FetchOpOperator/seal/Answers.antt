use Rattle.std.proofs.Common.{sym, subst}
use Rattle.plan_machine.specs.Batch.{gathered}
use Rattle.plan_nodes.specs.Operators.{flat}
use Rattle.plan_nodes.specs.KindRows.{fetched}
use Rattle.order_fetch.specs.Sinks.{HoldsRows}
use Rattle.order_fetch.proofs.Fetching.{held-fetched}
use Rattle.order_fetch.proofs.fetch.FetchOpOperator.seal.Goals as goal

pub returns : goal.returns
returns g c inputs lists each =
    let op = c.args.self.now in
    let all = c.in_ok-all.all in
    subst (λ rows. HoldsRows inputs all.kinds rows (fetched op.offset op.count (gathered (flat lists)))) (sym c.fetched_rows-rows.ensures)
    (held-fetched inputs all.kinds all.rows (gathered (flat lists)) op.offset op.count (c.in_ok-all.ensures inputs lists each))
