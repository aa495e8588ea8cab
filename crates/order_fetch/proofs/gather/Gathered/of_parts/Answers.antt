use Rattle.std.proofs.Common.{◌≡◌}
use Rattle.plan_nodes.specs.Examples.{first_kinds}
use Rattle.order_fetch.proofs.Gathering.{sealed}
use Rattle.order_fetch.proofs.gather.Gathered.of_parts.Goals as goal

pub returns : goal.returns
returns c inputs lists each =
    let kinds : c.in_ok-kinds.kinds ≡ first_kinds c.in_ok-all.all.items = cc (c.in_ok-kinds.ensures, c.as_slice.ensures.value) in
    sealed inputs c.args.parts lists c.in_ok-all.all.items c.in_ok-kinds.kinds c.in_ok-rows.rows c.in_ok-all.ensures kinds c.in_ok-rows.ensures each
