use Rattle.std.proofs.Common.{arith}
use Rattle.order_fetch.proofs.Gathering.{held-fit, part-given}
use Rattle.order_fetch.proofs.sink.SinkOpOperator.tail.Goals as goal

pub part-requires : goal.part-requires
part-requires c =
    let s = c.requires in
    held-fit s.0 c.args.shared.now.kinds c.args.shared.now.rows s.1 s.4

pub returns : goal.returns
returns c ends inputs built streamed fits holds below =
    part-given inputs c.args.shared.now.kinds c.args.shared.now.rows built c.args.self.now.batch c.args.k c.part.result (omega arith) holds below c.part.ensures.rows c.part.ensures.kinds
