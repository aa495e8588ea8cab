use Rattle.std.proofs.Common.{[]}
use Rattle.plan_nodes.specs.Operators.{first_of}
use Rattle.stream_ops.proofs.tests.streamed.Goals as goal

pub stream-requires-clause-stands : goal.stream-requires-clause-stands
stream-requires-clause-stands g c =
    let r = c.requires in
    (r.0, [], [], r.1, c.in_ok-shared.ensures r.0, c.in_ok-local.ensures (first_of r.0), r.2)
