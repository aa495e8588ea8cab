use Rattle.std.proofs.Common.{◌≡◌}
use Rattle.std.specs.Arc.{arc_value}
use Rattle.column_batch.specs.Batches.{kinds_of}
use Rattle.plan_nodes.specs.Kinds.{unmatched}
use Rattle.hash_join.proofs.Held.{closed}
use Rattle.hash_join.proofs.join.JoinOpOperator.close.Goals as goal

pub returns : goal.returns
returns g c inputs built lists fits holds each =
    let ends : c.in_ok-ends.ends ≡ unmatched c.args.self.now.spec (arc_value c.args.shared.now.rows) c.in_ok-streamed.streamed = cc (c.in_ok-ends.ensures, c.as_slice.ensures, c.as_slice-2.ensures, c.deref.ensures) in
    closed c.args.self.now.spec (kinds_of c.args.self.now.left) (kinds_of c.args.self.now.right) c.args.self.now.batch inputs fits
    c.args.locals lists built (arc_value c.args.shared.now.rows) (arc_value c.in_ok-try_clone.field-0) c.in_ok-streamed.streamed c.in_ok-ends.ends c.args.shared.now.ends c.in_ok-all.all.items
    c.in_ok-try_clone.ensures c.in_ok-all.ensures c.in_ok-streamed.ensures ends holds each
