use Rattle.std.proofs.Common.{◌∙◌}
use Rattle.std.specs.Arc.{arc_value}
use Rattle.column_batch.specs.Batches.{kinds_of}
use Rattle.hash_join.proofs.Held.{sealed}
use Rattle.hash_join.proofs.join.JoinOpOperator.seal.Goals as goal

pub returns : goal.returns
returns g c inputs lists fits each =
    sealed c.args.self.now.spec (kinds_of c.args.self.now.left) (kinds_of c.args.self.now.right) c.args.self.now.batch inputs fits
    c.args.locals lists c.in_ok-all.all.items (arc_value c.in_ok-new.field-0) c.in_ok-all.ensures (c.in_ok-new.ensures.ok ∙ c.in_ok-rows.ensures) each
