use Rattle.task_work.proofs.Rests.{streamed_part, streamed_out, streamed_rest}
use Rattle.task_work.proofs.batches.stream.Goals as goal

pub returns : goal.returns
returns g c = λ v t kept w. (
  w.0,
  streamed_part g.O.Operator.meaning g.O.Operator.local_is g.O.Operator.shared_is v t c.args.part c.args.batch c.args.from w.1 w.2 c.deref.result.now c.deref-2.result.now c.deref.ensures c.deref-2.ensures c.stream.new.local c.in_ok-out.field-0.out c.in_ok-out.field-0.next c.in_ok-out.ensures,
  streamed_out g.O.Operator.meaning g.O.Operator.local_is g.O.Operator.shared_is v t c.args.part c.args.batch c.args.from w.1 w.2 c.deref.result.now c.deref-2.result.now c.deref.ensures c.deref-2.ensures c.stream.new.local c.in_ok-out.field-0.out c.in_ok-out.field-0.next c.in_ok-out.ensures c.args.kept c.index_where.result c.index.result c.set_index.new.self kept c.index.ensures c.index_where.ensures c.set_index.ensures,
  streamed_rest g.O.Operator.meaning g.O.Operator.local_is g.O.Operator.shared_is v t c.args.part c.args.batch c.args.from w.1 w.2 c.deref.result.now c.deref-2.result.now c.deref.ensures c.deref-2.ensures c.stream.new.local c.in_ok-out.field-0.out c.in_ok-out.field-0.next c.in_ok-out.ensures c.rest_of.result c.rest_of.ensures,
)
