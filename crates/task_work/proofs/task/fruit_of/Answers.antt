use Rattle.std.proofs.Common.{subst}
use Rattle.task_work.specs.Work.{IsWork}
use Rattle.task_work.proofs.task.fruit_of.Goals as goal

pub returns-in-Emit : goal.returns-in-Emit
returns-in-Emit g c = λ v t k b w. c.emit.ensures v t k b (subst (IsWork g.O.Operator.meaning g.O.Operator.local_is g.O.Operator.shared_is v t) c.in-Emit.is w)

pub returns-in-Fold : goal.returns-in-Fold
returns-in-Fold g c = λ v t k b w. c.fold.ensures v t (subst (IsWork g.O.Operator.meaning g.O.Operator.local_is g.O.Operator.shared_is v t) c.in-Fold.is w)

pub returns-in-Seal : goal.returns-in-Seal
returns-in-Seal g c = λ v t k b w. c.seal.ensures v t (subst (IsWork g.O.Operator.meaning g.O.Operator.local_is g.O.Operator.shared_is v t) c.in-Seal.is w)

pub returns-in-Stream : goal.returns-in-Stream
returns-in-Stream g c = λ v t k b w. c.stream.ensures v t k (subst (IsWork g.O.Operator.meaning g.O.Operator.local_is g.O.Operator.shared_is v t) c.in-Stream.is w)

pub returns-in-Close : goal.returns-in-Close
returns-in-Close g c = λ v t k b w. c.close.ensures v t (subst (IsWork g.O.Operator.meaning g.O.Operator.local_is g.O.Operator.shared_is v t) c.in-Close.is w)

pub returns-in-Tail : goal.returns-in-Tail
returns-in-Tail g c = λ v t k b w. c.tail.ensures v t k (subst (IsWork g.O.Operator.meaning g.O.Operator.local_is g.O.Operator.shared_is v t) c.in-Tail.is w)
