use Rattle.std.proofs.Common.{sym, ap, subst, ◌∙◌, arith}
use Rattle.plan_store.specs.Told.{site_of}
use Rattle.task_work.specs.Work.{IsFruit}
use Rattle.worker_run.proofs.Driving.{site_batch}
use Rattle.worker_run.proofs.alone.work.Goals as goal

pub run_task-requires-clause-batch : goal.run_task-requires-clause-batch
run_task-requires-clause-batch g c κs within =
    let h = c.in-Some.ensures.claimed in
    let same = sym (site_batch c.claim.new.self.given c.in-Some.task.node) ∙ h.in_hand.cuts in
    let kept = ap (λ t. t.given.pace.batch) h.told in
    let low = c.requires.batch in
    omega arith

pub deliver-requires-clause-due : goal.deliver-requires-clause-due
deliver-requires-clause-due g c κs within =
    let h = c.in-Some.ensures.claimed in
    let r = c.in_ok-done-in-Some.ensures (site_of c.claim.new.self.given c.in-Some.task.node) h.in_hand.task h.in_hand.keeps h.in_hand.cuts h.in_hand.work in
    record {
      task = h.in_hand.task;
      flies = h.in_hand.flies;
      at_node = h.in_hand.at_node ∙ sym r.0;
      fruit = subst (λ n. IsFruit g.O.Operator.meaning g.O.Operator.local_is g.O.Operator.shared_is (site_of c.claim.new.self.given n) h.in_hand.task c.in_ok-done-in-Some.done.fruit) (sym r.0) r.1;
    }
