use Rattle.std.proofs.Common.{◌≡◌, ◌-◌, ◌∷◌, Some, sym, subst, ◌∙◌, slice_set, slice_index_or}
use Rattle.task_work.specs.declared.work.Waiting.{Waiting}
use Rattle.plan_store.specs.declared.queue.Queue.{Queue}
use Rattle.plan_store.specs.Putting.{IsGrown}
use Rattle.plan_store.proofs.putting.put_rest.Goals as goal

pub returns-in-Some-clause-some : goal.returns-in-Some-clause-some
returns-in-Some-clause-some c w d e =
    let same : Some c.in-Some.waiting ≡ Some w = sym c.in-Some.is ∙ e in
    let is : c.in-Some.waiting ≡ w = cc in
    subst (λ (x : Waiting). (q : Queue) × (c.put_front.new.queues.items ≡ slice_set c.args.queues.now.items (c.args.edge - 1) q) × IsGrown (slice_index_or c.args.queues.now.items (c.args.edge - 1) d) (x ∷ (slice_index_or c.args.queues.now.items (c.args.edge - 1) d).waiting.items) q) is
    (c.put_front.ensures d)
