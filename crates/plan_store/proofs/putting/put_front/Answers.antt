use Rattle.std.proofs.Common.{◌-◌, ◌<◌, length, ◌∷◌, refl, ap, ◌∙◌}
use Rattle.std.proofs.lemmas.List.{get_or_read}
use Rattle.std.specs.VecDeque.{deque_capacity}
use Rattle.backpressure.specs.Edges.{with_one_more}
use Rattle.plan_store.specs.declared.queue.Queue.{Queue}
use Rattle.plan_store.proofs.putting.put_front.Goals as goal

pub returns : goal.returns
returns c d =
    let within : c.args.edge - 1 < length c.args.queues.now.items = c.requires.place in
    let is = get_or_read c.args.queues.now.items (c.args.edge - 1) c.index_mut-queue.result.now within c.index_mut-queue.ensures.value d in (
      record { waiting = c.push_front_reserved.new.self; edge = c.came.new.self },
      refl,
      record {
        items_are = c.push_front_reserved.ensures.items ∙ ap (λ (q : Queue). c.args.waiting ∷ q.waiting.items) is;
        room = c.push_front_reserved.ensures.capacity ∙ ap (λ (q : Queue). deque_capacity q.waiting) is;
        edge = c.came.ensures ∙ ap (λ (q : Queue). with_one_more q.edge) is;
      },
    )
