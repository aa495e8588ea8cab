use Rattle.std.proofs.Common.{◌<◌, length, arith, ◌++◌, refl, ap, sym, ◌∙◌}
use Rattle.std.proofs.lemmas.List.{get_or_read}
use Rattle.std.specs.Option.{option_to_list}
use Rattle.std.specs.VecDeque.{deque_capacity}
use Rattle.backpressure.specs.Edges.{with_one_less}
use Rattle.plan_store.specs.declared.queue.Queue.{Queue}
use Rattle.plan_store.proofs.taking.take_front.Goals as goal

pub returns : goal.returns
returns c d =
    let within : c.args.place < length c.args.queues.now.items = let l = c.args.queues.now.ok.0 in let lt = c.requires.place in omega arith in
    let is = get_or_read c.args.queues.now.items c.args.place c.index_mut-queue.result.now within c.index_mut-queue.ensures.value d in (
      record { waiting = c.pop_front.new.self; edge = c.went.new.self },
      refl,
      record {
        items = sym (ap (λ (q : Queue). q.waiting.items) is) ∙ (c.pop_front.ensures.items ∙ ap (λ o. option_to_list o ++ c.pop_front.new.self.items) c.unwrap.ensures);
        room = c.pop_front.ensures.capacity ∙ ap (λ (q : Queue). deque_capacity q.waiting) is;
        edge = c.went.ensures ∙ ap (λ (q : Queue). with_one_less q.edge) is;
      },
    )
