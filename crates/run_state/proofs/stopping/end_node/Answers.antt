use Rattle.std.proofs.Common.{◌<◌, length, arith, refl, subst}
use Rattle.std.proofs.lemmas.List.{get_or_read}
use Rattle.run_state.specs.Stopping.{IsEmptied}
use Rattle.run_state.proofs.stopping.end_node.Goals as goal

pub returns-clause-queues : goal.returns-clause-queues
returns-clause-queues c d =
    let within : c.args.place < length c.args.queues.now.items = let l = c.args.queues.now.ok.0 in let lt = c.requires.queue in omega arith in
    let is = get_or_read c.args.queues.now.items c.args.place c.index_mut-2.result.now within c.index_mut-2.ensures.value d in
    (c.empty_edge.new.queue, refl, subst (λ q. IsEmptied q c.empty_edge.new.queue) is c.empty_edge.ensures)
