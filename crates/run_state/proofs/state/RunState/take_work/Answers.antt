use Rattle.std.proofs.Common.{subst}
use Rattle.plan_store.specs.Told.{Told, given_by}
use Rattle.run_state.proofs.Works.{Run, run_of, fold_first, stream_first, fold_has, stream_has, tail_has, emitting, folding, sealing, streaming, closing, tailing}
use Rattle.run_state.proofs.state.RunState.take_work.Goals as goal

pub take_batch-share-requires-clause-oldest : goal.take_batch-share-requires-clause-oldest
take_batch-share-requires-clause-oldest g c κs within =
    let p = c.self.inside in
    let t : Told = record { given = given_by p.plan.nodes p.sources p.setting; history = p.history.items; room = p.room } in
    let r = subst Run c.self.view_is (run_of g.O.Operator.meaning g.O.Operator.local_is g.O.Operator.shared_is t p.infos.items p.stages.items p.queues.items _ p.seats.items p.failed p.flying _ c.self.invariant) in
    fold_first g.O.Operator.meaning g.O.Operator.local_is g.O.Operator.shared_is c.args.self.now r c.args.worker c.args.flight c.requires.chosen c.in-Fold.is

pub part_of-requires : goal.part_of-requires
part_of-requires g c =
    let p = c.self.inside in
    let t : Told = record { given = given_by p.plan.nodes p.sources p.setting; history = p.history.items; room = p.room } in
    let r = subst Run c.self.view_is (run_of g.O.Operator.meaning g.O.Operator.local_is g.O.Operator.shared_is t p.infos.items p.stages.items p.queues.items _ p.seats.items p.failed p.flying _ c.self.invariant) in
    fold_has g.O.Operator.meaning g.O.Operator.local_is g.O.Operator.shared_is c.args.self.now r c.args.worker c.args.flight c.requires.chosen c.in-Fold.is c.take_batch-share.result.0 c.take_batch-share.ensures.share

pub take_batch-share-requires-in-Stream-clause-oldest : goal.take_batch-share-requires-in-Stream-clause-oldest
take_batch-share-requires-in-Stream-clause-oldest g c κs within =
    let p = c.self.inside in
    let t : Told = record { given = given_by p.plan.nodes p.sources p.setting; history = p.history.items; room = p.room } in
    let r = subst Run c.self.view_is (run_of g.O.Operator.meaning g.O.Operator.local_is g.O.Operator.shared_is t p.infos.items p.stages.items p.queues.items _ p.seats.items p.failed p.flying _ c.self.invariant) in
    stream_first g.O.Operator.meaning g.O.Operator.local_is g.O.Operator.shared_is c.args.self.now r c.args.worker c.args.flight c.requires.chosen c.in-Stream.is

pub part_of-requires-in-Stream : goal.part_of-requires-in-Stream
part_of-requires-in-Stream g c =
    let p = c.self.inside in
    let t : Told = record { given = given_by p.plan.nodes p.sources p.setting; history = p.history.items; room = p.room } in
    let r = subst Run c.self.view_is (run_of g.O.Operator.meaning g.O.Operator.local_is g.O.Operator.shared_is t p.infos.items p.stages.items p.queues.items _ p.seats.items p.failed p.flying _ c.self.invariant) in
    stream_has g.O.Operator.meaning g.O.Operator.local_is g.O.Operator.shared_is c.args.self.now r c.args.worker c.args.flight c.requires.chosen c.in-Stream.is c.take_batch-share-in-Stream.result.0 c.take_batch-share-in-Stream.ensures.share

pub part_of-requires-in-Tail : goal.part_of-requires-in-Tail
part_of-requires-in-Tail g c =
    let p = c.self.inside in
    let t : Told = record { given = given_by p.plan.nodes p.sources p.setting; history = p.history.items; room = p.room } in
    let r = subst Run c.self.view_is (run_of g.O.Operator.meaning g.O.Operator.local_is g.O.Operator.shared_is t p.infos.items p.stages.items p.queues.items _ p.seats.items p.failed p.flying _ c.self.invariant) in
    tail_has g.O.Operator.meaning g.O.Operator.local_is g.O.Operator.shared_is c.args.self.now r c.args.worker c.args.flight c.requires.chosen c.in-Tail.is c.take_one-share-in-Tail.result c.take_one-share-in-Tail.ensures.share

pub returns-in-Emit-clause-work : goal.returns-in-Emit-clause-work
returns-in-Emit-clause-work g c =
    let p = c.self.inside in
    let t : Told = record { given = given_by p.plan.nodes p.sources p.setting; history = p.history.items; room = p.room } in
    let r = subst Run c.self.view_is (run_of g.O.Operator.meaning g.O.Operator.local_is g.O.Operator.shared_is t p.infos.items p.stages.items p.queues.items _ p.seats.items p.failed p.flying _ c.self.invariant) in
    emitting g.O.Operator.meaning g.O.Operator.local_is g.O.Operator.shared_is c.args.self.now r c.args.worker c.args.flight c.requires.chosen c.in-Emit.is c.take_one-share.result c.table_of.result c.take_one-share.new.self c.take_one-share.ensures.share c.table_of.ensures c.take_one-share.ensures.told

pub returns-in-Fold-clause-work : goal.returns-in-Fold-clause-work
returns-in-Fold-clause-work g c =
    let p = c.self.inside in
    let t : Told = record { given = given_by p.plan.nodes p.sources p.setting; history = p.history.items; room = p.room } in
    let r = subst Run c.self.view_is (run_of g.O.Operator.meaning g.O.Operator.local_is g.O.Operator.shared_is t p.infos.items p.stages.items p.queues.items _ p.seats.items p.failed p.flying _ c.self.invariant) in
    folding g.O.Operator.meaning g.O.Operator.local_is g.O.Operator.shared_is c.args.self.now r c.args.worker c.args.flight c.requires.chosen c.in-Fold.is c.take_batch-share.result.0 c.part_of.result c.take_batch-share.result.1 c.take_batch-share.new.self c.take_batch-share.ensures.share c.take_batch-share.ensures.waiting c.part_of.ensures c.take_batch-share.ensures.told

pub returns-in-Seal-clause-work : goal.returns-in-Seal-clause-work
returns-in-Seal-clause-work g c =
    let p = c.self.inside in
    let t : Told = record { given = given_by p.plan.nodes p.sources p.setting; history = p.history.items; room = p.room } in
    let r = subst Run c.self.view_is (run_of g.O.Operator.meaning g.O.Operator.local_is g.O.Operator.shared_is t p.infos.items p.stages.items p.queues.items _ p.seats.items p.failed p.flying _ c.self.invariant) in
    sealing g.O.Operator.meaning g.O.Operator.local_is g.O.Operator.shared_is c.args.self.now r c.args.worker c.args.flight c.requires.chosen c.in-Seal.is c.take_all.result c.take_all.new.self c.take_all.ensures.row c.take_all.ensures.told

pub returns-in-Stream-clause-work : goal.returns-in-Stream-clause-work
returns-in-Stream-clause-work g c =
    let p = c.self.inside in
    let t : Told = record { given = given_by p.plan.nodes p.sources p.setting; history = p.history.items; room = p.room } in
    let r = subst Run c.self.view_is (run_of g.O.Operator.meaning g.O.Operator.local_is g.O.Operator.shared_is t p.infos.items p.stages.items p.queues.items _ p.seats.items p.failed p.flying _ c.self.invariant) in
    streaming g.O.Operator.meaning g.O.Operator.local_is g.O.Operator.shared_is c.args.self.now r c.args.worker c.args.flight c.requires.chosen c.in-Stream.is c.take_batch-share-in-Stream.result.0 c.part_of-in-Stream.result c.take_batch-share-in-Stream.result.1 c.take_batch-share-in-Stream.new.self c.take_batch-share-in-Stream.ensures.share c.take_batch-share-in-Stream.ensures.waiting c.part_of-in-Stream.ensures c.take_batch-share-in-Stream.ensures.told

pub returns-in-Close-clause-work : goal.returns-in-Close-clause-work
returns-in-Close-clause-work g c =
    let p = c.self.inside in
    let t : Told = record { given = given_by p.plan.nodes p.sources p.setting; history = p.history.items; room = p.room } in
    let r = subst Run c.self.view_is (run_of g.O.Operator.meaning g.O.Operator.local_is g.O.Operator.shared_is t p.infos.items p.stages.items p.queues.items _ p.seats.items p.failed p.flying _ c.self.invariant) in
    closing g.O.Operator.meaning g.O.Operator.local_is g.O.Operator.shared_is c.args.self.now r c.args.worker c.args.flight c.requires.chosen c.in-Close.is c.take_all-in-Close.result c.take_all-in-Close.new.self c.take_all-in-Close.ensures.row c.take_all-in-Close.ensures.told

pub returns-in-Tail-clause-work : goal.returns-in-Tail-clause-work
returns-in-Tail-clause-work g c =
    let p = c.self.inside in
    let t : Told = record { given = given_by p.plan.nodes p.sources p.setting; history = p.history.items; room = p.room } in
    let r = subst Run c.self.view_is (run_of g.O.Operator.meaning g.O.Operator.local_is g.O.Operator.shared_is t p.infos.items p.stages.items p.queues.items _ p.seats.items p.failed p.flying _ c.self.invariant) in
    tailing g.O.Operator.meaning g.O.Operator.local_is g.O.Operator.shared_is c.args.self.now r c.args.worker c.args.flight c.requires.chosen c.in-Tail.is c.take_one-share-in-Tail.result c.part_of-in-Tail.result c.take_one-share-in-Tail.new.self c.take_one-share-in-Tail.ensures.share c.part_of-in-Tail.ensures c.take_one-share-in-Tail.ensures.told
