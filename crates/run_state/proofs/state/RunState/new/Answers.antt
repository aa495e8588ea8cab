use Rattle.std.specs.Vec.{vec_capacity}
use Rattle.std.proofs.Common.{false, ◌≡◌, ◌≤◌, ◌<◌, ◌+◌, ℕ, suc, length, [], map, slice_index_or, sym, subst, arith}
use Rattle.std.specs.VecDeque.{deque_capacity}
use Rattle.backpressure.specs.Edges.{quiet}
use Rattle.plan_machine.specs.Lists.{at_or}
use Rattle.plan_nodes.specs.declared.node.Node.{Node}
use Rattle.plan_nodes.specs.declared.node.Plan.{Plan}
use Rattle.plan_nodes.specs.Plans.{IsPace, tables_of}
use Rattle.plan_store.specs.declared.queue.Queue.{Queue}
use Rattle.plan_store.specs.declared.stage.Stage.{Stage}
use Rattle.plan_store.specs.declared.stage.NodeInfo.{NodeInfo}
use Rattle.plan_store.specs.Told.{given_by, pace_of, rows_of_tables}
use Rattle.plan_store.specs.Openings.{info_of, stage_of}
use Rattle.plan_store.specs.Shares.{RowsOpen}
use Rattle.run_state.specs.Stored.{Stands}
use Rattle.run_state.proofs.Opened.{stored_opens, stands_opens}
use Rattle.run_state.proofs.state.RunState.new.Goals as goal

pub invariant_of-result : goal.invariant_of-result
invariant_of-result g c =
    let M = g.O.Operator.meaning in
    let L = g.O.Operator.local_is in
    let H = g.O.Operator.shared_is in
    let nodes = c.args.plan.now.nodes in
    let given = given_by nodes c.args.sources c.args.setting in
    let tables = rows_of_tables c.args.sources in
    let here : c.as_slice-nodes.result.now ≡ nodes = c.as_slice-nodes.ensures in
    let pace : IsPace (pace_of c.args.setting) = record { batch = c.requires.setting.batch.0; workers = c.requires.setting.workers.0; resume = (let r = c.requires.setting.resume in omega arith) } in
    let infos = subst (λ ns. (length c.in_ok-infos.infos.items ≡ length ns) × ((k : ℕ) (d : NodeInfo) (e : Node) → k < length ns → slice_index_or c.in_ok-infos.infos.items k d ≡ info_of ns (slice_index_or ns k e) (suc k))) here c.in_ok-infos.ensures in
    let stages = subst (λ ns. (length c.in_ok-stages.stages.items ≡ length ns) × ((k : ℕ) (d : Stage) (e : Node) → k < length ns → slice_index_or c.in_ok-stages.stages.items k d ≡ stage_of (slice_index_or ns k e) c.args.setting.batch (at_or [] k (tables_of ns tables)))) here c.in_ok-stages.ensures in
    let queues = subst (λ ns. (length c.in_ok-queues.queues.items ≡ length ns) × ((k : ℕ) (d : Queue) → k < length ns → ((slice_index_or c.in_ok-queues.queues.items k d).waiting.items ≡ []) × (c.args.setting.pause + c.args.setting.workers ≤ deque_capacity (slice_index_or c.in_ok-queues.queues.items k d).waiting) × ((slice_index_or c.in_ok-queues.queues.items k d).edge ≡ quiet))) here c.in_ok-queues.ensures in
    let rows = map (λ row. row.items) c.in_ok-shares.shares.items in
    let shares : RowsOpen M L H nodes tables c.args.setting.batch c.args.setting.workers rows =
    subst (λ ts. RowsOpen M L H nodes (rows_of_tables ts) c.args.setting.batch c.args.setting.workers rows) c.as_slice.ensures
    (subst (λ ns. RowsOpen M L H ns (rows_of_tables c.as_slice.result.now) c.args.setting.batch c.args.setting.workers rows) here c.in_ok-shares.ensures) in
    let seats = c.in_ok-seats.ensures in
    subst (λ (p : Plan). Stands M L H (given_by p.nodes c.args.sources c.args.setting) c.new.result.items c.in_ok-infos.infos.items c.in_ok-stages.stages.items c.in_ok-queues.queues.items rows c.in_ok-seats.seats.items false 0 0 (vec_capacity c.new.result)) (sym c.in_ok-plan.ensures)
    (subst (λ es. Stands M L H given es c.in_ok-infos.infos.items c.in_ok-stages.stages.items c.in_ok-queues.queues.items rows c.in_ok-seats.seats.items false 0 0 (vec_capacity c.new.result)) (sym c.new.ensures.items)
    (stands_opens M L H given c.in_ok-infos.infos.items c.in_ok-stages.stages.items c.in_ok-queues.queues.items rows c.in_ok-seats.seats.items (vec_capacity c.new.result)
    c.requires.planned (c.plans_are_well_formed.ensures.well_formed nodes tables (pace_of c.args.setting) c.requires.planned pace) (c.plans_are_well_formed.ensures.lawful nodes tables (pace_of c.args.setting) c.requires.planned pace)
    (record { workers = c.requires.setting.workers; pause = c.requires.setting.pause.1; batch = c.requires.setting.batch.0; nodes = (let few = c.requires.nodes in omega arith) })
    (λ most none. stored_opens M L H given most c.in_ok-infos.infos.items c.in_ok-stages.stages.items c.in_ok-queues.queues.items rows c.in_ok-seats.seats.items c.requires.planned none
    infos.0 infos.1 stages.0 stages.1 queues.0 queues.1 shares seats.0 seats.1)))
