use Rattle.std.proofs.Common.{◌≡◌, ◌+◌, ◌-◌, ◌≤◌, suc, false, length, sym, ap, ◌∙◌, arith}
use Rattle.std.proofs.lemmas.List.{length-replicate, get_or-replicate}
use Rattle.run_state.proofs.Below.{walk_begins, told_by_user, walk_ends, walk_passes}
use Rattle.run_state.proofs.stopping.end_below.Goals as goal
use Rattle.run_state.proofs.stopping.end_below.Goals.{then-leads_to, else-leads_to}

pub loop-done-init : goal.loop-done-init
loop-done-init c =
    let few = c.requires.few in
    let up = c.requires.node.1 in
    walk_begins c.args.infos.now c.requires.users c.args.node _ c.args.stages.now.items c.args.queues.now.items (length-replicate 256 false) (λ k lt. get_or-replicate 256 k false false (omega arith))

pub loop-done-preserved : goal.loop-done-preserved
loop-done-preserved c =
    let infos = c.args.infos.now in
    let n = c.args.node in
    let turns = c.loop-done.done in
    let p = n - 2 - turns in
    let turn = c.loop-done-test.true in
    let low = c.requires.node.0 in
    let up = c.requires.node.1 in
    let most = c.requires.few in
    let all_stages = c.requires.stages in
    let all_queues = c.requires.queues in
    let stages_len = c.args.stages.now.ok.0 in
    let queues_len = c.args.queues.now.ok.0 in
    let at : suc p + turns + 1 ≡ n = omega arith in
    let few : n ≤ length infos = omega arith in
    let told = told_by_user infos c.requires.users n turns p at few c.loop-done.below _ c.leads_to.result c.loop-done.invariant.marked c.leads_to.ensures in
    elim c.if-leads_to.branch [
      | then-leads_to w ↦ walk_ends infos c.requires.users n turns p at few c.loop-done.below c.if-leads_to.below c.args.stages.now.items c.loop-done.stages.items c.if-leads_to.stages.items c.args.queues.now.items c.loop-done.queues.items c.if-leads_to.queues.items
          (sym told ∙ w.if-leads_to.true) (omega arith) (omega arith) (omega arith) w.below-is
          (λ d. ap (λ v. v.items) w.stages-is ∙ w.end_node.ensures.stages d)
          (λ d. let s = w.end_node.ensures.queues d in (s.0, ap (λ v. v.items) w.queues-is ∙ s.1, s.2))
          c.loop-done.invariant
      | else-leads_to w ↦ rw (w.below-is, w.stages-is, w.queues-is)
          (walk_passes infos c.requires.users n turns p at few c.loop-done.below c.args.stages.now.items c.loop-done.stages.items c.args.queues.now.items c.loop-done.queues.items (sym told ∙ w.if-leads_to.false) c.loop-done.invariant)
    ]
