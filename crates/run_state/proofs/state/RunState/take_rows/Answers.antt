use Rattle.std.proofs.Common.{◌≡◌, ◌≤◌, ◌-◌, [], IsTrue, length, map, take, sym, ap, subst, ◌∙◌, arith}
use Rattle.plan_machine.specs.History.{IsEnded}
use Rattle.plan_nodes.specs.Plans.{IsPlan}
use Rattle.plan_machine.specs.History.{state_after}
use Rattle.plan_store.specs.Told.{given_by, plan_of, state_of, site_of}
use Rattle.run_state.specs.Opening.{IsFinished}
use Rattle.run_state.specs.AtEnd.{IsSinkPart, peak_of}
use Rattle.run_state.proofs.AtEnd.{sink_reads, finished_is}
use Rattle.run_state.proofs.state.RunState.take_rows.Goals as goal

pub rows_at_end-requires-clause-ends : goal.rows_at_end-requires-clause-ends
rows_at_end-requires-clause-ends g c κs within =
    let planned = subst (λ t. IsPlan t.given.nodes) c.self.view_is c.self.invariant.planned in
    let low = subst (λ t. 1 ≤ t.given.pace.batch) c.self.view_is c.self.invariant.sizes.batch in
    (sink_reads g.O.Operator.meaning g.O.Operator.local_is g.O.Operator.shared_is c.args.self.given planned low _ c.sink_part-part.result.now c.deref.result.now c.sink_part-part.ensures c.deref.ensures).0

pub rows_at_end-requires-clause-size : goal.rows_at_end-requires-clause-size
rows_at_end-requires-clause-size g c κs within =
    let planned = subst (λ t. IsPlan t.given.nodes) c.self.view_is c.self.invariant.planned in
    let low = subst (λ t. 1 ≤ t.given.pace.batch) c.self.view_is c.self.invariant.sizes.batch in
    (sink_reads g.O.Operator.meaning g.O.Operator.local_is g.O.Operator.shared_is c.args.self.given planned low _ c.sink_part-part.result.now c.deref.result.now c.sink_part-part.ensures c.deref.ensures).1

pub returns-clause-finished : goal.returns-clause-finished
returns-clause-finished g c =
    let p = c.self.inside in
    let given = given_by p.plan.nodes p.sources p.setting in
    let ended = subst (λ t. IsEnded (plan_of t.given) (state_of t)) (sym c.self.view_is) c.requires in
    let part = subst (λ t. IsSinkPart g.O.Operator.meaning g.O.Operator.local_is g.O.Operator.shared_is t c.sink_part-part.result.now) (sym c.self.view_is) c.sink_part-part.ensures in
    let reads = sink_reads g.O.Operator.meaning g.O.Operator.local_is g.O.Operator.shared_is given c.self.invariant.planned c.self.invariant.sizes.batch _ c.sink_part-part.result.now c.deref.result.now part c.deref.ensures in
    let m = g.O.Operator.meaning c.deref.result.now in
    let fits = subst (λ x. IsTrue (x.fits (site_of given (plan_of given).sink).inputs)) (sym part.op ∙ ap g.O.Operator.meaning (sym c.deref.ensures)) part.fits in
    let built = (state_after (plan_of given) p.history.items).built (plan_of given).sink in
    let inputs = (site_of given (plan_of given).sink).inputs in
    let shared : g.O.Operator.shared_is m inputs c.deref-2.result.now built [] =
    subst (λ x. g.O.Operator.shared_is x inputs c.deref-2.result.now built []) (sym part.op ∙ ap g.O.Operator.meaning (sym c.deref.ensures))
    (subst (λ s. g.O.Operator.shared_is (site_of given (plan_of given).sink).meaning inputs s built []) (sym c.deref-2.ensures) part.shared) in
    let rows : c.in_ok-rows.rows ≡ (state_after (plan_of given) p.history.items).built (plan_of given).sink = c.in_ok-rows.ensures (site_of given (plan_of given).sink).inputs _ [] fits shared ∙ reads.2 in
    let cut : c.deref-3.result.now ≡ p.queues.items = c.deref-3.ensures.value in
    let at : c.len-edges.result - 1 ≡ length p.queues.items - 1 = let last = c.len-edges.ensures in let ok = p.queues.ok.0 in omega arith in
    let told : c.in_ok-peaks.peaks ≡ map peak_of (take (c.len-edges.result - 1) c.deref-3.result.now) = c.in_ok-peaks.ensures in
    let peaks : c.in_ok-peaks.peaks ≡ map peak_of (take (length p.queues.items - 1) p.queues.items) = told ∙ (ap (λ n. map peak_of (take n c.deref-3.result.now)) at ∙ ap (λ xs. map peak_of (take (length p.queues.items - 1) xs)) cut) in
    subst (λ t. IsFinished t.given (record { rows = c.in_ok-rows.rows; history = c.of.result; peaks = c.in_ok-peaks.peaks })) c.self.view_is
    (subst (λ es. IsFinished given (record { rows = c.in_ok-rows.rows; history = es; peaks = c.in_ok-peaks.peaks })) (sym c.of.ensures)
    (finished_is g.O.Operator.meaning g.O.Operator.local_is g.O.Operator.shared_is given c.rows_kept.ensures c.bounded.ensures p.history.items p.infos.items p.stages.items p.queues.items (map (λ row. row.items) p.shares.items) p.seats.items p.failed p.flying p.room _ c.self.invariant ended c.in_ok-rows.rows c.in_ok-peaks.peaks rows peaks))
