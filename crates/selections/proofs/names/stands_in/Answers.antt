use Rattle.std.proofs.Common.{◌-◌, ◌∙◌, sym, length, take, drop}
use Rattle.selections.proofs.Lowered.{not_here, all_behind}
use Rattle.selections.proofs.names.stands_in.Goals as goal

pub loop-start-preserved : goal.loop-start-preserved
loop-start-preserved c =
    let name = c.args.name.now in
    let at = c.loop-start.start in
    c.loop-start.invariant ∙ not_here c.args.text.now name (take (length name - at) (drop at name)) at c.loop-start-test.true (all_behind at name) (sym c.begins_with.ensures ∙ c.if-begins_with.false)
