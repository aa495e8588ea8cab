use Rattle.std.proofs.Common.{arith, length-drop, ◌∙◌}
use Rattle.std.proofs.lemmas.List.{take_rest}
use Rattle.outside_io.proofs.Taking.{Takes-next}
use Rattle.outside_io.proofs.sink.write_all.Goals as goal

pub loop-at-preserved : goal.loop-at-preserved
loop-at-preserved g c =
    let within = rw (take_rest c.args.bytes.now c.loop-at.at) at c.in_ok-at.ensures.within in
    let bytes = rw (take_rest c.args.bytes.now c.loop-at.at) at c.in_ok-at.ensures.bytes in
    record {
      within = omega (arith, within, length-drop c.loop-at.at c.args.bytes.now);
      taken = Takes-next _ _ _ c.args.bytes.now c.loop-at.at c.in_ok-at.field-0 c.loop-at.invariant.taken bytes;
      kept = c.in_ok-at.ensures.cause.kept ∙ c.loop-at.invariant.kept;
    }
