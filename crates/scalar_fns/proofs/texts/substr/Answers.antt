use Rattle.std.proofs.Common.{to_z-of_z}
use Rattle.scalar_fns.proofs.CharSteps.{is_part}
use Rattle.scalar_fns.proofs.texts.substr.Goals as goal

pub returns : goal.returns
returns c =
    let f = c.ranges.from in
    let g = c.ranges.to in
    let first = simp to_z-of_z at c.first_place-first.ensures.value in
    let last = simp to_z-of_z at c.last_place-last.ensures in
    is_part c.args.s.now c.split_at.result.1.now c.split_at-2.result.0.now c.args.from c.args.to _ _ _ _ _ first last c.first_len.ensures.value c.split_at.ensures.back c.saturating_sub.ensures c.first_len-2.ensures.value c.split_at-2.ensures.front
