use Rattle.std.proofs.Common.{◌≤◌, ◌-◌, ◌^◌, sym, ◌∙◌, arith}
use Rattle.fetch_counts.proofs.Counted.{first_grows, one_behind, one_batch}
use Rattle.fetch_counts.proofs.counting.note_folded.Goals as goal

pub returns-then-run-front-clause-counts : goal.returns-then-run-front-clause-counts
returns-then-run-front-clause-counts c folded b f at many =
    let front = c.args.front.now in
    let few : c.args.rows ≤ 2 ^ 64 - 1 = let r = c.ranges.rows.fits in omega arith in
    let g = c.gather-run.ensures in
    let run = c.gather-run.result in
    let behind = c.gather-run.new.behind.items in
    first_grows folded b front.first c.joined-front.result run front.behind.items behind front.begins c.if-run-front.true c.joined-front.ensures
    (one_batch b c.from-from.result c.args.rows front.behind.items behind run (at ∙ sym c.from-from.ensures) many few g.counts) g.apart (g.behind front.first.upto) g.others f

pub returns-else-run-front-clause-counts : goal.returns-else-run-front-clause-counts
returns-else-run-front-clause-counts c folded b f at many =
    let front = c.args.front.now in
    let few : c.args.rows ≤ 2 ^ 64 - 1 = let r = c.ranges.rows.fits in omega arith in
    let g = c.gather-run.ensures in
    let run = c.gather-run.result in
    let behind = c.gather-run.new.behind.items in
    one_behind folded b front.first run front.behind.items behind c.push_reserved.new.self.items c.if-run-front.false c.push_reserved.ensures.items
    (one_batch b c.from-from.result c.args.rows front.behind.items behind run (at ∙ sym c.from-from.ensures) many few g.counts) g.apart (g.behind front.first.upto) g.others f
