use Rattle.std.proofs.Common.{◌≡◌, ◌<◌, ◌*◌, ◌++◌, take, ap, ◌∙◌, arith}
use Rattle.plan_nodes.specs.Operators.{end_rows, end_count, end_part, size_of}
use Rattle.run_state.proofs.AtEnd.{parts_join, parts_all}
use Rattle.run_state.proofs.reading.rows_at_end.Goals as goal

pub loop-k-preserved : goal.loop-k-preserved
loop-k-preserved g c inputs built streamed fits stands =
    let m = g.O.Operator.meaning c.args.op.now in
    let so_far = c.loop-k.invariant inputs built streamed fits stands in
    let count : c.tails-k-end.result ≡ end_count m built streamed = c.tails-k-end.ensures c.requires.ends inputs built streamed fits stands in
    let here : c.loop-k.k < c.tails-k-end.result = c.loop-k-test.true in
    let below : c.loop-k.k < end_count m built streamed = omega arith in
    let part : c.in_ok-batch.batch.rows ≡ end_part m built streamed c.loop-k.k = (c.in_ok-batch.ensures c.requires.ends inputs built streamed fits stands below).0 in
    let more : c.append.new.self.items ≡ c.loop-k.rows.items ++ c.into_vec-more.result.items = c.in_ok-append.ensures.items in
    let moved : c.into_vec-more.result.items ≡ c.in_ok-batch.batch.rows = c.into_vec-more.ensures ∙ c.into_rows.ensures in (
      omega arith,
      more ∙ (ap (λ xs. xs ++ c.into_vec-more.result.items) so_far.1
          ∙ (ap (λ ys. take (c.loop-k.k * size_of m) (end_rows m built streamed) ++ ys) (moved ∙ part)
          ∙ parts_join (size_of m) c.loop-k.k (end_rows m built streamed))),
    )

pub returns : goal.returns
returns g c inputs built streamed fits stands =
    let m = g.O.Operator.meaning c.args.op.now in
    let so_far = c.loop-k.invariant inputs built streamed fits stands in
    let count : c.tails-k-end.result ≡ end_count m built streamed = c.tails-k-end.ensures c.requires.ends inputs built streamed fits stands in
    let over = c.loop-k-test.false in
    let low = so_far.0 in
    let all : c.loop-k.k ≡ end_count m built streamed = omega arith in
    c.of.ensures ∙ (so_far.1 ∙ (ap (λ n. take (n * size_of m) (end_rows m built streamed)) all ∙ parts_all (size_of m) (end_rows m built streamed) c.requires.size))
