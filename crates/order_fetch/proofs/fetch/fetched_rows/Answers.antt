use Rattle.std.proofs.Common.{◌≡◌, ◌-◌, min, ◌++◌, length, take, drop, ◌∙◌, ap, arith}
use Rattle.order_fetch.proofs.Fetching.{turned-fetched}
use Rattle.order_fetch.proofs.fetch.fetched_rows.Goals as goal

pub returns : goal.returns
returns c =
    let held = c.into_vec-rows.result.ok in
    let all : length c.into_vec-rows.result.items ≡ length c.args.rows = ap length c.into_vec-rows.ensures in
    let start : c.min-start.result ≡ min c.args.offset (length c.args.rows) = omega arith in
    let kept : c.min.result ≡ min c.args.count (length c.args.rows - c.min-start.result) = omega arith in
    let made : c.of.result ≡ take c.min.result (drop c.min-start.result c.args.rows ++ take c.min-start.result c.args.rows) = cc (c.of.ensures, c.truncate.ensures.items, c.rotate_left.ensures.items, c.into_vec-rows.ensures) in
    made ∙ turned-fetched c.args.offset c.args.count c.min-start.result c.min.result c.args.rows start kept
