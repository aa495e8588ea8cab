use Rattle.std.proofs.Common.{◌<◌, length, sym, ◌∙◌, ap₂, arith}
use Rattle.row_table.specs.Keys.{key_of, keys_match}
use Rattle.hash_join.proofs.KeyTests.{keys-differ, keys-go-on}
use Rattle.hash_join.proofs.matches.rows_match.Goals as goal

pub returns-then-not-columns_match : goal.returns-then-not-columns_match
returns-then-not-columns_match c =
    let q : c.loop-k.k < length c.as_slice-right.result.now = omega (arith, c.loop-k-test.true, c.if-left-right.false) in
    sym (ap₂ (λ ls rs. keys_match c.args.spec.now.na_match (key_of ls c.args.x.now) (key_of rs c.args.y.now)) (sym c.as_slice-left.ensures) (sym c.as_slice-right.ensures)
    ∙ keys-differ c.args.spec.now.na_match c.as_slice-left.result.now c.as_slice-right.result.now c.args.x.now c.args.y.now c.loop-k.k c.columns_match.result
    c.loop-k-test.true q c.loop-k.invariant c.columns_match.ensures c.if-not-columns_match.true)

pub loop-k-preserved : goal.loop-k-preserved
loop-k-preserved c =
    let q : c.loop-k.k < length c.as_slice-right.result.now = omega (arith, c.loop-k-test.true, c.if-left-right.false) in
    keys-go-on c.args.spec.now.na_match c.as_slice-left.result.now c.as_slice-right.result.now c.args.x.now c.args.y.now c.loop-k.k c.columns_match.result
    c.loop-k-test.true q c.loop-k.invariant c.columns_match.ensures c.if-not-columns_match.false
