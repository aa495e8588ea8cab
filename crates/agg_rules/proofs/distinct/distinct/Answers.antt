use Rattle.std.proofs.Common.{ℕ, pos, true, cond, Bool, List, take, ap, sym, ◌≡◌, ◌∙◌, arith}
use Rattle.std.proofs.lemmas.List.{take_all}
use Rattle.std.specs.List.{list_any}
use Rattle.scalar_value.specs.declared.value.Value.{Value}
use Rattle.scalar_value.specs.Numbers.{as_int}
use Rattle.scalar_value.specs.Order.{value_same}
use Rattle.agg_rules.specs.Aggregates.{looked_at, distinct_value}
use Rattle.agg_rules.proofs.DifferentSteps.{one_more, among_more, different_keys}
use Rattle.agg_rules.proofs.distinct.distinct.Goals as goal

pub loop-v-preserved : goal.loop-v-preserved
loop-v-preserved c = λ q.
    let v = c.v-item.result in
    let before = looked_at c.args.na_rm (take c.loop-v.v-index c.args.values.now) in
    c.in_ok-insert.ensures.updates.0 q ∙ ap (λ (b : Bool). cond (value_same v q.now) true b) (c.loop-v.invariant q) ∙ among_more q.now v before
    ∙ ap (λ (l : List Value). list_any (value_same q.now) l) (sym (one_more c.args.na_rm c.args.values.now c.loop-v.v-index v c.loop-v-test.true c.v-item.is (sym c.is_passed_over.ensures ∙ c.if-is_passed_over.false)))

pub returns : goal.returns
unfolding distinct_value
returns c =
    let all : take c.loop-v.v-index c.args.values.now ≡ c.args.values.now = take_all c.loop-v.v-index c.args.values.now (omega arith) in
    let seen = looked_at c.args.na_rm c.args.values.now in
    let count = different_keys c.args.values c.loop-v.seen.keys seen c.len.ensures.unique (λ q. c.loop-v.invariant q ∙ ap (λ (l : List Value). list_any (value_same q.now) (looked_at c.args.na_rm l)) all) in
    c.int_of_count.ensures ∙ ap (λ (n : ℕ). as_int (pos n)) (c.len.ensures.len ∙ count)
