use Rattle.std.proofs.Common.{rules, ◌≡◌, ◌+◌, ◌&&◌, true, drop, sym, ap, ◌∙◌}
use Rattle.verb_forms.specs.After.{with_part}
use Rattle.verb_forms.specs.Suits.{is_typed, are_typed}
use Rattle.verb_forms.proofs.Parts.{typed_more}
use Rattle.verb_forms.proofs.suiting.are_typed.Goals as goal

pub loop-value-preserved : goal.loop-value-preserved
loop-value-preserved c =
    let yes : is_typed c.loop-value.schema c.value-item.result.1 ≡ true = search rules in
    c.loop-value.invariant ∙ typed_more c.loop-value.schema c.args.values.now c.loop-value.value-index _ c.loop-value-test.true c.value-item.is
    ∙ ap (λ b. b && are_typed (with_part c.loop-value.schema c.value-item.result) (drop (c.loop-value.value-index + 1) c.args.values.now)) yes
    ∙ ap (λ schema. are_typed schema (drop (c.loop-value.value-index + 1) c.args.values.now)) (sym c.in_ok-schema.ensures)
