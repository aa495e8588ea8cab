use Rattle.std.proofs.Common.{◌+◌, drop, sym, ap, ◌∙◌}
use Rattle.verb_forms.specs.After.{with_parts}
use Rattle.verb_forms.proofs.Parts.{parts_more}
use Rattle.verb_forms.proofs.after.with_parts.Goals as goal

pub loop-value-preserved : goal.loop-value-preserved
loop-value-preserved c =
    c.loop-value.invariant ∙ parts_more c.loop-value.schema c.args.values.now c.loop-value.value-index _ c.loop-value-test.true c.value-item.is
    ∙ ap (λ schema. with_parts schema (drop (c.loop-value.value-index + 1) c.args.values.now)) (sym c.in_ok-schema.ensures)
