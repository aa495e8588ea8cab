use Rattle.std.proofs.Common.{◌+◌, ◌-◌, ◌^◌, [], ◌∷◌, ◌∙◌, ap, arith}
use Rattle.scalar_value.specs.declared.value.ColType.TheVariants as type
use Rattle.plan_nodes.specs.Operators.{OpMeaning}
use Rattle.order_fetch.proofs.Tested.{no-more}
use Rattle.order_fetch.proofs.tests.fetched.Goals as goal

pub gathered-requires-clause-fits : goal.gathered-requires-clause-fits
gathered-requires-clause-fits g c κs within =
    let inputs = (type.Int ∷ []) ∷ [] in (
      inputs,
      ap (λ (m : OpMeaning). m.fits inputs) c.new-op.ensures ∙ no-more (c.from.result + c.from-2.result) (2 ^ 64 - 1) (omega arith),
      c.in_ok-late.ensures,
      c.in_ok-early.ensures,
    )
