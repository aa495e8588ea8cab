use Rattle.std.proofs.Common.{Option, ℤ, sym, ap, ◌∙◌, to_z-of_z}
use Rattle.std.specs.Option.{option_map_or}
use Rattle.scalar_value.specs.declared.value.Value.TheVariants.{Missing, Dec}
use Rattle.scalar_value.proofs.Ranges.{dec_given}
use Rattle.agg_rules.proofs.sums.dec_or_missing.Goals as goal

pub returns-in-Some : goal.returns-in-Some
returns-in-Some c =
    let f = c.ranges.millionths in let h = simp to_z-of_z at c.of.ensures in ap (λ (r : Option ℤ). option_map_or (λ x. Dec x) r Missing) (sym c.in-Some.is) ∙ dec_given c.of.result c.args.millionths h

pub returns-in-None : goal.returns-in-None
returns-in-None c =
    let f = c.ranges.millionths in let h = simp to_z-of_z at c.of.ensures in ap (λ (r : Option ℤ). option_map_or (λ x. Dec x) r Missing) (sym c.in-None.is) ∙ dec_given c.of.result c.args.millionths h
