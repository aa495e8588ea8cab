use Rattle.std.proofs.Common.{ℕ, ◌+◌, ◌*◌, ◌/◌, ap, ◌∙◌}
use Rattle.agg_rules.proofs.MeanSteps.{scaled_size, mean_small}
use Rattle.agg_rules.proofs.sums.mean_size.Goals as goal

pub returns-clause-size : goal.returns-clause-size
returns-clause-size c =
    ap (λ (x : ℕ). c.args.size / c.args.count * c.args.scale + x) c.half_size.ensures ∙ scaled_size c.args.size c.args.scale c.args.count c.requires.divisor

pub returns-clause-bounded : goal.returns-clause-bounded
returns-clause-bounded c =
    mean_small c.args.size c.args.scale c.args.count c.half_size.result c.requires.divisor c.requires.scaled c.requires.small c.half_size.ensures
