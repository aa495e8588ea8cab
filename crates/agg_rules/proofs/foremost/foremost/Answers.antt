use Rattle.std.proofs.Common.{Option, unwrap_or, sym, ap, subst, ◌≡◌, ◌∙◌, IfOk}
use Rattle.scalar_value.specs.declared.value.Value.{Value}
use Rattle.scalar_value.specs.declared.value.Value.TheVariants.{Missing}
use Rattle.agg_rules.specs.Lists.{foremost}
use Rattle.agg_rules.specs.Aggregates.{looked_at}
use Rattle.agg_rules.proofs.MissingSteps.{seen_are_there, unless_none}
use Rattle.agg_rules.proofs.FirstSteps.{first_is}
use Rattle.agg_rules.proofs.foremost.foremost.Goals as goal

pub returns : goal.returns
returns c =
    let vs = c.args.values.now in
    let seen = looked_at c.args.na_rm vs in
    let none = sym c.has_missing.ensures ∙ c.if-has_missing.false in
    let first = ap (λ (o : Option Value). unwrap_or o Missing) c.foremost_there.ensures ∙ first_is c.args.descending vs
    ∙ ap (foremost c.args.descending) (seen_are_there c.args.na_rm vs none) ∙ sym (unless_none seen (foremost c.args.descending seen) none) in
    let P : Value → Type 0 = λ x. IfOk c.value_or_missing.result (λ v. v ≡ x) in subst P first c.value_or_missing.ensures
