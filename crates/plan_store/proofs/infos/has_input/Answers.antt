use Rattle.std.proofs.Common.{◌==◌, ap, ◌∙◌}
use Rattle.std.specs.List.{list_any}
use Rattle.plan_store.proofs.At.{among_any}
use Rattle.plan_store.proofs.infos.has_input.Goals as goal

pub returns : goal.returns
returns c = c.contains.ensures.value ∙ (ap (λ xs. list_any (λ y. y == c.args.edge) xs) c.as_slice.ensures ∙ among_any c.args.edge c.args.inputs.now)
