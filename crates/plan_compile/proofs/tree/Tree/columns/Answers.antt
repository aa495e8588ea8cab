use Rattle.std.proofs.Common.{refl}
use Rattle.plan_compile.proofs.Making.{last_taken}
use Rattle.plan_compile.proofs.tree.Tree.columns.Goals as goal

pub returns-in-Some : goal.returns-in-Some
returns-in-Some c = last_taken c.args.self.now.schema c.args.self.now.steps c.as_slice.result.now _ c.in-Some.step.now c.as_slice.ensures refl c.in-Some.ensures.value
