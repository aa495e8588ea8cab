use Rattle.std.proofs.Common.{◌++◌, [], ◌∷◌, sym, subst}
use Rattle.plan_nodes.specs.Operators.{item}
use Rattle.plan_nodes.specs.Examples.{Keeps}
use Rattle.plan_nodes.proofs.Parts.{keeps-push}
use Rattle.plan_nodes.proofs.JoinParts.{on-ok}
use Rattle.order_fetch.proofs.gather.keep.Goals as goal

pub returns : goal.returns
returns c kinds taken stands same =
    on-ok c.push.result
    (λ e. subst (λ p. Keeps kinds p (taken ++ item c.args.batch 0 ∷ [])) (sym e) (keeps-push kinds c.args.kept.now taken c.args.batch 0 stands same c.rows-rows.ensures.fits))
    c.push.ensures.appended
