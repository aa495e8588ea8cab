use Rattle.std.proofs.Common.{◌++◌, [], ◌∷◌, sym, subst}
use Rattle.plan_nodes.specs.Operators.{second_of, item}
use Rattle.plan_nodes.specs.Examples.{Keeps}
use Rattle.plan_nodes.proofs.Parts.{keeps-push}
use Rattle.plan_nodes.proofs.JoinParts.{on-ok}
use Rattle.hash_join.proofs.join.JoinOpOperator.fold.Goals as goal

pub returns : goal.returns
returns c folds inputs taken fits stands same =
    on-ok c.push.result
    (λ e. subst (λ p. Keeps (second_of inputs) p (taken ++ item c.args.batch 0 ∷ [])) (sym e) (keeps-push (second_of inputs) c.args.local.now taken c.args.batch 0 stands same c.rows-rows.ensures.fits))
    c.push.ensures.appended
