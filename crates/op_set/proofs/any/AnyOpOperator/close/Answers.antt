use Rattle.std.proofs.Common.{sym, subst}
use Rattle.plan_nodes.specs.Operators.{Each, first_of}
use Rattle.plan_nodes.specs.Examples.{Keeps}
use Rattle.op_set.proofs.Dispatch.{parts-kept}
use Rattle.op_set.proofs.any.AnyOpOperator.close.Goals as goal

pub close-requires : goal.close-requires
close-requires g c =
    let r = rw (c.in-Join-Join.is-0, c.in-Join-Join.is-1) at c.requires in (
      r.0,
      r.1,
      r.2,
      r.3,
      r.4,
      subst (λ parts. Each (Keeps (first_of r.0)) parts r.2) (sym c.in_ok-parts-in-Join-Join.ensures) (parts-kept (first_of r.0) c.args.locals r.2 r.5),
    )

pub returns-in_ok-close-in-Join-Join : goal.returns-in_ok-close-in-Join-Join
returns-in_ok-close-in-Join-Join g c =
    rw (c.in-Join-Join.is-0, c.in-Join-Join.is-1)
    (λ streams tails inputs built lists fits holds each. c.in_ok-close-in-Join-Join.ensures inputs built lists fits holds
    (subst (λ parts. Each (Keeps (first_of inputs)) parts lists) (sym c.in_ok-parts-in-Join-Join.ensures) (parts-kept (first_of inputs) c.args.locals lists each)))
