use Rattle.std.proofs.Common.{sym, subst}
use Rattle.plan_nodes.specs.Operators.{Each, first_of, second_of}
use Rattle.plan_nodes.specs.Examples.{Keeps}
use Rattle.op_set.proofs.Dispatch.{parts-kept}
use Rattle.op_set.proofs.any.AnyOpOperator.seal.Goals as goal

pub seal-requires : goal.seal-requires
seal-requires g c =
    let r = rw c.in-Join.is at c.requires in (
      r.0,
      r.1,
      r.2,
      subst (λ parts. Each (Keeps (second_of r.0)) parts r.1) (sym c.in_ok-parts-in-Join.ensures) (parts-kept (second_of r.0) c.args.locals r.1 r.3),
    )

pub returns-in_ok-seal-in-Join : goal.returns-in_ok-seal-in-Join
returns-in_ok-seal-in-Join g c =
    rw c.in-Join.is
    (λ inputs lists fits each. c.in_ok-seal-in-Join.ensures inputs lists fits
    (subst (λ parts. Each (Keeps (second_of inputs)) parts lists) (sym c.in_ok-parts-in-Join.ensures) (parts-kept (second_of inputs) c.args.locals lists each)))

pub returns-in_ok-seal-in-Fetch : goal.returns-in_ok-seal-in-Fetch
returns-in_ok-seal-in-Fetch g c =
    rw c.in-Fetch.is
    (λ inputs lists fits each. c.in_ok-seal-in-Fetch.ensures inputs lists
    (subst (λ parts. Each (Keeps (first_of inputs)) parts lists) (sym c.in_ok-parts-in-Fetch.ensures) (parts-kept (first_of inputs) c.args.locals lists each)))

pub returns-in_ok-seal-in-Sink : goal.returns-in_ok-seal-in-Sink
returns-in_ok-seal-in-Sink g c =
    rw c.in-Sink.is
    (λ inputs lists fits each. c.in_ok-seal-in-Sink.ensures inputs lists
    (subst (λ parts. Each (Keeps (first_of inputs)) parts lists) (sym c.in_ok-parts-in-Sink.ensures) (parts-kept (first_of inputs) c.args.locals lists each)))
