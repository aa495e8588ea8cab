use Rattle.std.proofs.Common.{◌≡◌, ◌∙◌, sym, ap}
use Rattle.plan_machine.specs.Batch.{gathered, sort_batches, rows_of}
use Rattle.plan_nodes.specs.Operators.{flat}
use Rattle.plan_nodes.specs.Examples.{bare}
use Rattle.plan_nodes.proofs.tests.gather.gathered_rows.Goals as goal

pub returns : goal.returns
unfolding gathered
returns c =
    let e : rows_of (sort_batches (bare (flat c.args.parts))) ≡ rows_of (bare c.in_ok-ordered.ordered.items) =
    ap rows_of (sym (c.in_ok-ordered.ensures ∙ ap (λ all. sort_batches (bare all)) c.in_ok-all.ensures)) in
    rw e c.all_rows.ensures
