use Rattle.std.proofs.Common.{◌≡◌, List, [], length, sym, ap, ◌∙◌, arith}
use Rattle.scalar_value.specs.declared.value.Value.{Value}
use Rattle.plan_machine.specs.Lists.{at_or}
use Rattle.plan_bounds.proofs.NodeByNode.{at_index, table-bound}
use Rattle.plan_bounds.proofs.computed.table_bound.Goals as goal
use Rattle.plan_bounds.proofs.computed.table_bound.Goals.{in-Some, in-None}

pub returns : goal.returns
returns c =
    let tables = c.args.tables.now in
    let place = c.args.place in
    let same = ap (λ (t : List (List Value)). length t) (sym (at_index [] place tables)) in
    let rows : c.match-get.rows ≡ length (at_or [] place tables) =
    elim c.match-get.branch [
      | in-Some w ↦ w.rows-is ∙ (w.len.ensures ∙ (ap (λ (t : List (List Value)). length t) (w.in-Some.ensures.lookup.3.1 []) ∙ same))
      | in-None w ↦ w.rows-is ∙ (ap (λ (t : List (List Value)). length t) (w.in-None.ensures.lookup.4 (omega arith) []) ∙ same)
    ] in
    table-bound c.args.batch c.match-get.rows c.part_count.result (at_or [] place tables) rows c.part_count.ensures
