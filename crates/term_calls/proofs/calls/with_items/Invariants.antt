use Rattle.std.proofs.Common.{◌≡◌, map}
use Rattle.term_calls.specs.Calls.{with_items, beside_date}
use Rattle.term_calls.specs.Faults.{all_of}
use Rattle.term_calls.proofs.Collected.{behind}
use Rattle.term_calls.proofs.calls.with_items.Given as goal

abbrev pub invariant-loop-item : goal.invariant-loop-item
invariant-loop-item l =
    with_items l.fn.x l.fn.items ≡ behind l.made (all_of (map (beside_date l.dated) l.item-iterator.rest.items))
