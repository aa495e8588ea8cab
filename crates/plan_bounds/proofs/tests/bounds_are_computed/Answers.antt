use Rattle.std.proofs.Common.{List, map, refl, ap, ◌∙◌}
use Rattle.plan_nodes.specs.declared.node.Node.{Node}
use Rattle.plan_bounds.proofs.Tested.{worked_inputs, square_inputs, fetched_inputs, sorted_by}
use Rattle.plan_bounds.proofs.tests.bounds_are_computed.Goals as goal

pub most_entries_of-requires-clause-sorted : goal.most_entries_of-requires-clause-sorted
most_entries_of-requires-clause-sorted g c =
    sorted_by c.as_slice.result.now worked_inputs (ap (λ (vs : List Node). map (λ (v : Node). v.inputs) vs) c.as_slice.ensures ∙ c.in_ok-worked.ensures.inputs) refl

pub most_entries_of-requires-2-clause-sorted : goal.most_entries_of-requires-2-clause-sorted
most_entries_of-requires-2-clause-sorted g c =
    sorted_by c.as_slice-2.result.now square_inputs (ap (λ (vs : List Node). map (λ (v : Node). v.inputs) vs) c.as_slice-2.ensures ∙ c.in_ok-nodes.ensures.inputs) refl

pub most_entries_of-requires-3-clause-sorted : goal.most_entries_of-requires-3-clause-sorted
most_entries_of-requires-3-clause-sorted g c =
    sorted_by c.as_slice-3.result.now square_inputs (ap (λ (vs : List Node). map (λ (v : Node). v.inputs) vs) c.as_slice-3.ensures ∙ c.in_ok-nodes.ensures.inputs) refl

pub most_entries_of-requires-4-clause-sorted : goal.most_entries_of-requires-4-clause-sorted
most_entries_of-requires-4-clause-sorted g c =
    sorted_by c.as_slice-4.result.now fetched_inputs (ap (λ (vs : List Node). map (λ (v : Node). v.inputs) vs) c.as_slice-4.ensures ∙ c.in_ok-fetched.ensures.inputs) refl
