use Rattle.std.proofs.Common.{◌≡◌, ◌<◌, ◌^◌, ℕ, List, [], length, Some, slice_index_or, sym, subst, ◌∙◌, arith}
use Rattle.plan_nodes.specs.declared.node.Node.{Node}
use Rattle.plan_nodes.specs.Kinds.{kind_meaning}
use Rattle.plan_nodes.specs.Plans.{no_node}
use Rattle.plan_store.specs.Told.{Told, given_by}
use Rattle.fetch_counts.specs.declared.front.Front.{Front}
use Rattle.fetch_counts.specs.Counts.{IsFresh}
use Rattle.task_core.specs.Fronts.{FrontsStand}
use Rattle.task_core.proofs.Fronts.{fronts_fresh}
use Rattle.task_core.proofs.Stops.{plan_wants, node_wants}
use Rattle.task_core.proofs.state.PlanState.new.Goals as goal

pub fronts_of-requires : goal.fronts_of-requires
fronts_of-requires g c =
    subst (λ (ns : List Node). (k m : ℕ) (d : Node) → k < length ns → (kind_meaning (slice_index_or ns k d).kind [] 1).wanted ≡ Some m → m < 2 ^ 64) (sym c.as_slice.ensures)
    (plan_wants c.args.plan.now.nodes c.requires.planned)

pub invariant_of-result : goal.invariant_of-result
invariant_of-result g c =
    let nodes = c.args.plan.now.nodes in
    let given = given_by nodes c.args.sources c.args.setting in
    let fronts = c.in_ok-fronts.fronts.items in
    let made = subst (λ (ns : List Node). (length fronts ≡ length ns) × ((k : ℕ) (v : Node) (d : Front) → k < length ns → IsFresh (kind_meaning (slice_index_or ns k v).kind [] 1).wanted (slice_index_or fronts k d))) c.as_slice.ensures c.in_ok-fronts.ensures in
    let size = made.0 in
    subst (λ (t : Told). FrontsStand t fronts) (sym c.in_ok-run.ensures)
    (fronts_fresh given fronts size
    (λ k m lt e. let low : k < length nodes = omega arith in plan_wants nodes c.requires.planned k m no_node low (node_wants given k no_node low ∙ e))
    (λ k d lt. let low : k < length nodes = omega arith in subst (λ o. IsFresh o (slice_index_or fronts k d)) (node_wants given k no_node low) (made.1 k no_node d low)))
