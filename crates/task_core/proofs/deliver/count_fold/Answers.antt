use Rattle.std.proofs.Common.{◌≡◌, ℕ, ◌-◌, Some, sym, subst, ◌∙◌, arith, slice_set, slice_index_or}
use Rattle.fetch_counts.specs.declared.front.Front.{Front}
use Rattle.fetch_counts.specs.Counts.{IsNoted}
use Rattle.task_core.proofs.deliver.count_fold.Goals as goal

pub note_at-requires-clause-node : goal.note_at-requires-clause-node
note_at-requires-clause-node c =
    let at = c.requires c.in-Some.batch c.in-Some.is in
    let within = at.within in
    let size = c.args.fronts.now.ok.0 in
    (at.low, omega arith)

pub note_at-requires-clause-room : goal.note_at-requires-clause-room
note_at-requires-clause-room c = (c.requires c.in-Some.batch c.in-Some.is).room

pub returns-in-Some-clause-some : goal.returns-in-Some-clause-some
returns-in-Some-clause-some c x d e =
    let both : Some c.in-Some.batch ≡ Some x = sym c.in-Some.is ∙ e in
    let same : c.in-Some.batch ≡ x = cc in
    subst (λ (y : ℕ × ℕ). (f : Front) × (c.note_at.new.fronts.items ≡ slice_set c.args.fronts.now.items (c.args.node - 1) f) × IsNoted (slice_index_or c.args.fronts.now.items (c.args.node - 1) d) y.0 y.1 f) same
    (c.note_at.ensures d)
