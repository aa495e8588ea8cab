use Rattle.std.proofs.Common.{◌≡◌, ◌∙◌, sym, ap, ap₂, ◌*◌, ◌+◌, ℕ, Bool, Option, arith, drop}
use Rattle.scalar_value.specs.declared.value.ColType.{ColType}
use Rattle.na_expr.specs.Types.{case_seen}
use Rattle.na_expr.proofs.CaseTypes.{pair_at}
use Rattle.na_expr.proofs.calls.case_kinds.Goals as goal

pub loop-at-preserved : goal.loop-at-preserved
loop-at-preserved c =
    let next : 2 * c.loop-at.at + 2 ≡ 2 * (c.loop-at.at + 1) = omega arith in
    c.loop-at.invariant
    ∙ pair_at c.args.kinds.now (2 * c.loop-at.at) _ _ c.loop-at.truths c.loop-at.values (omega arith)
    ∙ ap₂ (λ (b : Bool) (v : Option (Option ColType)). case_seen b v (drop (2 * c.loop-at.at + 2) c.args.kinds.now)) (sym c.still_truths-truths.ensures) (sym c.join-values.ensures)
    ∙ ap (λ (k : ℕ). case_seen c.still_truths-truths.result c.join-values.result (drop k c.args.kinds.now)) next
