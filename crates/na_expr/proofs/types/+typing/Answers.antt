use Rattle.std.proofs.Common.{◌≡◌, ◌∙◌, sym, ap, ap₂, ◌*◌, ◌+◌, ℕ, ◌≤◌, Bool, Option, arith, length, map, drop}
use Rattle.std.proofs.lemmas.List.{length-map}
use Rattle.scalar_value.specs.declared.value.ColType.{ColType}
use Rattle.na_expr.specs.Types.{typed, all_of, then_all, case_seen}
use Rattle.na_expr.proofs.TypeSteps.{case_pair, case_decides, too_many_types}
use Rattle.na_expr.proofs.types.+typing.Goals as goal

pub case_parts-loop-at-preserved : goal.case_parts-loop-at-preserved
case_parts-loop-at-preserved t c =
    let next : 2 * c.loop-at.at + 2 ≡ 2 * (c.loop-at.at + 1) = omega arith in
    c.loop-at.invariant
    ∙ case_pair (typed c.args.schema.now) c.args.args.now (2 * c.loop-at.at) c.index-args-at.result c.index-args-at-in-loop-at.result c.in_ok-condition.condition c.in_ok-value.value c.loop-at.truths c.loop-at.values (omega arith) c.index-args-at.is c.index-args-at-in-loop-at.is (sym c.in_ok-condition.ensures) (sym c.in_ok-value.ensures)
    ∙ ap₂ (λ (b : Bool) (v : Option (Option ColType)). then_all (case_seen b v) (all_of (map (typed c.args.schema.now) (drop (2 * c.loop-at.at + 2) c.args.args.now)))) (sym c.still_truths-truths.ensures) (sym c.join-values.ensures)
    ∙ ap (λ (k : ℕ). then_all (case_seen c.still_truths-truths.result c.join-values.result) (all_of (map (typed c.args.schema.now) (drop k c.args.args.now)))) next

pub type_of_call-returns-in_ok-agreement-in-len4-up : goal.type_of_call-returns-in_ok-agreement-in-len4-up
type_of_call-returns-in_ok-agreement-in-len4-up t c =
    let long : 4 ≤ length (map (typed c.args.schema.now) c.args.args.now) = simp length-map c.in-len4-up.len_at_least in
    too_many_types c.args.function c.requires (map (typed c.args.schema.now) c.args.args.now) c.in_ok-agreement-in-len4-up.field-0 long c.in_ok-agreement-in-len4-up.ensures

pub type_of_cases-returns-in_ok-truths-in-len2-up : goal.type_of_cases-returns-in_ok-truths-in-len2-up
type_of_cases-returns-in_ok-truths-in-len2-up t c =
    let long : 2 ≤ length (map (typed c.args.schema.now) c.args.args.now) = simp length-map c.in-len2-up.len_at_least in
    c.outcome.ensures ∙ case_decides c.args.carries (map (typed c.args.schema.now) c.args.args.now) c.in_ok-truths-in-len2-up.truths c.in_ok-truths-in-len2-up.values long c.in_ok-truths-in-len2-up.ensures
