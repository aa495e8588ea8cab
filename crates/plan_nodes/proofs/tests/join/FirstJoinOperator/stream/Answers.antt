use Rattle.std.proofs.Common.{◌≡◌, ◌+◌, ◌++◌, [], ◌∷◌, nat_lt, cond, length, take, drop, Some, None, List, sym, ◌∙◌, ap, subst}
use Rattle.scalar_value.specs.declared.value.Value.{Value}
use Rattle.column_batch.specs.Batches.{fit_kinds}
use Rattle.plan_nodes.specs.Operators.{first_of, item}
use Rattle.plan_nodes.specs.Kinds.{joined_rows}
use Rattle.plan_nodes.specs.Examples.{by_first, Keeps}
use Rattle.plan_nodes.proofs.Parts.{keeps-push}
use Rattle.plan_nodes.proofs.JoinParts.{streamed-fit, if-ok}
use Rattle.plan_nodes.proofs.tests.join.FirstJoinOperator.stream.Goals as goal

pub part-requires : goal.part-requires
part-requires c =
    let s = c.requires.stands in
    let made : c.in_ok-rows.rows ≡ joined_rows by_first c.args.self.now.right c.args.shared.now.rows c.args.batch.now.rows = cc (c.in_ok-rows.ensures, c.rows.ensures.rows) in
    ap (fit_kinds (c.args.self.now.left ++ c.args.self.now.right)) c.as_slice-3.ensures
    ∙ streamed-fit c.args.self.now.left c.args.self.now.right c.args.self.now.size s.0 s.3 c.in_ok-rows.rows s.1 c.args.shared.now.rows c.args.shared.now.ends c.args.batch.now.rows c.args.batch.now.kinds made s.4 c.rows.ensures.fits s.6

pub returns : goal.returns
returns c streams inputs built taken fits holds stands same =
    let pushed : c.push.new.self ≡ c.args.local.now ++ c.args.batch.now ∷ [] = cc (c.in_ok-push.ensures.appended, c.in_ok-copy.ensures) in
    let keeps : Keeps (first_of inputs) c.push.new.self (taken ++ item c.args.batch.now c.args.from ∷ []) =
    subst (λ p. Keeps (first_of inputs) p (taken ++ item c.args.batch.now c.args.from ∷ [])) (sym pushed)
    (keeps-push (first_of inputs) c.args.local.now taken c.args.batch.now c.args.from stands same c.rows.ensures.fits) in
    let made : c.in_ok-rows.rows ≡ joined_rows by_first c.args.self.now.right c.args.shared.now.rows c.args.batch.now.rows = cc (c.in_ok-rows.ensures, c.rows.ensures.rows) in
    let all : c.as_slice-3.result.now ≡ joined_rows by_first c.args.self.now.right built c.args.batch.now.rows =
    c.as_slice-3.ensures ∙ made ∙ ap (λ b. joined_rows by_first c.args.self.now.right b c.args.batch.now.rows) holds.0 in
    if-ok c.part.result
    (λ given facts. (
      keeps,
      facts.0 ∙ ap (λ xs. take c.args.self.now.size (drop c.args.from xs)) all,
      facts.1,
      facts.2 ∙ ap (λ (xs : List (List Value)). cond (nat_lt c.args.self.now.size (length (drop c.args.from xs))) (Some (c.args.from + c.args.self.now.size)) None) all,
    ))
    c.part.ensures
