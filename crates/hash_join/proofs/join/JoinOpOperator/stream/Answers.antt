use Rattle.std.proofs.Common.{◌≡◌, ◌+◌, ◌++◌, [], ◌∷◌, cond, drop, Some, None, sym, ◌∙◌, ap, ap₂, subst}
use Rattle.std.specs.Arc.{arc_value}
use Rattle.column_batch.specs.Batches.{kinds_of, fit_kinds}
use Rattle.column_batch.proofs.Fitting.{fit_kinds-take, fit_kinds-drop}
use Rattle.plan_nodes.specs.Operators.{first_of, item}
use Rattle.plan_nodes.specs.Kinds.{joined_rows}
use Rattle.plan_nodes.specs.Examples.{Keeps}
use Rattle.plan_nodes.proofs.Parts.{keeps-push}
use Rattle.plan_nodes.proofs.JoinParts.{if-ok}
use Rattle.hash_join.specs.Windows.{offers}
use Rattle.hash_join.specs.Given.{given_rows}
use Rattle.hash_join.proofs.Windowed.{Shows}
use Rattle.hash_join.proofs.Streams.{shows-joined}
use Rattle.hash_join.proofs.Fitted.{columns_of}
use Rattle.hash_join.proofs.Held.{streamed-fit}
use Rattle.hash_join.proofs.join.JoinOpOperator.stream.Goals as goal

pub streamed-requires : goal.streamed-requires
streamed-requires c =
    let s = c.requires.stands in
    let j = c.args.self.now.spec in
    let left = kinds_of c.args.self.now.left in
    let right = kinds_of c.args.self.now.right in
    let size = c.args.self.now.batch in
    let built = arc_value c.args.shared.now.rows in
    let rows = c.args.batch.now.rows in
    let all = joined_rows j right built rows in
    let came : c.offer_rows.new.window ≡ offers c.new-window.result (given_rows c.args.self.now.spec c.in_ok-missing.missing (arc_value c.args.shared.now.rows) c.args.batch.now.rows) =
    cc (c.in_ok-offer_rows.ensures, c.as_slice.ensures, c.as_slice-2.ensures, c.deref.ensures, c.rows.ensures.rows) in
    let shows = shows-joined j right built rows c.in_ok-missing.missing c.args.from size c.new-window.result c.offer_rows.new.window c.new-window.ensures c.in_ok-missing.ensures came in
    ap₂ fit_kinds c.in_ok-kinds.ensures shows.rows
    ∙ fit_kinds-take (columns_of j.kind left right) size (drop c.args.from all)
    (fit_kinds-drop (columns_of j.kind left right) c.args.from all
    (streamed-fit j left right size s.0 s.3 s.1 built rows c.args.shared.now.ends c.args.batch.now.kinds s.4 c.rows.ensures.fits s.6))

pub returns : goal.returns
returns c streams inputs built taken fits holds stands same =
    let j = c.args.self.now.spec in
    let right = kinds_of c.args.self.now.right in
    let size = c.args.self.now.batch in
    let rows = c.args.batch.now.rows in
    let pushed : c.push.new.self ≡ c.args.local.now ++ c.args.batch.now ∷ [] = cc (c.in_ok-push.ensures.appended, c.in_ok-copy.ensures) in
    let keeps : Keeps (first_of inputs) c.push.new.self (taken ++ item c.args.batch.now c.args.from ∷ []) =
    subst (λ p. Keeps (first_of inputs) p (taken ++ item c.args.batch.now c.args.from ∷ [])) (sym pushed)
    (keeps-push (first_of inputs) c.args.local.now taken c.args.batch.now c.args.from stands same c.rows.ensures.fits) in
    let came : c.offer_rows.new.window ≡ offers c.new-window.result (given_rows c.args.self.now.spec c.in_ok-missing.missing (arc_value c.args.shared.now.rows) c.args.batch.now.rows) =
    cc (c.in_ok-offer_rows.ensures, c.as_slice.ensures, c.as_slice-2.ensures, c.deref.ensures, c.rows.ensures.rows) in
    let seen = shows-joined j right (arc_value c.args.shared.now.rows) rows c.in_ok-missing.missing c.args.from size c.new-window.result c.offer_rows.new.window c.new-window.ensures c.in_ok-missing.ensures came in
    let shows : Shows c.offer_rows.new.window c.args.self.now.batch (drop c.args.from (joined_rows c.args.self.now.spec (kinds_of c.args.self.now.right) built c.args.batch.now.rows)) =
    subst (λ b. Shows c.offer_rows.new.window size (drop c.args.from (joined_rows j right b rows))) holds.0 seen in
    if-ok c.streamed.result
    (λ given facts. (
      keeps,
      facts.0 ∙ shows.rows,
      facts.1 ∙ c.in_ok-kinds.ensures,
      facts.2 ∙ ap (λ b. cond b (Some (c.args.from + size)) None) shows.more,
    ))
    c.streamed.ensures
