use Rattle.std.proofs.Common.{◌≡◌, [], length, refl, sym, ◌∙◌, ap, ap₂, map}
use Rattle.na_expr.specs.Types.{typed}
use Rattle.column_batch.specs.Batches.{BatchValue, fit_kinds}
use Rattle.plan_nodes.specs.Kinds.{ok_or_lgl, projected}
use Rattle.stream_ops.proofs.Projected.{kinds-made, projected-fit, whole}
use Rattle.stream_ops.proofs.Transposed.{all-written, length-projected}
use Rattle.stream_ops.proofs.project.ProjectOpOperator.stream.Goals as goal

-- the rows into which all columns were moved
rows-made : (c : goal.After-of) → c.of.result ≡ projected c.args.self.now.list c.args.batch.now.rows
rows-made c =
    let list = c.args.self.now.list in
    let given = c.args.batch.now.rows in
    let empty : c.in_ok-rows.rows.items ≡ projected [] given = cc (c.in_ok-rows.ensures, c.rows.ensures.rows) in
    let written : c.push_columns.new.rows ≡ projected list given = cc (c.in_ok-push_columns.ensures, c.as_slice-list.ensures) in
    let even = ap length written ∙ length-projected list [] given ∙ ap length (sym empty) in
    c.of.ensures ∙ all-written c.push_columns.new.rows c.in_ok-rows.rows.items c.in_ok-rows.rows.len even c.in_ok-rows.rows.ok.0 ∙ written

pub of_rows-out-requires : goal.of_rows-out-requires
of_rows-out-requires c =
    let s = c.requires.stands in
    let kinds : c.in_ok-kinds.kinds ≡ map (λ e. ok_or_lgl (typed c.args.self.now.schema e)) c.args.self.now.list = cc (c.in_ok-kinds.ensures, c.as_slice-list.ensures) in
    ap₂ fit_kinds kinds (rows-made c)
    ∙ projected-fit c.args.self.now.schema c.args.self.now.list s.0 c.args.batch.now.kinds c.args.batch.now.rows s.3 s.6 c.rows.ensures.fits

pub returns : goal.returns
returns c streams inputs built taken fits shared local same =
    let kinds : c.in_ok-kinds.kinds ≡ map (λ e. ok_or_lgl (typed c.args.self.now.schema e)) c.args.self.now.list = cc (c.in_ok-kinds.ensures, c.as_slice-list.ensures) in
    let made_rows : c.of_rows-out.result.rows ≡ c.of.result = ap (λ (b : BatchValue). b.rows) c.of_rows-out.ensures in
    let made_kinds : c.of_rows-out.result.kinds ≡ c.in_ok-kinds.kinds = ap (λ (b : BatchValue). b.kinds) c.of_rows-out.ensures in (
      tt,
      made_rows ∙ rows-made c.before ∙ whole (projected c.args.self.now.list c.args.batch.now.rows) c.args._from c.requires.starts,
      made_kinds ∙ kinds ∙ kinds-made c.args.self.now.schema c.args.self.now.list,
      refl,
    )
