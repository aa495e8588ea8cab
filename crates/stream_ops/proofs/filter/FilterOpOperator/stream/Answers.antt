use Rattle.std.proofs.Common.{◌≡◌, length, refl, sym, ◌∙◌, ap, ap₂}
use Rattle.std.proofs.lemmas.List.{length-map}
use Rattle.scalar_value.specs.Truths.{is_true}
use Rattle.na_expr.specs.Evaluation.{val}
use Rattle.col_eval.specs.Columns.{evaluated}
use Rattle.column_batch.specs.Batches.{fit_kinds}
use Rattle.column_batch.proofs.Fitting.{fit_kinds-filter}
use Rattle.plan_nodes.specs.Kinds.{filtered}
use Rattle.stream_ops.specs.Columns.{rows_where}
use Rattle.stream_ops.proofs.Filtered.{rows_where-evaluated}
use Rattle.stream_ops.proofs.Projected.{whole}
use Rattle.stream_ops.proofs.filter.FilterOpOperator.stream.Goals as goal

pub kept_rows-requires : goal.kept_rows-requires
kept_rows-requires c =
    let values : c.as_slice.result.now ≡ evaluated c.args.self.now.condition c.args.batch.now.rows = cc (c.in_ok-values.ensures, c.as_slice.ensures) in
    ap length values ∙ length-map c.args.batch.now.rows (λ row. val row c.args.self.now.condition) ∙ ap length (sym c.rows.ensures.rows)

pub of_rows-out-requires : goal.of_rows-out-requires
of_rows-out-requires c =
    let values : c.as_slice.result.now ≡ evaluated c.args.self.now.condition c.args.batch.now.rows = cc (c.in_ok-values.ensures, c.as_slice.ensures) in
    let kinds : c.in_ok-kinds.kinds ≡ c.args.batch.now.kinds = cc (c.in_ok-kinds.ensures, c.kinds.ensures) in
    let rows : c.in_ok-rows.rows ≡ filtered c.args.self.now.condition c.args.batch.now.rows =
    c.in_ok-rows.ensures ∙ ap₂ rows_where c.rows.ensures.rows values ∙ rows_where-evaluated c.args.self.now.condition c.args.batch.now.rows in
    ap₂ fit_kinds kinds rows
    ∙ fit_kinds-filter c.args.batch.now.kinds (λ row. is_true (val row c.args.self.now.condition)) c.args.batch.now.rows c.rows.ensures.fits

pub returns : goal.returns
returns c streams inputs built taken fits shared local same =
    let values : c.as_slice.result.now ≡ evaluated c.args.self.now.condition c.args.batch.now.rows = cc (c.in_ok-values.ensures, c.as_slice.ensures) in
    let kinds : c.in_ok-kinds.kinds ≡ c.args.batch.now.kinds = cc (c.in_ok-kinds.ensures, c.kinds.ensures) in
    let rows : c.in_ok-rows.rows ≡ filtered c.args.self.now.condition c.args.batch.now.rows =
    c.in_ok-rows.ensures ∙ ap₂ rows_where c.rows.ensures.rows values ∙ rows_where-evaluated c.args.self.now.condition c.args.batch.now.rows in
    let made_rows : c.of_rows-out.result.rows ≡ c.in_ok-rows.rows = cc c.of_rows-out.ensures in
    let made_kinds : c.of_rows-out.result.kinds ≡ c.in_ok-kinds.kinds = cc c.of_rows-out.ensures in (
      tt,
      made_rows ∙ rows ∙ whole (filtered c.args.self.now.condition c.args.batch.now.rows) c.args._from c.requires.starts,
      made_kinds ∙ kinds ∙ same,
      refl,
    )
