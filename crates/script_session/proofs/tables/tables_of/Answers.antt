use Rattle.std.proofs.Common.{◌≡◌, List, ℕ, [], ◌∷◌, ◌+◌, drop, All, sym, subst, ◌∙◌}
use Rattle.std.proofs.lemmas.Result.{err_from_is_err_and}
use Rattle.row_table.specs.declared.table.Mark.TheVariants.{Kept}
use Rattle.script_session.proofs.TablesRead.{ReadSo, goes_on, path_reached, word_stops, none_rose, kept_more}
use Rattle.script_session.proofs.tables.tables_of.Goals as goal

pub returns-in_err-table_of-clause-stops : goal.returns-in_err-table_of-clause-stops
returns-in_err-table_of-clause-stops g c =
    let e = err_from_is_err_and c.from_residual.result c.from_residual.ensures.1 in
    rw (e.1, e.2) (word_stops c.args.words.now c.loop-word.word-index c.word-item.result c.in_err-table_of.field-0.0 c.loop-word-test.true c.word-item.is c.in_err-table_of.ensures.stops)

pub returns-in_err-table_of-clause-reached : goal.returns-in_err-table_of-clause-reached
returns-in_err-table_of-clause-reached g c = λ held p.
    let e = err_from_is_err_and c.from_residual.result c.from_residual.ensures.1 in
    rw (e.1, e.2)
    (path_reached c.args.words.now c.loop-word.word-index c.word-item.result c.loop-word.tables held c.loop-word-test.true c.word-item.is (c.loop-word.invariant.3 held p)
    c.in_err-table_of.field-0.0 c.in_err-table_of.ensures.stops)

pub loop-word-preserved : goal.loop-word-preserved
loop-word-preserved g c =
    let grown = c.in_ok-push.ensures.appended in (
      c.in_ok-table_of.ensures.held ∙ c.loop-word.invariant.0,
      none_rose c.loop-word.invariant.1 c.in_ok-table_of.ensures.counts,
      subst (All (λ t. t.1.mark ≡ Kept)) (sym grown) (kept_more c.loop-word.tables c.in_ok-table_of.field-0 c.loop-word.invariant.2 c.in_ok-table_of.ensures.kept),
      λ held p.
          subst (λ ts. ReadSo c.args.words.now (drop (c.loop-word.word-index + 1) c.args.words.now) ts held) (sym grown)
          (goes_on c.args.words.now c.loop-word.word-index c.word-item.result c.loop-word.tables held c.loop-word-test.true c.word-item.is (c.loop-word.invariant.3 held p)
          c.in_ok-table_of.field-0 (c.in_ok-table_of.ensures.known held (c.loop-word.invariant.0 ∙ p))),
    )
