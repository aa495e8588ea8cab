use Rattle.std.proofs.Common.{List, ℕ}
use Rattle.std.proofs.lemmas.Result.{err_from_is_err_and}
use Rattle.row_table.specs.Tables.{TableValue}
use Rattle.script_session.proofs.AnswerSteps.{table_stops}
use Rattle.script_session.proofs.KeptTables.{typed_is_kept}
use Rattle.script_session.proofs.tables.table_of.Goals as goal

pub returns-in_err-bytes-clause-stops : goal.returns-in_err-bytes-clause-stops
returns-in_err-bytes-clause-stops g c =
    let e = err_from_is_err_and c.from_residual.result c.from_residual.ensures.1 in
    rw (e.1, e.2) (table_stops (List ℕ) (List ℕ × TableValue) c.args.word.now c.in_err-bytes.field-0.0 c.in_err-bytes.ensures.stops)

pub returns-in-Ok-clause-kept : goal.returns-in-Ok-clause-kept
returns-in-Ok-clause-kept g c = typed_is_kept c.as_slice.result.now c.in-Ok.table c.in-Ok.ensures
