use Rattle.std.proofs.Common.{inl, refl, List, ℕ}
use Rattle.std.proofs.lemmas.Result.{err_from_is_err_and}
use Rattle.syntax_tree.specs.declared.tree.Script.{Script}
use Rattle.script_session.proofs.AnswerSteps.{long_stops}
use Rattle.script_session.proofs.tables.script_of.Goals as goal

pub returns-in_err-bytes-clause-stops : goal.returns-in_err-bytes-clause-stops
returns-in_err-bytes-clause-stops g c =
    let e = err_from_is_err_and c.from_residual.result c.from_residual.ensures.1 in
    rw (e.1, e.2) (long_stops (List ℕ) (List ℕ × Script) c.args.words.now c.args.words.now.script c.in_err-bytes.field-0.0 (inl refl) c.in_err-bytes.ensures.stops)
