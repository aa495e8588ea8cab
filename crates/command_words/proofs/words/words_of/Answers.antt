use Rattle.std.proofs.Common.{◌∙◌, refl, subst, Some, Err, ap, sym, List, Option, unwrap_or, [], codes}
use Rattle.std.proofs.lemmas.Result.{err_from_is_err_and}
use Rattle.scalar_value.specs.Gives.{GivesSome}
use Rattle.clap.specs.Words.{found_of, rows_of, Text}
use Rattle.clap.proofs.WalkLemmas.{first_value-rows}
use Rattle.command_words.specs.Tables.{tables_of}
use Rattle.command_words.proofs.Readings.{words_by}
use Rattle.command_words.proofs.SaidWords.{said_by, no_format, no_script, refused_tables, all_steps}
use Rattle.command_words.proofs.words.words_of.Goals as goal

pub returns-in_default-clause-gives : goal.returns-in_default-clause-gives
returns-in_default-clause-gives c =
    let f = found_of c.args.matches.now in
    said_by (rows_of f) c.setting_of-setting.result c.is_given-explain.result c.is_given-report.result _ _
    c.setting_of-setting.ensures.value c.is_given-explain.ensures c.is_given-report.ensures
    (c.get_str.ensures ∙ first_value-rows f (codes "format")) refl (sym c.if-not-can_run.ensures)
    ∙ no_format _ _ _ _ _ _ c.in_default.ensures

pub returns-in_default-get_str-clause-gives : goal.returns-in_default-get_str-clause-gives
returns-in_default-get_str-clause-gives c =
    let f = found_of c.args.matches.now in
    said_by (rows_of f) c.setting_of-setting.result c.is_given-explain.result c.is_given-report.result _ _
    c.setting_of-setting.ensures.value c.is_given-explain.ensures c.is_given-report.ensures
    (c.get_str.ensures ∙ first_value-rows f (codes "format")) refl (sym c.if-not-can_run.ensures)
    ∙ no_script _ _ _ _ _ _ (c.in_default-get_str.ensures ∙ first_value-rows f (codes "SCRIPT"))

pub returns-in_err-tables-clause-gives : goal.returns-in_err-tables-clause-gives
returns-in_err-tables-clause-gives c =
    let f = found_of c.args.matches.now in
    let e = err_from_is_err_and c.from_residual.result c.from_residual.ensures.1 in
    let given = ap (λ (ws : Option (List Text)). tables_of (unwrap_or ws [])) (words_by f (codes "TABLE") c.get_raw.result c.get_raw.ensures) in
    let P : Option (List (Text × Text)) → Type 0 = λ t. GivesSome {T = List (Text × Text)} (Err c.in_err-tables.field-0.0) t in
    let steps = said_by (rows_of f) c.setting_of-setting.result c.is_given-explain.result c.is_given-report.result _ _
    c.setting_of-setting.ensures.value c.is_given-explain.ensures c.is_given-report.ensures
    (c.get_str.ensures ∙ first_value-rows f (codes "format")) (c.in-Some-get_str.ensures ∙ first_value-rows f (codes "SCRIPT")) (sym c.if-not-can_run.ensures) in
    rw (e.1, e.2) (refused_tables c.setting_of-setting.result c.is_given-explain.result c.is_given-report.result _ (Some c.in-Some-get_str.script.now) _ _ _ steps (subst P given c.in_err-tables.ensures))

pub returns-clause-gives : goal.returns-clause-gives
returns-clause-gives c =
    let f = found_of c.args.matches.now in
    let given = ap (λ (ws : Option (List Text)). tables_of (unwrap_or ws [])) (words_by f (codes "TABLE") c.get_raw.result c.get_raw.ensures) in
    said_by (rows_of f) c.setting_of-setting.result c.is_given-explain.result c.is_given-report.result _ _
    c.setting_of-setting.ensures.value c.is_given-explain.ensures c.is_given-report.ensures
    (c.get_str.ensures ∙ first_value-rows f (codes "format")) refl (sym c.if-not-can_run.ensures)
    ∙ all_steps _ _ _ _ _ _ c.in-Some.csv c.in_ok-of.field-0 c.in_ok-tables.tables c.in-Some.ensures
    (ap (λ (t : Text). Some t) c.in_ok-of.ensures ∙ (c.in-Some-get_str.ensures ∙ first_value-rows f (codes "SCRIPT"))) (sym given ∙ c.in_ok-tables.ensures)
