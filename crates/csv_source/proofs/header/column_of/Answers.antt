use Rattle.std.proofs.Common.{arith, ◌∙◌, ◌-◌}
use Rattle.std.proofs.lemmas.Str.{IsUtf8-take, IsCharBoundary-before_ascii}
use Rattle.csv_source.proofs.Columns.{column_parts, column_short}
use Rattle.csv_source.proofs.header.column_of.Goals as goal

pub returns-then-behind-lt2 : goal.returns-then-behind-lt2
returns-then-behind-lt2 c = column_short c.args.field.now c.behind_colon-behind.result c.behind_colon-behind.ensures.value c.if-behind-lt2.true

pub text_of-requires : goal.text_of-requires
text_of-requires c =
    let colon = c.behind_colon-behind.ensures.colon (omega arith) in
    IsUtf8-take c.args.field.now (c.behind_colon-behind.result - 1) c.requires
    (IsCharBoundary-before_ascii c.args.field.now (c.behind_colon-behind.result - 1) (omega (arith, c.behind_colon-behind.ensures.value)) (omega (arith, colon)))

pub returns-in_ok-of-in-Some : goal.returns-in_ok-of-in-Some
returns-in_ok-of-in-Some c =
    let parts = column_parts c.args.field.now c.behind_colon-behind.result _ c.behind_colon-behind.ensures.value c.if-behind-lt2.false (omega (arith, c.behind_colon-behind.ensures.value)) c.in-Some.ensures in
    let name = c.in_ok-of-in-Some.ensures ∙ c.text_of.ensures in
    rw name parts

pub returns-in-None : goal.returns-in-None
returns-in-None c =
    column_parts c.args.field.now c.behind_colon-behind.result _ c.behind_colon-behind.ensures.value c.if-behind-lt2.false (omega (arith, c.behind_colon-behind.ensures.value)) c.in-None.ensures
