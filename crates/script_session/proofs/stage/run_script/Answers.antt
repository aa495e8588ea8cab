use Rattle.std.proofs.Common.{subst}
use Rattle.row_table.specs.Tables.{IsTable}
use Rattle.script_session.proofs.StageRuns.{taken, head, ran_as_planned, meaning_given}
use Rattle.script_session.proofs.stage.run_script.Goals as goal

pub run_stage-requires-clause-head : goal.run_stage-requires-clause-head
run_stage-requires-clause-head g c κs within =
    let m = rw c.as_slice.ensures at c.in-Ok.ensures in
    let is = taken c.args.tables m.0 c.in-Ok.stage m.2 c.take_table-source.result c.take_table-source.ensures.given in
    let v = c.plans_mean_their_tables.ensures c.args.script.now c.args.tables m.0 m.1 (subst IsTable is c.take_table-source.ensures.table) in
    head c.args.tables m.0 c.in-Ok.stage m.2 v c.take_table-source.result is

pub returns-in-Ok : goal.returns-in-Ok
returns-in-Ok g c =
    let m = rw c.as_slice.ensures at c.in-Ok.ensures in
    let is = taken c.args.tables m.0 c.in-Ok.stage m.2 c.take_table-source.result c.take_table-source.ensures.given in
    let v = c.plans_mean_their_tables.ensures c.args.script.now c.args.tables m.0 m.1 (subst IsTable is c.take_table-source.ensures.table) in (
      m.0,
      meaning_given c.args.bytes.now c.args.script.now c.args.tables m.0 m.1,
      ran_as_planned c.args.tables m.0 c.in-Ok.stage m.2 c.args.setting c.take_table-source.result c.in_ok-run_stage-in-Ok.field-0 v is c.in_ok-run_stage-in-Ok.ensures,
    )
