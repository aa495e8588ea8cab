use Rattle.std.proofs.Common.{◌-◌, length, take, drop}
use Rattle.selections.proofs.Lowered.{closes, all_behind}
use Rattle.selections.proofs.names.closes_with.Goals as goal

pub returns-then-text-name : goal.returns-then-text-name
returns-then-text-name c =
    let name = c.args.name.now in
    let skipped = length name - length c.args.text.now in
    closes name c.args.text.now (take (length name - skipped) (drop skipped name)) c.eq_ignore_ascii_case.result (all_behind skipped name) c.eq_ignore_ascii_case.ensures.test
