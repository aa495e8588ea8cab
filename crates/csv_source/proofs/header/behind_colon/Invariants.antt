use Rattle.std.proofs.Common.{◌≡◌, ◌+◌, ◌-◌, ◌<◌, take, get_or, not}
use Rattle.std.specs.List.{suffix_len}
use Rattle.csv_source.specs.Fields.{is_colon}
use Rattle.csv_source.proofs.header.behind_colon.Given as goal

abbrev pub invariant-loop-place : goal.invariant-loop-place
invariant-loop-place l = record {
  value : l.behind + suffix_len (λ byte. not (is_colon byte)) (take l.place l.text) ≡ l.place;
  colon : 0 < l.behind → get_or l.text (l.behind - 1) 0 ≡ 58;
}
