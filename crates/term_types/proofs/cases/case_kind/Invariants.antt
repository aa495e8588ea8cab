use Rattle.std.proofs.Common.{◌≡◌, drop}
use Rattle.term_calls.specs.Calls.{case_kind}
use Rattle.term_types.proofs.cases.case_kind.Given as goal

abbrev pub invariant-loop-case : goal.invariant-loop-case
invariant-loop-case l = case_kind l.conditions l.default ≡ case_kind (drop l.case-index l.conditions) l.default
