use Rattle.std.proofs.Common.{◌≡◌, map, drop, List, Err}
use Rattle.term_calls.specs.declared.piece.Piece.{Piece}
use Rattle.term_calls.specs.Faults.{and_then, all_of}
use Rattle.term_types.specs.Terms.{argument, any_arguments, plain_arguments, plain_argument, with_cases, no_cases}
use Rattle.term_calls.proofs.Collected.{behind}
use Rattle.term_types.proofs.terms.+reading.Given as goal

abbrev pub invariant-refused-loop-arg : goal.invariant-refused-loop-arg
invariant-refused-loop-arg l =
    and_then {B = Piece} (any_arguments (map (argument l.schema) l.args)) (λ (ps : List Piece). Err (record { kind = l.kind; at = l.at }))
    ≡ and_then {B = Piece} (any_arguments (map (argument l.schema) (drop l.arg-index l.args))) (λ (ps : List Piece). Err (record { kind = l.kind; at = l.at }))

abbrev pub invariant-plain_arguments-loop-arg : goal.invariant-plain_arguments-loop-arg
invariant-plain_arguments-loop-arg l =
    plain_arguments (map (argument l.schema) l.args) ≡ behind l.parts (plain_arguments (map (argument l.schema) (drop l.arg-index l.args)))

abbrev pub invariant-all_cases-loop-arg : goal.invariant-all_cases-loop-arg
invariant-all_cases-loop-arg l =
    with_cases no_cases (map (argument l.schema) l.args) ≡ with_cases l.had (map (argument l.schema) (drop l.arg-index l.args))
