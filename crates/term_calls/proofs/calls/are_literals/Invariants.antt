use Rattle.std.proofs.Common.{◌≡◌, ℕ, drop}
use Rattle.std.specs.List.{list_all}
use Rattle.term_calls.specs.declared.piece.Piece.{Piece}
use Rattle.term_calls.specs.Pieces.{is_literal}
use Rattle.term_calls.proofs.calls.are_literals.Given as goal

abbrev pub invariant-loop-item : goal.invariant-loop-item
invariant-loop-item l =
    list_all (λ (item : ℕ × Piece). is_literal item.1) l.items ≡ list_all (λ (item : ℕ × Piece). is_literal item.1) (drop l.item-index l.items)
