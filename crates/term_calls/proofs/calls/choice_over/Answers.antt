use Rattle.std.proofs.Common.{◌≡◌, ◌∙◌, sym, ap, subst, Ok}
use Rattle.scalar_value.specs.declared.value.ColType.{ColType}
use Rattle.term_calls.specs.declared.piece.Piece.{Piece}
use Rattle.term_calls.specs.Calls.{choice_over, over}
use Rattle.term_calls.specs.Faults.{stands_at}
use Rattle.term_calls.specs.Pieces.{is_free, needed_by}
use Rattle.term_calls.proofs.Choices.{free_given}
use Rattle.term_calls.proofs.calls.choice_over.Goals as goal

pub returns : goal.returns
unfolding choice_over
returns c =
    let P : ColType → Type 0 = λ t. stands_at c.args.at (over c.args.function t c.args.pieces) ≡ Ok c.in_ok-made.made in
    free_given (is_free c.args.first) c.args.at (over c.args.function (needed_by c.args.first) c.args.pieces) c.in_ok-made.made (subst P c.needed_beside.ensures c.in_ok-made.ensures)
    ∙ ap (λ (p : Piece). Ok p) (sym c.free_where.ensures)
