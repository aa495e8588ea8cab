-- A choice among free values, where its call gives a part or a fault.
use Rattle.std.proofs.Common.{ℕ, Bool, ◌≡◌, ap, Result, Ok, Err}
use Rattle.na_expr.specs.declared.expr.TypeFault.{TypeFault}
use Rattle.term_calls.specs.declared.fault.TermFault.{TermFault}
use Rattle.term_calls.specs.declared.piece.Piece.{Piece}
use Rattle.term_calls.specs.Faults.{stands_at}
use Rattle.term_calls.specs.Calls.{free_where, freed}

pub free_given : (free : Bool) (at : ℕ) (r : Result Piece TypeFault) (p : Piece) → stands_at at r ≡ Ok p → stands_at at (free_where free r) ≡ Ok (freed free p)
free_given free at (Ok q) p h = let same : q ≡ p = cc in ap (λ x. Ok (freed free x)) same
free_given free at (Err e) p h = cc

pub free_faulty : (free : Bool) (at : ℕ) (r : Result Piece TypeFault) (f : TermFault) → stands_at at r ≡ Err f → stands_at at (free_where free r) ≡ Err f
free_faulty free at (Ok q) f h = cc
free_faulty free at (Err e) f h = h
