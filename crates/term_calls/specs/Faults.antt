-- The first fault, and steps that go on where there was none.
use Rattle.std.specs.Prelude.{ℕ, Result, Ok, Err, List, [], ◌∷◌}
use Rattle.na_expr.specs.declared.expr.TypeFault.{TypeFault}
use Rattle.na_expr.specs.declared.expr.TypeFault.TheVariants as type_fault
use Rattle.term_calls.specs.declared.fault.TermFault.{TermFault}
use Rattle.term_calls.specs.declared.fault.TermFaultKind.{TermFaultKind}
use Rattle.term_calls.specs.declared.fault.TermFaultKind.TheVariants.{UnknownColumn, WrongArguments, WrongType}

-- a step on what the one before it gives, or the fault of that one
abbrev pub and_then : {A B F : Type 0} → Result A F → (A → Result B F) → Result B F
and_then (Ok x) step = step x
and_then (Err f) step = Err f

-- all that is given, or the first fault from the left
abbrev pub all_of : {A F : Type 0} → List (Result A F) → Result (List A) F
all_of [] = Ok []
all_of (r ∷ rs) = and_then r (λ x. and_then (all_of rs) (λ xs. Ok (x ∷ xs)))

abbrev pub fault : {A : Type 0} → TermFaultKind → ℕ → Result A TermFault
fault kind at = Err (record { kind = kind; at = at })

abbrev pub kind_of_fault : TypeFault → TermFaultKind
kind_of_fault type_fault.WrongType = WrongType
kind_of_fault type_fault.WrongArguments = WrongArguments
kind_of_fault type_fault.UnknownColumn = UnknownColumn

-- the fault of a call's types stands at the call
abbrev pub stands_at : {A : Type 0} → ℕ → Result A TypeFault → Result A TermFault
stands_at at (Ok x) = Ok x
stands_at at (Err f) = fault (kind_of_fault f) at
