-- The tokens of a script, or its first fault.
use Rattle.std.specs.Prelude.{◌≡◌, ℕ, zero, suc, ◌+◌, ◌-◌, nat_eq, if◌then◌else◌, List, [], ◌∷◌, ◌++◌, Result, Ok, Err}
use Rattle.std.specs.List.{starts_with}
use Rattle.scalar_value.specs.declared.memory.Or.{Or}
use Rattle.scalar_value.specs.declared.memory.Or.TheVariants.{Fault, Memory}
use Rattle.token_scan.specs.declared.piece.Piece.{Piece}
use Rattle.token_scan.specs.declared.piece.Piece.TheVariants.{Passed, Made, Wrong}
use Rattle.token_scan.specs.declared.token.Token.{Token}
use Rattle.token_scan.specs.declared.token.TokenKind.{TokenKind}
use Rattle.token_scan.specs.declared.token.ScanFault.{ScanFault}
use Rattle.token_scan.specs.declared.token.ScanKind.{ScanKind}
use Rattle.token_scan.specs.Pieces.{piece}

-- a token of this kind on so many bytes
abbrev pub token_at : TokenKind → ℕ → ℕ → Token
token_at kind at n = record { kind = kind; from = at; to = at + n }

abbrev pub fault_at : ScanKind → ℕ → ScanFault
fault_at kind at = record { kind = kind; at = at }

-- these tokens before others
abbrev pub before : List Token → Result (List Token) ScanFault → Result (List Token) ScanFault
before made (Ok tokens) = Ok (made ++ tokens)
before made (Err fault) = Err fault

-- What a piece at this place gives, where `go_on` says what comes after so many bytes more.
abbrev pub by_piece : ℕ → Piece → (ℕ → Result (List Token) ScanFault) → Result (List Token) ScanFault
by_piece at (Passed n) go_on = go_on (n - 1)
by_piece at (Made kind n) go_on = before (token_at kind at n ∷ []) (go_on (n - 1))
by_piece at (Wrong kind n) go_on = Err (fault_at kind (at + n))

-- The tokens of the bytes from place `at` on, of which the first `left` belong to what was read before.
unfoldable pub tokens_from : ℕ → ℕ → List ℕ → Result (List Token) ScanFault
tokens_from at left [] = Ok []
tokens_from at zero (b ∷ bs) = by_piece at (piece (b ∷ bs)) (λ more. tokens_from (at + 1) more bs)
tokens_from at (suc left) (b ∷ bs) = tokens_from (at + 1) left bs

-- how many bytes a mark of UTF-8 takes at the start
abbrev pub mark_len : List ℕ → ℕ
mark_len bs = if starts_with nat_eq bs (239 ∷ 187 ∷ 191 ∷ []) then 3 else 0

-- Each token is the longest that begins at its place; a mark of UTF-8 at the start is passed over.
abbrev pub tokens_of : List ℕ → Result (List Token) ScanFault
tokens_of script = tokens_from 0 (mark_len script) script

-- how far a piece reaches
abbrev pub piece_len : Piece → ℕ
piece_len (Passed n) = n
piece_len (Made kind n) = n
piece_len (Wrong kind n) = n

-- A piece at this place was taken: the tokens before and after, and the place behind it or the fault.
abbrev pub Takes : Piece → ℕ → List Token → List Token → Result ℕ (Or ScanFault) → Type 0
Takes piece at old new (Err Memory) = Unit {0}
Takes (Passed n) at old new (Ok next) = (next ≡ at + n) × (new ≡ old)
Takes (Made kind n) at old new (Ok next) = (next ≡ at + n) × (new ≡ old ++ token_at kind at n ∷ [])
Takes (Wrong kind n) at old new (Ok next) = ⊥
Takes (Passed n) at old new (Err (Fault fault)) = ⊥
Takes (Made kind n) at old new (Err (Fault fault)) = ⊥
Takes (Wrong kind n) at old new (Err (Fault fault)) = fault ≡ fault_at kind (at + n)
