-- How many binary operators a front of the tokens has in the argument of the outermost call in which it ends.
use Rattle.std.specs.Prelude.{ℕ, suc, List, [], ◌∷◌, Bool, true, false, cond, ◌==◌, ◌&&◌, nat_le, nat_lt}
use Rattle.token_scan.specs.declared.token.Token.{Token}
use Rattle.token_scan.specs.declared.token.TokenKind.{TokenKind}
use Rattle.token_scan.specs.declared.token.Oper.{Oper}
use Rattle.syntax_steps.specs.Rules.{binary_rule}
use Rattle.verb_syntax.specs.Lines.{deeper}

-- whether an operand ends with this token, so that an operator behind it is binary
abbrev pub ends_operand : TokenKind → Bool
ends_operand (TokenKind.Op Oper.RightParen) = true
ends_operand (TokenKind.Op _) = false
ends_operand TokenKind.Line = false
ends_operand _ = true

-- whether the operator is one of the rules or to range
abbrev pub is_counted : Oper → Bool
is_counted op = nat_le 1 (binary_rule op) && nat_lt (binary_rule op) 10

-- The count behind a token, where it is `count` before it, so many parentheses are open, and an operand ends there or not:
-- an argument of the outermost call begins behind its `(` and behind each of its commas.
abbrev pub count_at : TokenKind → ℕ → Bool → ℕ → ℕ
count_at (TokenKind.Op Oper.LeftParen) depth whole count = cond (depth == 0) 0 count
count_at (TokenKind.Op Oper.Comma) depth whole count = cond (depth == 1) 0 count
count_at (TokenKind.Op op) depth whole count = cond (whole && is_counted op) (suc count) count
count_at _ depth whole count = count

-- the count behind all of these tokens
abbrev pub operators_from : ℕ → Bool → ℕ → List Token → ℕ
operators_from depth whole count [] = count
operators_from depth whole count (token ∷ tokens) =
    operators_from (deeper token.kind depth) (ends_operand token.kind) (count_at token.kind depth whole count) tokens

abbrev pub operators : List Token → ℕ
operators tokens = operators_from 0 false 0 tokens
