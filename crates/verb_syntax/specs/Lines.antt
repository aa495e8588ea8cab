-- The line feeds that are passed over: those between parentheses, after a pipe and after `<-`.
use Rattle.std.specs.Prelude.{ℕ, suc, ◌-◌, List, [], ◌∷◌, Bool, true, false, cond, ◌&&◌, ◌||◌, nat_lt}
use Rattle.token_scan.specs.declared.token.Token.{Token}
use Rattle.token_scan.specs.declared.token.TokenKind.{TokenKind}
use Rattle.token_scan.specs.declared.token.Oper.{Oper}
use Rattle.syntax_tree.specs.declared.tree.Script.{Script}
use Rattle.verb_syntax.specs.Grammar.{Derives}

abbrev pub is_line : TokenKind → Bool
is_line TokenKind.Line = true
is_line _ = false

-- how many parentheses are open behind a token, where so many are open before it
abbrev pub deeper : TokenKind → ℕ → ℕ
deeper (TokenKind.Op Oper.LeftParen) depth = suc depth
deeper (TokenKind.Op Oper.RightParen) depth = depth - 1
deeper _ depth = depth

-- whether a line goes on behind this token
abbrev pub goes_on : TokenKind → Bool
goes_on (TokenKind.Op Oper.BarPipe) = true
goes_on (TokenKind.Op Oper.PercentPipe) = true
goes_on (TokenKind.Op Oper.Assign) = true
goes_on _ = false

-- whether a token is a line feed that is passed over, at so many open parentheses, and behind a token where the line goes on
abbrev pub is_passed : TokenKind → ℕ → Bool → Bool
is_passed what depth after = is_line what && (nat_lt 0 depth || after)

-- the tokens without the line feeds that are passed over
abbrev pub unpassed : ℕ → Bool → List Token → List Token
unpassed depth after [] = []
unpassed depth after (token ∷ tokens) =
    cond (is_passed token.kind depth after) (unpassed depth after tokens)
    (token ∷ unpassed (deeper token.kind depth) (goes_on token.kind) tokens)

-- the tokens of a script that the grammar is about
abbrev pub read : List Token → List Token
read tokens = unpassed 0 false tokens

-- The tokens of a script, line feeds and all, derive this tree.
abbrev pub DerivesScript : List Token → Script → Type 0
DerivesScript tokens script = Derives (read tokens) script
