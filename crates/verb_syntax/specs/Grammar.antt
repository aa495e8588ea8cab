-- The grammar of scripts, as relations between token lists and trees. `Rule tokens tree rest` says that the front of
-- the tokens, up to `rest`, derives the tree by that rule. Line feeds that are passed over are gone here (`Lines`).
-- The rules of a value go by number, from 0 value to 10 primary; `Rules` of syntax_steps has them, with the operators
-- that belong to each.
--
--   script     = {sep} { statement sep {sep} } pipeline {sep}
--   statement  = "library" "(" package ")" | name "<-" pipeline
--   sep        = line feed | ";"
--   pipeline   = name { pipe call }
--   call       = name "(" [ argument { "," argument } ] ")"
--   argument   = [ (name | text) "=" ] whole
--   whole      = pipeline with at least one pipe | value
--   value      = or [ "~" or ]
--   or         = and { "|" and }
--   and        = not { "&" not }
--   not        = "!" not | comparison
--   comparison = sum [ ("==" | "!=" | "<" | "<=" | ">" | ">=") sum ]
--   sum        = product { ("+" | "-") product }
--   product    = percent { ("*" | "/") percent }
--   percent    = range { ("%%" | "%/%" | "%in%") range }
--   range      = unary [ ":" unary ]
--   unary      = "-" unary | primary
--   primary    = literal | name | call | "(" or ")"
use Rattle.std.specs.Prelude.{◌≡◌, ℕ, suc, ◌<◌, List, [], ◌∷◌, ◌++◌, Option, Some, None, true, ◌⊎◌, codes}
use Rattle.token_scan.specs.declared.token.Token.{Token}
use Rattle.token_scan.specs.declared.token.TokenKind.{TokenKind}
use Rattle.token_scan.specs.declared.token.Oper.{Oper}
use Rattle.syntax_tree.specs.declared.tree.Term.{Term}
use Rattle.syntax_tree.specs.declared.tree.Call.{Call}
use Rattle.syntax_tree.specs.declared.tree.Arg.{Arg}
use Rattle.syntax_tree.specs.declared.tree.Pipe.{Pipe}
use Rattle.syntax_tree.specs.declared.tree.Script.{Script}
use Rattle.syntax_tree.specs.declared.tree.TermKind.{TermKind}
use Rattle.syntax_tree.specs.declared.tree.TermKind.TheVariants as kind
use Rattle.syntax_steps.specs.Rules.{binary_rule, left_rule, prefix_rule, is_package}
use Rattle.syntax_tree.specs.Trees.{term_of, name_term, binary_term, unary_term, call_term, pipe_term, call_of, arg_of, pipe_of}

-- what one token is
abbrev pub IsOp : Oper → Token → Type 0
IsOp op token = token.kind ≡ TokenKind.Op op

abbrev pub IsName : List ℕ → Token → Type 0
IsName name token = token.kind ≡ TokenKind.Name name

abbrev pub IsLabel : List ℕ → Token → Type 0
IsLabel label token = (token.kind ≡ TokenKind.Name label) ⊎ (token.kind ≡ TokenKind.Str label)

abbrev pub IsPipe : Token → Type 0
IsPipe token = (token.kind ≡ TokenKind.Op Oper.BarPipe) ⊎ (token.kind ≡ TokenKind.Op Oper.PercentPipe)

abbrev pub IsSep : Token → Type 0
IsSep token = (token.kind ≡ TokenKind.Line) ⊎ (token.kind ≡ TokenKind.Op Oper.Semicolon)

-- a number, a text or a reserved word, as an expression
abbrev pub literal_of : TokenKind → Option TermKind
literal_of (TokenKind.Whole number) = Some (kind.Whole number)
literal_of (TokenKind.Decimal number) = Some (kind.Decimal number)
literal_of (TokenKind.Str text) = Some (kind.Str text)
literal_of (TokenKind.Word word) = Some (kind.Word word)
literal_of _ = None

-- the place of the first token
abbrev pub place : List Token → ℕ
place [] = 0
place (token ∷ tokens) = token.from

mutual
  -- an expression, by the rule of this number
  pub data Value : ℕ → List Token → Term → List Token → Type 0 where
    next : {r : ℕ} {ts rest : List Token} {a : Term} → r < 10 → Value (suc r) ts a rest → Value r ts a rest
    binary : {ts mid rest : List Token} {a b : Term} (op : Oper) (token : Token) → IsOp op token → binary_rule op < 10
        → Value (left_rule op) ts a (token ∷ mid) → Value (suc (binary_rule op)) mid b rest
        → Value (binary_rule op) ts (binary_term (place ts) op a b) rest
    prefix : {ts rest : List Token} {a : Term} (op : Oper) (token : Token) → IsOp op token → prefix_rule op < 10
        → Value (prefix_rule op) ts a rest → Value (prefix_rule op) (token ∷ ts) (unary_term token.from op a) rest
    literal : {rest : List Token} (what : TermKind) (token : Token) → literal_of token.kind ≡ Some what
        → Value 10 (token ∷ rest) (term_of token.from what) rest
    name : {rest : List Token} (n : List ℕ) (token : Token) → IsName n token
        → Value 10 (token ∷ rest) (name_term token.from n) rest
    call : {ts rest : List Token} {c : Call} → Calling ts c rest → Value 10 ts (call_term (place ts) c) rest
    paren : {ts rest : List Token} {a : Term} (left right : Token) → IsOp Oper.LeftParen left → IsOp Oper.RightParen right
        → Value 1 ts a (right ∷ rest) → Value 10 (left ∷ ts) a rest

  -- a call
  pub data Calling : List Token → Call → List Token → Type 0 where
    bare : {rest : List Token} (n : List ℕ) (token left right : Token) → IsName n token → IsOp Oper.LeftParen left
        → IsOp Oper.RightParen right → Calling (token ∷ left ∷ right ∷ rest) (call_of n token.from []) rest
    full : {ts rest : List Token} {args : List Arg} (n : List ℕ) (token left right : Token) → IsName n token
        → IsOp Oper.LeftParen left → IsOp Oper.RightParen right → Args ts args (right ∷ rest)
        → Calling (token ∷ left ∷ ts) (call_of n token.from args) rest

  -- the arguments of a call, of which there is at least one
  pub data Args : List Token → List Arg → List Token → Type 0 where
    one : {ts rest : List Token} {x : Arg} → Argument ts x rest → Args ts (x ∷ []) rest
    more : {ts mid rest : List Token} {args : List Arg} {x : Arg} (comma : Token) → IsOp Oper.Comma comma
        → Args ts args (comma ∷ mid) → Argument mid x rest → Args ts (args ++ x ∷ []) rest

  -- an argument, which stands at its first token
  pub data Argument : List Token → Arg → List Token → Type 0 where
    plain : {ts rest : List Token} {a : Term} → Whole ts a rest → Argument ts (arg_of None (place ts) a) rest
    named : {ts rest : List Token} {a : Term} (label : List ℕ) (token set : Token) → IsLabel label token
        → IsOp Oper.Set set → Whole ts a rest → Argument (token ∷ set ∷ ts) (arg_of (Some label) token.from a) rest

  -- the value of an argument
  pub data Whole : List Token → Term → List Token → Type 0 where
    value : {ts rest : List Token} {a : Term} → Value 0 ts a rest → Whole ts a rest
    pipeline : {ts rest : List Token} {calls : List Call} (n : List ℕ) (token : Token) → IsName n token
        → Calls ts calls rest → Whole (token ∷ ts) (pipe_term token.from (pipe_of n token.from calls)) rest

  -- the calls of a pipeline, each behind a pipe, of which there is at least one
  pub data Calls : List Token → List Call → List Token → Type 0 where
    first : {ts rest : List Token} {c : Call} (pipe : Token) → IsPipe pipe → Calling ts c rest
        → Calls (pipe ∷ ts) (c ∷ []) rest
    then : {ts mid rest : List Token} {calls : List Call} {c : Call} (pipe : Token) → IsPipe pipe
        → Calls ts calls (pipe ∷ mid) → Calling mid c rest → Calls ts (calls ++ c ∷ []) rest

pub data Pipeline : List Token → Pipe → List Token → Type 0 where
  table : {rest : List Token} (n : List ℕ) (token : Token) → IsName n token
      → Pipeline (token ∷ rest) (pipe_of n token.from []) rest
  piped : {ts rest : List Token} {calls : List Call} (n : List ℕ) (token : Token) → IsName n token
      → Calls ts calls rest → Pipeline (token ∷ ts) (pipe_of n token.from calls) rest

-- a statement, with the assignments that it makes: a package makes none
pub data Statement : List Token → List (List ℕ × Pipe) → List Token → Type 0 where
  library : {rest : List Token} (n : List ℕ) (word left token right : Token) → IsName (codes "library") word
      → IsOp Oper.LeftParen left → IsName n token → is_package n ≡ true → IsOp Oper.RightParen right
      → Statement (word ∷ left ∷ token ∷ right ∷ rest) [] rest
  assign : {ts rest : List Token} {p : Pipe} (n : List ℕ) (token arrow : Token) → IsName n token
      → IsOp Oper.Assign arrow → Pipeline ts p rest → Statement (token ∷ arrow ∷ ts) ((n, p) ∷ []) rest

-- any number of separators
pub data Seps : List Token → List Token → Type 0 where
  none : {rest : List Token} → Seps rest rest
  more_seps : {ts rest : List Token} (token : Token) → IsSep token → Seps ts (token ∷ rest) → Seps ts rest

-- statements, each with at least one separator behind it
pub data Statements : List Token → List (List ℕ × Pipe) → List Token → Type 0 where
  no_more : {rest : List Token} → Statements rest [] rest
  statement : {ts mid low rest : List Token} {assigns made : List (List ℕ × Pipe)} (token : Token) → IsSep token
      → Statements ts assigns mid → Statement mid made (token ∷ low) → Seps low rest
      → Statements ts (assigns ++ made) rest

-- The tokens derive the script.
pub record Derives (tokens : List Token) (script : Script) : Type 0 where
  pub begin : List Token
  pub from : List Token
  pub to : List Token
  pub lead : Seps tokens begin
  pub statements : Statements begin script.assigns from
  pub last : Pipeline from script.last to
  pub end : Seps to []
