-- What a front of the tokens leaves unfinished, by the rules of the grammar.
use Rattle.std.specs.Prelude.{◌≡◌, ℕ, ◌≤◌, ◌<◌, List, [], ◌∷◌, true}
use Rattle.token_scan.specs.declared.token.Token.{Token}
use Rattle.token_scan.specs.declared.token.Oper.{Oper}
use Rattle.syntax_tree.specs.declared.tree.Pipe.{Pipe}
use Rattle.syntax_tree.specs.declared.tree.Term.{Term}
use Rattle.syntax_tree.specs.declared.tree.Call.{Call}
use Rattle.syntax_tree.specs.declared.tree.Arg.{Arg}
use Rattle.syntax_steps.specs.declared.frame.Frame.{Frame}
use Rattle.syntax_steps.specs.Rules.{binary_rule, left_rule, prefix_rule}
use Rattle.verb_syntax.specs.Grammar.{Value, Args, Calls, Statements, Seps, IsOp, IsName, IsLabel, IsPipe, place}
use Rattle.syntax_steps.specs.Levels.{need, takes_pipe, takes_call}

-- `Opens tokens frames rest` says that the tokens up to `rest` are the beginnings of these unfinished rules, the outermost
-- rule first, each with the parts that stand in the frame, and that the innermost rule goes on at `rest`.
pub data Opens : List Token → List Frame → List Token → Type 0 where
  -- script: behind statements
  body : {ts begin rest : List Token} {assigns : List (List ℕ × Pipe)} → Seps ts begin → Statements begin assigns rest
      → Opens ts (Frame.Body assigns ∷ []) rest
  -- statement: name "<-"
  target : {ts rest : List Token} {assigns : List (List ℕ × Pipe)} (n : List ℕ) (token arrow : Token) → IsName n token
      → IsOp Oper.Assign arrow → Opens ts (Frame.Body assigns ∷ []) (token ∷ arrow ∷ rest)
      → Opens ts (Frame.Target n ∷ Frame.Body assigns ∷ []) rest
  -- pipeline: name pipe
  begun : {ts rest : List Token} {frames : List Frame} (n : List ℕ) (token pipe : Token) → IsName n token → IsPipe pipe
      → takes_pipe frames ≡ true → Opens ts frames (token ∷ pipe ∷ rest) → Opens ts (Frame.Piped n token.from [] ∷ frames) rest
  -- pipeline: name { pipe call } pipe
  goes : {ts mid rest : List Token} {frames : List Frame} {calls : List Call} (n : List ℕ) (token pipe : Token)
      → IsName n token → IsPipe pipe → takes_pipe frames ≡ true → Opens ts frames (token ∷ mid) → Calls mid calls (pipe ∷ rest)
      → Opens ts (Frame.Piped n token.from calls ∷ frames) rest
  -- call: name "("
  called : {ts rest : List Token} {frames : List Frame} (n : List ℕ) (token left : Token) → IsName n token
      → IsOp Oper.LeftParen left → takes_call frames ≡ true → Opens ts frames (token ∷ left ∷ rest)
      → Opens ts (Frame.Args n token.from [] ∷ frames) rest
  -- call: name "(" argument { "," argument } ","
  listed : {ts mid rest : List Token} {frames : List Frame} {args : List Arg} (n : List ℕ) (token left comma : Token)
      → IsName n token → IsOp Oper.LeftParen left → IsOp Oper.Comma comma → takes_call frames ≡ true
      → Opens ts frames (token ∷ left ∷ mid) → Args mid args (comma ∷ rest)
      → Opens ts (Frame.Args n token.from args ∷ frames) rest
  -- argument: (name | text) "="
  labelled : {ts rest : List Token} {frames : List Frame} {args : List Arg} (n : List ℕ) (at : ℕ) (label : List ℕ)
      (token set : Token) → IsLabel label token → IsOp Oper.Set set
      → Opens ts (Frame.Args n at args ∷ frames) (token ∷ set ∷ rest)
      → Opens ts (Frame.Label label token.from ∷ Frame.Args n at args ∷ frames) rest
  -- value to range: left operand and operator
  right : {ts mid rest : List Token} {frames : List Frame} {a : Term} (op : Oper) (token : Token) → IsOp op token
      → binary_rule op < 10 → need frames ≤ binary_rule op → Opens ts frames mid → Value (left_rule op) mid a (token ∷ rest)
      → Opens ts (Frame.Right op (place mid) a ∷ frames) rest
  -- not, unary: the operator
  under : {ts rest : List Token} {frames : List Frame} (op : Oper) (token : Token) → IsOp op token → prefix_rule op < 10
      → need frames ≤ prefix_rule op → Opens ts frames (token ∷ rest) → Opens ts (Frame.Under op token.from ∷ frames) rest
  -- primary: "("
  within : {ts rest : List Token} {frames : List Frame} (left : Token) → IsOp Oper.LeftParen left → need frames ≤ 10
      → Opens ts frames (left ∷ rest) → Opens ts (Frame.Paren left.from ∷ frames) rest
