-- The law that the count of operators is the grammar's: it counts, in what is derived, exactly the applications of the
-- rules from or to range with an operator.
use Rattle.std.specs.Prelude.{◌≡◌, ℕ, ◌+◌, ◌≤◌, List, true, false, cond}
use Rattle.token_scan.specs.declared.token.Token.{Token}
use Rattle.syntax_tree.specs.declared.tree.Term.{Term}
use Rattle.syntax_tree.specs.declared.tree.Call.{Call}
use Rattle.syntax_tree.specs.declared.tree.Arg.{Arg}
use Rattle.verb_syntax.specs.Grammar.{Value, Calling, Args, Argument, Whole, Calls}
use Rattle.verb_syntax.specs.Operators.{is_counted, operators_from}

-- how often a derivation applies a rule from or to range with an operator
abbrev mutual
  pub applied : {r : ℕ} {ts : List Token} {a : Term} {rest : List Token} → Value r ts a rest → ℕ
  applied (Value.next lt d) = applied d
  applied (Value.binary op token is lt x y) = applied x + applied y + cond (is_counted op) 1 0
  applied (Value.prefix op token is lt x) = applied x
  applied (Value.literal what token e) = 0
  applied (Value.name n token is) = 0
  applied (Value.call d) = applied_call d
  applied (Value.paren left right is_left is_right x) = applied x

  pub applied_call : {ts : List Token} {c : Call} {rest : List Token} → Calling ts c rest → ℕ
  applied_call (Calling.bare n token left right is is_left is_right) = 0
  applied_call (Calling.full n token left right is is_left is_right d) = applied_args d

  pub applied_args : {ts : List Token} {args : List Arg} {rest : List Token} → Args ts args rest → ℕ
  applied_args (Args.one d) = applied_argument d
  applied_args (Args.more comma is d e) = applied_args d + applied_argument e

  pub applied_argument : {ts : List Token} {x : Arg} {rest : List Token} → Argument ts x rest → ℕ
  applied_argument (Argument.plain d) = applied_whole d
  applied_argument (Argument.named label token set is is_set d) = applied_whole d

  pub applied_whole : {ts : List Token} {a : Term} {rest : List Token} → Whole ts a rest → ℕ
  applied_whole (Whole.value d) = applied d
  applied_whole (Whole.pipeline n token is d) = applied_calls d

  pub applied_calls : {ts : List Token} {calls : List Call} {rest : List Token} → Calls ts calls rest → ℕ
  applied_calls (Calls.first pipe is d) = applied_call d
  applied_calls (Calls.then pipe is d e) = applied_calls d + applied_call e

-- Within a call, a derived value adds so many to the count.
abbrev pub CountsOperators : Type 0
CountsOperators =
    (ts rest : List Token) (a : Term) (d : Whole ts a rest) (depth count : ℕ) → 1 ≤ depth
    → operators_from depth false count ts ≡ operators_from depth true (count + applied_whole d) rest
