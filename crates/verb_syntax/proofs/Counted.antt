-- The count of operators is the grammar's.
use Rattle.std.proofs.Common.{◌≡◌, ℕ, suc, ◌+◌, ◌-◌, ◌<◌, ◌≤◌, List, ◌∷◌, Bool, true, false, cond, eqb, inl, inr, Some, refl, ◌∙◌, ap, arith}
use Rattle.std.proofs.lemmas.Bool.Decides.{nat_tests}
use Rattle.token_scan.specs.declared.token.Token.{Token}
use Rattle.token_scan.specs.declared.token.TokenKind.{TokenKind}
use Rattle.token_scan.specs.declared.token.Oper.{Oper}
use Rattle.syntax_tree.specs.declared.tree.Term.{Term}
use Rattle.syntax_tree.specs.declared.tree.Call.{Call}
use Rattle.syntax_tree.specs.declared.tree.Arg.{Arg}
use Rattle.syntax_tree.specs.declared.tree.TermKind.{TermKind}
use Rattle.syntax_steps.specs.Rules.{binary_rule, prefix_rule}
use Rattle.verb_syntax.specs.Grammar.{IsOp, IsLabel, IsPipe, literal_of, Value, Calling, Args, Argument, Whole, Calls}
use Rattle.verb_syntax.specs.Lines.{deeper}
use Rattle.verb_syntax.specs.Operators.{ends_operand, is_counted, count_at, operators_from}
use Rattle.verb_syntax.specs.Counting.{applied, applied_call, applied_args, applied_argument, applied_whole, applied_calls, CountsOperators}
use Rattle.syntax_steps.proofs.Basics.{no_some}

not_zero : (n : ℕ) → 1 ≤ n → eqb n 0 ≡ false
not_zero n h = grind (arith, nat_tests)

not_one : (n : ℕ) → 2 ≤ n → eqb n 1 ≡ false
not_one n h = grind (arith, nat_tests)

one_up : (n : ℕ) → suc n - 1 ≡ n
one_up n = omega arith

-- what is counted behind one token
over : (token : Token) (what : TokenKind) (ts : List Token) (depth : ℕ) (whole : Bool) (count : ℕ) → token.kind ≡ what
    → operators_from depth whole count (token ∷ ts) ≡ operators_from (deeper what depth) (ends_operand what) (count_at what depth whole count) ts
over token what ts depth whole count e =
    ap (λ (k : TokenKind). operators_from (deeper k depth) (ends_operand k) (count_at k depth whole count) ts) e

over_left : (token : Token) (ts : List Token) (depth : ℕ) (whole : Bool) (count : ℕ) → IsOp Oper.LeftParen token → 1 ≤ depth
    → operators_from depth whole count (token ∷ ts) ≡ operators_from (suc depth) false count ts
over_left token ts depth whole count is h =
    over token (TokenKind.Op Oper.LeftParen) ts depth whole count is
    ∙ ap (λ (b : Bool). operators_from (suc depth) false (cond b 0 count) ts) (not_zero depth h)

over_right : (token : Token) (ts : List Token) (depth : ℕ) (whole : Bool) (count : ℕ) → IsOp Oper.RightParen token
    → operators_from (suc depth) whole count (token ∷ ts) ≡ operators_from depth true count ts
over_right token ts depth whole count is =
    over token (TokenKind.Op Oper.RightParen) ts (suc depth) whole count is ∙ go whole
  where
    go : (w : Bool) → operators_from (suc depth - 1) true (count_at (TokenKind.Op Oper.RightParen) (suc depth) w count) ts ≡ operators_from depth true count ts
    go true = ap (λ (n : ℕ). operators_from n true count ts) (one_up depth)
    go false = ap (λ (n : ℕ). operators_from n true count ts) (one_up depth)

over_comma : (token : Token) (ts : List Token) (depth : ℕ) (whole : Bool) (count : ℕ) → IsOp Oper.Comma token → 2 ≤ depth
    → operators_from depth whole count (token ∷ ts) ≡ operators_from depth false count ts
over_comma token ts depth whole count is h =
    over token (TokenKind.Op Oper.Comma) ts depth whole count is
    ∙ ap (λ (b : Bool). operators_from depth false (cond b 0 count) ts) (not_one depth h)

binary_counts : (op : Oper) (ts : List Token) (depth count : ℕ) → binary_rule op < 10
    → operators_from (deeper (TokenKind.Op op) depth) (ends_operand (TokenKind.Op op)) (count_at (TokenKind.Op op) depth true count) ts
    ≡ operators_from depth false (cond (is_counted op) (suc count) count) ts
binary_counts Oper.LeftParen ts depth count h = absurd (omega arith)
binary_counts Oper.RightParen ts depth count h = absurd (omega arith)
binary_counts Oper.Comma ts depth count h = absurd (omega arith)
binary_counts _ ts depth count h = refl

prefix_counts : (op : Oper) (ts : List Token) (depth count : ℕ) → prefix_rule op < 10
    → operators_from (deeper (TokenKind.Op op) depth) (ends_operand (TokenKind.Op op)) (count_at (TokenKind.Op op) depth false count) ts
    ≡ operators_from depth false count ts
prefix_counts Oper.Not ts depth count h = refl
prefix_counts Oper.Sub ts depth count h = refl
prefix_counts _ ts depth count h = absurd (omega arith)

literal_counts : (k : TokenKind) (what : TermKind) (ts : List Token) (depth count : ℕ) → literal_of k ≡ Some what
    → operators_from (deeper k depth) (ends_operand k) (count_at k depth false count) ts ≡ operators_from depth true (count + 0) ts
literal_counts (TokenKind.Whole n) what ts depth count e = ap (λ (m : ℕ). operators_from depth true m ts) (omega arith)
literal_counts (TokenKind.Decimal n) what ts depth count e = ap (λ (m : ℕ). operators_from depth true m ts) (omega arith)
literal_counts (TokenKind.Str n) what ts depth count e = ap (λ (m : ℕ). operators_from depth true m ts) (omega arith)
literal_counts (TokenKind.Word n) what ts depth count e = ap (λ (m : ℕ). operators_from depth true m ts) (omega arith)
literal_counts _ what ts depth count e = no_some e

label_counts : (label : List ℕ) (token set : Token) (ts : List Token) (depth count : ℕ) → IsLabel label token → IsOp Oper.Set set
    → operators_from depth false count (token ∷ set ∷ ts) ≡ operators_from depth false count ts
label_counts label token set ts depth count (inl is) is_set =
    over token (TokenKind.Name label) (set ∷ ts) depth false count is ∙ over set (TokenKind.Op Oper.Set) ts depth true count is_set
label_counts label token set ts depth count (inr is) is_set =
    over token (TokenKind.Str label) (set ∷ ts) depth false count is ∙ over set (TokenKind.Op Oper.Set) ts depth true count is_set

pipe_counts : (pipe : Token) (ts : List Token) (depth count : ℕ) → IsPipe pipe
    → operators_from depth true count (pipe ∷ ts) ≡ operators_from depth false count ts
pipe_counts pipe ts depth count (inl is) = over pipe (TokenKind.Op Oper.BarPipe) ts depth true count is
pipe_counts pipe ts depth count (inr is) = over pipe (TokenKind.Op Oper.PercentPipe) ts depth true count is

one_more : (b : Bool) (count x y : ℕ) → cond b (suc (count + x)) (count + x) + y ≡ count + (x + y + cond b 1 0)
one_more true count x y = omega arith
one_more false count x y = omega arith

then_more : (depth count x y : ℕ) (ts : List Token) → operators_from depth true (count + x + y) ts ≡ operators_from depth true (count + (x + y)) ts
then_more depth count x y ts = ap (λ (m : ℕ). operators_from depth true m ts) (omega arith)

nothing_more : (depth count : ℕ) (ts : List Token) → operators_from depth true count ts ≡ operators_from depth true (count + 0) ts
nothing_more depth count ts = ap (λ (m : ℕ). operators_from depth true m ts) (omega arith)

mutual
  value_counts : {r : ℕ} {ts : List Token} {a : Term} {rest : List Token} (d : Value r ts a rest) (depth count : ℕ) → 1 ≤ depth
      → operators_from depth false count ts ≡ operators_from depth true (count + applied d) rest
  value_counts (Value.next lt d) depth count h = value_counts d depth count h
  value_counts (Value.binary {mid = mid} {rest = rest} op token is lt x y) depth count h =
      value_counts x depth count h
      ∙ (over token (TokenKind.Op op) mid depth true (count + applied x) is
      ∙ (binary_counts op mid depth (count + applied x) lt
      ∙ (value_counts y depth (cond (is_counted op) (suc (count + applied x)) (count + applied x)) h
      ∙ ap (λ (m : ℕ). operators_from depth true m rest) (one_more (is_counted op) count (applied x) (applied y)))))
  value_counts (Value.prefix {ts = ts} op token is lt x) depth count h =
      over token (TokenKind.Op op) ts depth false count is ∙ (prefix_counts op ts depth count lt ∙ value_counts x depth count h)
  value_counts (Value.literal {rest = rest} what token e) depth count h = literal_counts token.kind what rest depth count e
  value_counts (Value.name {rest = rest} n token is) depth count h =
      over token (TokenKind.Name n) rest depth false count is ∙ nothing_more depth count rest
  value_counts (Value.call d) depth count h = call_counts d depth count h
  value_counts (Value.paren {ts = ts} {rest = rest} left right is_left is_right x) depth count h =
      over_left left ts depth false count is_left h
      ∙ (value_counts x (suc depth) count (omega arith) ∙ over_right right rest depth true (count + applied x) is_right)

  call_counts : {ts : List Token} {c : Call} {rest : List Token} (d : Calling ts c rest) (depth count : ℕ) → 1 ≤ depth
      → operators_from depth false count ts ≡ operators_from depth true (count + applied_call d) rest
  call_counts (Calling.bare {rest = rest} n token left right is is_left is_right) depth count h =
      over token (TokenKind.Name n) (left ∷ right ∷ rest) depth false count is
      ∙ (over_left left (right ∷ rest) depth true count is_left h
      ∙ (over_right right rest depth false count is_right ∙ nothing_more depth count rest))
  call_counts (Calling.full {ts = ts} {rest = rest} n token left right is is_left is_right d) depth count h =
      over token (TokenKind.Name n) (left ∷ ts) depth false count is
      ∙ (over_left left ts depth true count is_left h
      ∙ (args_counts d (suc depth) count (omega arith) ∙ over_right right rest depth true (count + applied_args d) is_right))

  args_counts : {ts : List Token} {args : List Arg} {rest : List Token} (d : Args ts args rest) (depth count : ℕ) → 2 ≤ depth
      → operators_from depth false count ts ≡ operators_from depth true (count + applied_args d) rest
  args_counts (Args.one d) depth count h = argument_counts d depth count (omega arith)
  args_counts (Args.more {mid = mid} {rest = rest} comma is d e) depth count h =
      args_counts d depth count h
      ∙ (over_comma comma mid depth true (count + applied_args d) is h
      ∙ (argument_counts e depth (count + applied_args d) (omega arith) ∙ then_more depth count (applied_args d) (applied_argument e) rest))

  argument_counts : {ts : List Token} {x : Arg} {rest : List Token} (d : Argument ts x rest) (depth count : ℕ) → 1 ≤ depth
      → operators_from depth false count ts ≡ operators_from depth true (count + applied_argument d) rest
  argument_counts (Argument.plain d) depth count h = whole_counts d depth count h
  argument_counts (Argument.named {ts = ts} label token set is is_set d) depth count h =
      label_counts label token set ts depth count is is_set ∙ whole_counts d depth count h

  whole_counts : {ts : List Token} {a : Term} {rest : List Token} (d : Whole ts a rest) (depth count : ℕ) → 1 ≤ depth
      → operators_from depth false count ts ≡ operators_from depth true (count + applied_whole d) rest
  whole_counts (Whole.value d) depth count h = value_counts d depth count h
  whole_counts (Whole.pipeline {ts = ts} n token is d) depth count h =
      over token (TokenKind.Name n) ts depth false count is ∙ calls_counts d depth count h

  calls_counts : {ts : List Token} {calls : List Call} {rest : List Token} (d : Calls ts calls rest) (depth count : ℕ) → 1 ≤ depth
      → operators_from depth true count ts ≡ operators_from depth true (count + applied_calls d) rest
  calls_counts (Calls.first {ts = ts} pipe is d) depth count h =
      pipe_counts pipe ts depth count is ∙ call_counts d depth count h
  calls_counts (Calls.then {mid = mid} {rest = rest} pipe is d e) depth count h =
      calls_counts d depth count h
      ∙ (pipe_counts pipe mid depth (count + applied_calls d) is
      ∙ (call_counts e depth (count + applied_calls d) h ∙ then_more depth count (applied_calls d) (applied_call e) rest))

pub counts_operators : CountsOperators
counts_operators ts rest a d depth count h = whole_counts d depth count h
