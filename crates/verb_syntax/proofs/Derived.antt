-- What the grammar derives is read, rule by rule.
use Rattle.std.proofs.Common.{◌≡◌, ℕ, suc, ◌<◌, ◌≤◌, List, [], ◌∷◌, ◌++◌, Bool, true, false, inl, inr, Option, Some, None, refl, sym, ◌∙◌, ap, ap₂, arith}
use Rattle.std.proofs.lemmas.Option.{same_Some}
use Rattle.token_scan.specs.declared.token.Token.{Token}
use Rattle.token_scan.specs.declared.token.TokenKind.{TokenKind}
use Rattle.token_scan.specs.declared.token.Oper.{Oper}
use Rattle.syntax_tree.specs.declared.tree.Term.{Term}
use Rattle.syntax_tree.specs.declared.tree.Call.{Call}
use Rattle.syntax_tree.specs.declared.tree.Arg.{Arg}
use Rattle.syntax_tree.specs.declared.tree.TermKind.{TermKind}
use Rattle.syntax_tree.specs.declared.tree.TermKind.TheVariants as kind
use Rattle.syntax_steps.specs.declared.frame.Frame.{Frame}
use Rattle.syntax_steps.specs.declared.state.Mode.{Mode}
use Rattle.syntax_steps.specs.declared.state.State.{State}
use Rattle.syntax_steps.specs.declared.state.Held.{Held}
use Rattle.syntax_steps.specs.declared.state.Pending.{Pending}
use Rattle.syntax_tree.specs.Trees.{term_of, name_term, binary_term, unary_term, call_term, pipe_term, call_of, arg_of, pipe_of}
use Rattle.syntax_steps.specs.Rules.{binary_rule, left_rule, prefix_rule}
use Rattle.verb_syntax.specs.Grammar.{IsOp, IsName, IsLabel, IsPipe, literal_of, place, Value, Calling, Args, Argument, Whole, Calls}
use Rattle.syntax_steps.specs.Levels.{need, takes_pipe, takes_call}
use Rattle.syntax_steps.specs.Machine.{◌>>=◌, state_of, want, held_of, pending_of, is_args, whole, argument, called, close_value, close_step, pipe_step, literal_in, kind_step, run}
use Rattle.syntax_steps.proofs.Basics.{leb_true, eqb_true, no_some}
use Rattle.syntax_steps.proofs.Settles.{left_ge, settle_held, settle_argument, settle_loosens}
use Rattle.verb_syntax.proofs.Complete.{run_step, run_on, Reads, ReadsWhole, ReadsArgs, ReadsCall, whole_held, step_binary, step_prefix, step_paren, Literals, literal_as}

text_reads : (what : TermKind) (text : List ℕ) (at : ℕ) (fs : List Frame) → need fs ≤ 10 → kind.Str text ≡ what
    → Literals what (TokenKind.Str text) at fs
text_reads what text at fs le e = go (is_args fs) refl
  where
    go : (b : Bool) → is_args fs ≡ b → Literals what (TokenKind.Str text) at fs
    go true is = record {
      mode = Mode.Texted text at;
      steps = rw is refl;
      is_held = ap (λ (w : TermKind). Some (held_of at (term_of at w) fs)) e;
    }
    go false is = record {
      mode = Mode.Have at (term_of at what);
      steps = rw is (literal_as what (kind.Str text) at fs le e);
      is_held = refl;
    }

plain_reads : (what other : TermKind) (k : TokenKind) (at : ℕ) (fs : List Frame) → need fs ≤ 10 → other ≡ what
    → kind_step k at Mode.Want fs ≡ literal_in other at fs → Literals what k at fs
plain_reads what other k at fs le e s = record {
  mode = Mode.Have at (term_of at what);
  steps = s ∙ literal_as what other at fs le e;
  is_held = refl;
}

literal_reads : (what : TermKind) (k : TokenKind) (at : ℕ) (fs : List Frame) → need fs ≤ 10 → literal_of k ≡ Some what
    → Literals what k at fs
literal_reads what (TokenKind.Whole number) at fs le e =
    plain_reads what (kind.Whole number) (TokenKind.Whole number) at fs le (same_Some (kind.Whole number) what e) refl
literal_reads what (TokenKind.Decimal number) at fs le e =
    plain_reads what (kind.Decimal number) (TokenKind.Decimal number) at fs le (same_Some (kind.Decimal number) what e) refl
literal_reads what (TokenKind.Word word) at fs le e =
    plain_reads what (kind.Word word) (TokenKind.Word word) at fs le (same_Some (kind.Word word) what e) refl
literal_reads what (TokenKind.Str text) at fs le e = text_reads what text at fs le (same_Some (kind.Str text) what e)
literal_reads what _ at fs le e = no_some e

pub may_call : (fs : List Frame) → need fs ≤ 10 → takes_call fs ≡ true
may_call [] h = absurd (omega arith)
may_call (Frame.Target name ∷ fs) h = absurd (omega arith)
may_call (Frame.Body assigns ∷ fs) h = absurd (omega arith)
may_call _ h = refl

pub may_pipe : (fs : List Frame) → need fs ≡ 0 → takes_pipe fs ≡ true
may_pipe [] h = absurd (omega arith)
may_pipe (Frame.Right op at a ∷ fs) h = absurd (omega arith)
may_pipe (Frame.Under Oper.Not at ∷ fs) h = absurd (omega arith)
may_pipe (Frame.Under Oper.Sub at ∷ fs) h = absurd (omega arith)
may_pipe (Frame.Under _ at ∷ fs) h = absurd (omega arith)
may_pipe (Frame.Paren at ∷ fs) h = absurd (omega arith)
may_pipe (Frame.Piped table at calls ∷ fs) h = absurd (omega arith)
may_pipe _ h = refl

-- behind a call at the place of an operand
pub called_have : (name : List ℕ) (at : ℕ) (args : List Arg) (fs : List Frame) → need fs ≤ 10
    → called name at args fs ≡ state_of (Mode.Have at (call_term at (call_of name at args))) fs
called_have name at args [] h = absurd (omega arith)
called_have name at args (Frame.Piped table b calls ∷ fs) h = absurd (omega arith)
called_have name at args _ h = refl

pub close_whole : (mode : Mode) (frames : List Frame) (h : Held) → whole mode frames ≡ Some h
    → close_step mode frames ≡ close_value h.start h.term h.frames
close_whole Mode.Want frames h e = no_some e
close_whole Mode.Package frames h e = no_some e
close_whole mode frames h e = ap (λ (o : Option Held). o >>= λ x. close_value x.start x.term x.frames) e

pub close_argument : (start : ℕ) (a : Term) (frames : List Frame) (p : Pending) → argument start a frames ≡ Some p
    → close_value start a frames ≡ Some (called p.name p.at p.args p.frames)
close_argument start a (Frame.Paren at ∷ frames) p e = no_some e
close_argument start a [] p e = no_some e
close_argument start a frames p e = ap (λ (o : Option Pending). o >>= λ x. Some (called x.name x.at x.args x.frames)) e

-- Each case of the proof below, from what the cases of its parts give.
case_next : {ts rest : List Token} {a : Term} (r : ℕ) (fs : List Frame) → Reads ts rest fs (suc r) (place ts) a
    → Reads ts rest fs r (place ts) a
case_next {ts} {rest} {a} r fs x = record {
  mode = x.mode;
  frames = x.frames;
  runs = x.runs;
  has = x.has;
  is_held = x.is_held;
  settles = settle_loosens r (suc r) (omega arith) x.has (place ts) a fs x.settles;
}

case_binary : {ts mid rest : List Token} {a b : Term} (op : Oper) (token : Token) (fs : List Frame) → IsOp op token
    → binary_rule op < 10 → need fs ≤ binary_rule op → Reads ts (token ∷ mid) fs (left_rule op) (place ts) a
    → Reads mid rest (Frame.Right op (place ts) a ∷ fs) (suc (binary_rule op)) (place mid) b
    → Reads ts rest fs (binary_rule op) (place ts) (binary_term (place ts) op a b)
case_binary {ts} {mid} {rest} {a} {b} op token fs is lt le x y = record {
  mode = y.mode;
  frames = y.frames;
  runs = x.runs ∙ (run_step token mid (state_of x.mode x.frames) (state_of Mode.Want (Frame.Right op (place ts) a ∷ fs))
      (step_binary op token x.mode x.frames fs x.has (place ts) a is lt le x.is_held x.settles) ∙ y.runs);
  has = y.has;
  is_held = y.is_held;
  settles = settle_loosens (binary_rule op) (suc (binary_rule op)) (omega arith) y.has (place mid) b (Frame.Right op (place ts) a ∷ fs) y.settles
      ∙ rw (leb_true (binary_rule op) (binary_rule op) (omega arith)) refl;
}

case_prefix : {ts rest : List Token} {a : Term} (op : Oper) (token : Token) (fs : List Frame) → IsOp op token
    → prefix_rule op < 10 → need fs ≤ prefix_rule op
    → Reads ts rest (Frame.Under op token.from ∷ fs) (prefix_rule op) (place ts) a
    → Reads (token ∷ ts) rest fs (prefix_rule op) token.from (unary_term token.from op a)
case_prefix {ts} {rest} {a} op token fs is lt le x = record {
  mode = x.mode;
  frames = x.frames;
  runs = run_step token ts (state_of Mode.Want fs) (state_of Mode.Want (Frame.Under op token.from ∷ fs))
      (step_prefix op token fs is lt le) ∙ x.runs;
  has = x.has;
  is_held = x.is_held;
  settles = x.settles ∙ rw (leb_true (prefix_rule op) (prefix_rule op) (omega arith)) refl;
}

case_literal : (rest : List Token) (what : TermKind) (token : Token) (fs : List Frame) → need fs ≤ 10
    → literal_of token.kind ≡ Some what → Reads (token ∷ rest) rest fs 10 token.from (term_of token.from what)
case_literal rest what token fs le e =
    let x = literal_reads what token.kind token.from fs le e in
    record {
      mode = x.mode;
      frames = fs;
      runs = run_on token rest token.kind Mode.Want fs (state_of x.mode fs) refl x.steps;
      has = held_of token.from (term_of token.from what) fs;
      is_held = x.is_held;
      settles = refl;
    }

case_name : (rest : List Token) (n : List ℕ) (token : Token) (fs : List Frame) → need fs ≤ 10 → IsName n token
    → Reads (token ∷ rest) rest fs 10 token.from (name_term token.from n)
case_name rest n token fs le is = record {
  mode = Mode.Named n token.from;
  frames = fs;
  runs = run_on token rest (TokenKind.Name n) Mode.Want fs (state_of (Mode.Named n token.from) fs) is refl;
  has = held_of token.from (name_term token.from n) fs;
  is_held = rw (leb_true (need fs) 10 le) refl;
  settles = refl;
}

case_call : {ts rest : List Token} {c : Call} (fs : List Frame) → need fs ≤ 10 → ReadsCall ts rest c
    → Reads ts rest fs 10 (place ts) (call_term (place ts) c)
case_call {ts} {rest} {c} fs le x = record {
  mode = Mode.Have (place ts) (call_term (place ts) c);
  frames = fs;
  runs = x.runs fs (may_call fs le) ∙ ap (run rest) (called_have x.name x.at x.args fs le
      ∙ ap₂ (λ (at : ℕ) (d : Call). state_of (Mode.Have at (call_term at d)) fs) (sym x.stands) (sym x.is_call));
  has = held_of (place ts) (call_term (place ts) c) fs;
  is_held = refl;
  settles = refl;
}

case_paren : {ts rest : List Token} {a : Term} (left right : Token) (fs : List Frame) → need fs ≤ 10
    → IsOp Oper.LeftParen left → IsOp Oper.RightParen right
    → Reads ts (right ∷ rest) (Frame.Paren left.from ∷ fs) 1 (place ts) a → Reads (left ∷ ts) rest fs 10 left.from a
case_paren {ts} {rest} {a} left right fs le is_left is_right x = record {
  mode = Mode.Have left.from a;
  frames = fs;
  runs = run_step left ts (state_of Mode.Want fs) (state_of Mode.Want (Frame.Paren left.from ∷ fs)) (step_paren left fs is_left le)
      ∙ (x.runs ∙ run_on right rest (TokenKind.Op Oper.RightParen) x.mode x.frames (state_of (Mode.Have left.from a) fs) is_right
      (close_whole x.mode x.frames (settle_held 0 x.has) (whole_held x.mode x.frames x.has x.is_held)
      ∙ ap (λ (h : Held). close_value h.start h.term h.frames)
      (settle_loosens 0 1 (omega arith) x.has (place ts) a (Frame.Paren left.from ∷ fs) x.settles)));
  has = held_of left.from a fs;
  is_held = refl;
  settles = refl;
}

-- behind a call's name and parenthesis
pub open_call : (n : List ℕ) (token left : Token) (ts : List Token) (fs : List Frame) → IsName n token → IsOp Oper.LeftParen left
    → takes_call fs ≡ true
    → run (token ∷ left ∷ ts) (state_of Mode.Want fs) ≡ run ts (state_of Mode.Want (Frame.Args n token.from [] ∷ fs))
open_call n token left ts fs is is_left takes =
    run_on token (left ∷ ts) (TokenKind.Name n) Mode.Want fs (state_of (Mode.Named n token.from) fs) is refl
    ∙ run_on left ts (TokenKind.Op Oper.LeftParen) (Mode.Named n token.from) fs
    (state_of Mode.Want (Frame.Args n token.from [] ∷ fs)) is_left (rw takes refl)

case_bare : (rest : List Token) (n : List ℕ) (token left right : Token) → IsName n token → IsOp Oper.LeftParen left
    → IsOp Oper.RightParen right → ReadsCall (token ∷ left ∷ right ∷ rest) rest (call_of n token.from [])
case_bare rest n token left right is is_left is_right = record {
  name = n;
  at = token.from;
  args = [];
  is_call = refl;
  stands = refl;
  runs = λ fs takes. open_call n token left (right ∷ rest) fs is is_left takes
      ∙ run_on right rest (TokenKind.Op Oper.RightParen) Mode.Want (Frame.Args n token.from [] ∷ fs) (called n token.from [] fs) is_right refl;
}

pub close_args : {ts rest : List Token} {args before : List Arg} (n : List ℕ) (at : ℕ) (right : Token) (fs : List Frame)
    → IsOp Oper.RightParen right → ReadsArgs ts (right ∷ rest) n at before args fs
    → run ts (state_of Mode.Want (Frame.Args n at before ∷ fs)) ≡ run rest (called n at args fs)
close_args {ts} {rest} {args} {before} n at right fs is x =
    x.runs ∙ run_on right rest (TokenKind.Op Oper.RightParen) x.mode x.frames (called n at args fs) is
    (close_whole x.mode x.frames x.has x.is_whole
    ∙ close_argument x.has.start x.has.term x.has.frames (pending_of n at args fs) x.is_argument)

case_full : {ts rest : List Token} {args : List Arg} (n : List ℕ) (token left right : Token) → IsName n token
    → IsOp Oper.LeftParen left → IsOp Oper.RightParen right
    → ((fs : List Frame) → ReadsArgs ts (right ∷ rest) n token.from [] args fs)
    → ReadsCall (token ∷ left ∷ ts) rest (call_of n token.from args)
case_full {ts} {rest} {args} n token left right is is_left is_right x = record {
  name = n;
  at = token.from;
  args = args;
  is_call = refl;
  stands = refl;
  runs = λ fs takes. open_call n token left ts fs is is_left takes ∙ close_args n token.from right fs is_right (x fs);
}

case_more : {ts mid rest : List Token} {args : List Arg} (x : Arg) (n : List ℕ) (at : ℕ) (comma : Token) (fs : List Frame)
    → IsOp Oper.Comma comma → ReadsArgs ts (comma ∷ mid) n at [] args fs → ReadsArgs mid rest n at args (args ++ x ∷ []) fs
    → ReadsArgs ts rest n at [] (args ++ x ∷ []) fs
case_more {ts} {mid} {rest} {args} x n at comma fs is y z = record {
  mode = z.mode;
  frames = z.frames;
  runs = y.runs ∙ (run_on comma mid (TokenKind.Op Oper.Comma) y.mode y.frames (state_of Mode.Want (Frame.Args n at args ∷ fs)) is
      (ap (λ (o : Option Held). o >>= λ h. argument h.start h.term h.frames >>= λ p. want (Frame.Args p.name p.at p.args ∷ p.frames)) y.is_whole
      ∙ ap (λ (o : Option Pending). o >>= λ p. want (Frame.Args p.name p.at p.args ∷ p.frames)) y.is_argument) ∙ z.runs);
  has = z.has;
  is_whole = z.is_whole;
  is_argument = z.is_argument;
}

case_plain : {ts rest : List Token} {a : Term} (n : List ℕ) (at : ℕ) (before : List Arg) (fs : List Frame)
    → ReadsWhole ts rest (Frame.Args n at before ∷ fs) (place ts) a
    → ReadsArgs ts rest n at before (before ++ arg_of None (place ts) a ∷ []) fs
case_plain {ts} {rest} {a} n at before fs x = record {
  mode = x.mode;
  frames = x.frames;
  runs = x.runs;
  has = held_of (place ts) a (Frame.Args n at before ∷ fs);
  is_whole = x.is_whole;
  is_argument = refl;
}

pub read_label : (label : List ℕ) (token set : Token) (ts : List Token) (n : List ℕ) (at : ℕ) (before : List Arg) (fs : List Frame)
    → IsLabel label token → IsOp Oper.Set set
    → run (token ∷ set ∷ ts) (state_of Mode.Want (Frame.Args n at before ∷ fs))
    ≡ run ts (state_of Mode.Want (Frame.Label label token.from ∷ Frame.Args n at before ∷ fs))
read_label label token set ts n at before fs (inl is) is_set =
    run_on token (set ∷ ts) (TokenKind.Name label) Mode.Want (Frame.Args n at before ∷ fs)
    (state_of (Mode.Named label token.from) (Frame.Args n at before ∷ fs)) is refl
    ∙ run_on set ts (TokenKind.Op Oper.Set) (Mode.Named label token.from) (Frame.Args n at before ∷ fs)
    (state_of Mode.Want (Frame.Label label token.from ∷ Frame.Args n at before ∷ fs)) is_set refl
read_label label token set ts n at before fs (inr is) is_set =
    run_on token (set ∷ ts) (TokenKind.Str label) Mode.Want (Frame.Args n at before ∷ fs)
    (state_of (Mode.Texted label token.from) (Frame.Args n at before ∷ fs)) is refl
    ∙ run_on set ts (TokenKind.Op Oper.Set) (Mode.Texted label token.from) (Frame.Args n at before ∷ fs)
    (state_of Mode.Want (Frame.Label label token.from ∷ Frame.Args n at before ∷ fs)) is_set refl

case_named : {ts rest : List Token} {a : Term} (label : List ℕ) (token set : Token) (n : List ℕ) (at : ℕ) (before : List Arg)
    (fs : List Frame) → IsLabel label token → IsOp Oper.Set set
    → ReadsWhole ts rest (Frame.Label label token.from ∷ Frame.Args n at before ∷ fs) (place ts) a
    → ReadsArgs (token ∷ set ∷ ts) rest n at before (before ++ arg_of (Some label) token.from a ∷ []) fs
case_named {ts} {rest} {a} label token set n at before fs is is_set x = record {
  mode = x.mode;
  frames = x.frames;
  runs = read_label label token set ts n at before fs is is_set ∙ x.runs;
  has = held_of (place ts) a (Frame.Label label token.from ∷ Frame.Args n at before ∷ fs);
  is_whole = x.is_whole;
  is_argument = refl;
}

case_value : {ts rest : List Token} {a : Term} (fs : List Frame) → need fs ≡ 0 → Reads ts rest fs 0 (place ts) a
    → ReadsWhole ts rest fs (place ts) a
case_value {ts} {rest} {a} fs z x = record {
  mode = x.mode;
  frames = x.frames;
  runs = x.runs;
  is_whole = whole_held x.mode x.frames x.has x.is_held ∙ ap (λ (h : Held). Some h) (x.settles ∙ settle_argument (place ts) a fs z);
}

-- behind a pipeline's table and calls
abbrev pub ReadsCalls : List Token → List Token → List Call → Type 0
ReadsCalls ts rest calls =
    (n : List ℕ) (at : ℕ) (fs : List Frame) → takes_pipe fs ≡ true
    → run ts (state_of (Mode.Named n at) fs) ≡ run rest (state_of (Mode.Piping n at calls) fs)

case_pipeline : {ts rest : List Token} (calls : List Call) (n : List ℕ) (token : Token) (fs : List Frame) → need fs ≡ 0
    → IsName n token → ReadsCalls ts rest calls
    → ReadsWhole (token ∷ ts) rest fs token.from (pipe_term token.from (pipe_of n token.from calls))
case_pipeline {ts} {rest} calls n token fs z is x = record {
  mode = Mode.Piping n token.from calls;
  frames = fs;
  runs = run_on token ts (TokenKind.Name n) Mode.Want fs (state_of (Mode.Named n token.from) fs) is refl
      ∙ x n token.from fs (may_pipe fs z);
  is_whole = rw (eqb_true (need fs) 0 z) refl;
}

pub pipe_on : (pipe : Token) (ts : List Token) (mode : Mode) (fs : List Frame) (next : State) → IsPipe pipe
    → pipe_step mode fs ≡ Some next → run (pipe ∷ ts) (state_of mode fs) ≡ run ts next
pipe_on pipe ts mode fs next (inl is) e = run_on pipe ts (TokenKind.Op Oper.BarPipe) mode fs next is e
pipe_on pipe ts mode fs next (inr is) e = run_on pipe ts (TokenKind.Op Oper.PercentPipe) mode fs next is e

case_first : {ts rest : List Token} {c : Call} (pipe : Token) → IsPipe pipe → ReadsCall ts rest c
    → ReadsCalls (pipe ∷ ts) rest (c ∷ [])
case_first {ts} {rest} {c} pipe is x n at fs takes =
    pipe_on pipe ts (Mode.Named n at) fs (state_of Mode.Want (Frame.Piped n at [] ∷ fs)) is (rw takes refl)
    ∙ (x.runs (Frame.Piped n at [] ∷ fs) refl
    ∙ ap (λ (d : Call). run rest (state_of (Mode.Piping n at (d ∷ [])) fs)) (sym x.is_call))

case_then : {mid rest : List Token} {c : Call} (ts : List Token) (calls : List Call) (pipe : Token) → IsPipe pipe
    → ReadsCalls ts (pipe ∷ mid) calls → ReadsCall mid rest c → ReadsCalls ts rest (calls ++ c ∷ [])
case_then {mid} {rest} {c} ts calls pipe is y x n at fs takes =
    y n at fs takes ∙ (pipe_on pipe mid (Mode.Piping n at calls) fs (state_of Mode.Want (Frame.Piped n at calls ∷ fs)) is refl
    ∙ (x.runs (Frame.Piped n at calls ∷ fs) refl
    ∙ ap (λ (d : Call). run rest (state_of (Mode.Piping n at (calls ++ d ∷ [])) fs)) (sym x.is_call)))

mutual
  pub value_read : {r : ℕ} {ts : List Token} {a : Term} {rest : List Token} → Value r ts a rest → (fs : List Frame)
      → need fs ≤ r → Reads ts rest fs r (place ts) a
  value_read (Value.next {r = r} lt d) fs le = case_next r fs (value_read d fs (omega arith))
  value_read (Value.binary {ts = ts} {a = a} op token is lt x y) fs le =
      case_binary op token fs is lt le (value_read x fs (omega (arith, left_ge op)))
      (value_read y (Frame.Right op (place ts) a ∷ fs) (omega arith))
  value_read (Value.prefix op token is lt x) fs le =
      case_prefix op token fs is lt le (value_read x (Frame.Under op token.from ∷ fs) (omega arith))
  value_read (Value.literal {rest = rest} what token e) fs le = case_literal rest what token fs le e
  value_read (Value.name {rest = rest} n token is) fs le = case_name rest n token fs le is
  value_read (Value.call d) fs le = case_call fs le (calling_read d)
  value_read (Value.paren left right is_left is_right x) fs le =
      case_paren left right fs le is_left is_right (value_read x (Frame.Paren left.from ∷ fs) (omega arith))

  pub calling_read : {ts : List Token} {c : Call} {rest : List Token} → Calling ts c rest → ReadsCall ts rest c
  calling_read (Calling.bare {rest = rest} n token left right is is_left is_right) =
      case_bare rest n token left right is is_left is_right
  calling_read (Calling.full n token left right is is_left is_right d) =
      case_full n token left right is is_left is_right (λ fs. args_read d n token.from fs)

  pub args_read : {ts : List Token} {args : List Arg} {rest : List Token} → Args ts args rest → (n : List ℕ) (at : ℕ)
      (fs : List Frame) → ReadsArgs ts rest n at [] args fs
  args_read (Args.one d) n at fs = argument_read d n at [] fs
  args_read (Args.more {args = args} comma is d e) n at fs =
      case_more _ n at comma fs is (args_read d n at fs) (argument_read e n at args fs)

  pub argument_read : {ts : List Token} {x : Arg} {rest : List Token} → Argument ts x rest → (n : List ℕ) (at : ℕ)
      (before : List Arg) (fs : List Frame) → ReadsArgs ts rest n at before (before ++ x ∷ []) fs
  argument_read (Argument.plain d) n at before fs =
      case_plain n at before fs (whole_read d (Frame.Args n at before ∷ fs) refl)
  argument_read (Argument.named label token set is is_set d) n at before fs =
      case_named label token set n at before fs is is_set
      (whole_read d (Frame.Label label token.from ∷ Frame.Args n at before ∷ fs) refl)

  pub whole_read : {ts : List Token} {a : Term} {rest : List Token} → Whole ts a rest → (fs : List Frame) → need fs ≡ 0
      → ReadsWhole ts rest fs (place ts) a
  whole_read (Whole.value d) fs z = case_value fs z (value_read d fs (omega arith))
  whole_read (Whole.pipeline {calls = calls} n token is d) fs z = case_pipeline calls n token fs z is (calls_read d)

  pub calls_read : {ts : List Token} {calls : List Call} {rest : List Token} → Calls ts calls rest → ReadsCalls ts rest calls
  calls_read (Calls.first pipe is d) = case_first pipe is (calling_read d)
  calls_read (Calls.then {ts = ts} {calls = calls} pipe is d e) = case_then ts calls pipe is (calls_read d) (calling_read e)
