-- What the grammar derives is read: where the tokens up to `rest` derive a tree, the steps from their first token come to
-- `rest` with that tree.
use Rattle.std.proofs.Common.{◌≡◌, ℕ, ◌<◌, ◌≤◌, List, ◌∷◌, true, Option, Some, refl, ◌∙◌, ap, arith}
use Rattle.token_scan.specs.declared.token.Token.{Token}
use Rattle.token_scan.specs.declared.token.TokenKind.{TokenKind}
use Rattle.token_scan.specs.declared.token.Oper.{Oper}
use Rattle.syntax_tree.specs.declared.tree.Term.{Term}
use Rattle.syntax_tree.specs.declared.tree.Call.{Call}
use Rattle.syntax_tree.specs.declared.tree.Arg.{Arg}
use Rattle.syntax_tree.specs.declared.tree.TermKind.{TermKind}
use Rattle.syntax_steps.specs.declared.frame.Frame.{Frame}
use Rattle.syntax_steps.specs.declared.state.Mode.{Mode}
use Rattle.syntax_steps.specs.declared.state.State.{State}
use Rattle.syntax_steps.specs.declared.state.Held.{Held}
use Rattle.syntax_tree.specs.Trees.{term_of, call_of}
use Rattle.syntax_steps.specs.Rules.{binary_rule, left_rule, prefix_rule}
use Rattle.verb_syntax.specs.Grammar.{IsOp, place}
use Rattle.syntax_steps.specs.Levels.{need, takes_call}
use Rattle.syntax_steps.specs.Machine.{◌>>=◌, state_of, want, held_of, pending_of, settle, held, placed, infix_step, prefix_step, operator_step, whole, argument, called, literal_in, oper_step, kind_step, step, run}
use Rattle.syntax_steps.proofs.Basics.{leb_true, ltb_true, no_some}
use Rattle.syntax_steps.proofs.Settles.{settle_held, settle_stays}

-- one step, and the steps behind it
pub run_step : (token : Token) (ts : List Token) (state next : State) → step token state ≡ Some next
    → run (token ∷ ts) state ≡ run ts next
run_step token ts state next e = ap (λ (o : Option State). o >>= λ n. run ts n) e

-- a step by the kind of the token
pub step_as : (token : Token) (what : TokenKind) (mode : Mode) (frames : List Frame) (next : Option State)
    → token.kind ≡ what → kind_step what token.from mode frames ≡ next → step token (state_of mode frames) ≡ next
step_as token what mode frames next e h = ap (λ (k : TokenKind). kind_step k token.from mode frames) e ∙ h

-- so many steps over, one more
pub run_on : (token : Token) (ts : List Token) (what : TokenKind) (mode : Mode) (frames : List Frame) (next : State)
    → token.kind ≡ what → kind_step what token.from mode frames ≡ Some next
    → run (token ∷ ts) (state_of mode frames) ≡ run ts next
run_on token ts what mode frames next e h =
    run_step token ts (state_of mode frames) next (step_as token what mode frames (Some next) e h)

-- What was read of an expression by a rule, at these unfinished rules.
pub record Reads (ts : List Token) (rest : List Token) (fs : List Frame) (rule : ℕ) (start : ℕ) (a : Term) : Type 0 where
  pub mode : Mode
  pub frames : List Frame
  pub runs : run ts (state_of Mode.Want fs) ≡ run rest (state_of mode frames)
  pub has : Held
  pub is_held : held mode frames ≡ Some has
  pub settles : settle_held rule has ≡ settle rule start a fs

-- What was read of an argument's value.
pub record ReadsWhole (ts : List Token) (rest : List Token) (fs : List Frame) (start : ℕ) (a : Term) : Type 0 where
  pub mode : Mode
  pub frames : List Frame
  pub runs : run ts (state_of Mode.Want fs) ≡ run rest (state_of mode frames)
  pub is_whole : whole mode frames ≡ Some (held_of start a fs)

-- What was read of arguments behind others of a call.
pub record ReadsArgs (ts : List Token) (rest : List Token) (name : List ℕ) (at : ℕ) (before args : List Arg) (fs : List Frame) : Type 0 where
  pub mode : Mode
  pub frames : List Frame
  pub runs : run ts (state_of Mode.Want (Frame.Args name at before ∷ fs)) ≡ run rest (state_of mode frames)
  pub has : Held
  pub is_whole : whole mode frames ≡ Some has
  pub is_argument : argument has.start has.term has.frames ≡ Some (pending_of name at args fs)

-- What was read of a call.
pub record ReadsCall (ts : List Token) (rest : List Token) (c : Call) : Type 0 where
  pub name : List ℕ
  pub at : ℕ
  pub args : List Arg
  pub is_call : c ≡ call_of name at args
  pub stands : place ts ≡ at
  pub runs : (fs : List Frame) → takes_call fs ≡ true → run ts (state_of Mode.Want fs) ≡ run rest (called name at args fs)

-- operators are read as operators
pub oper_binary : (op : Oper) (at : ℕ) (mode : Mode) (frames : List Frame) → binary_rule op < 10
    → oper_step op at mode frames ≡ operator_step op at mode frames
oper_binary Oper.LeftParen at mode frames h = absurd (omega arith)
oper_binary Oper.RightParen at mode frames h = absurd (omega arith)
oper_binary Oper.Comma at mode frames h = absurd (omega arith)
oper_binary Oper.Set at mode frames h = absurd (omega arith)
oper_binary Oper.BarPipe at mode frames h = absurd (omega arith)
oper_binary Oper.PercentPipe at mode frames h = absurd (omega arith)
oper_binary Oper.Assign at mode frames h = absurd (omega arith)
oper_binary Oper.Semicolon at mode frames h = absurd (omega arith)
oper_binary _ at mode frames h = refl

pub oper_prefix : (op : Oper) (at : ℕ) (frames : List Frame) → prefix_rule op < 10
    → oper_step op at Mode.Want frames ≡ prefix_step op at frames
oper_prefix Oper.Not at frames h = refl
oper_prefix Oper.Sub at frames h = refl
oper_prefix _ at frames h = absurd (omega arith)

-- where an expression is read, an operator is binary
pub operator_held : (op : Oper) (at : ℕ) (mode : Mode) (frames : List Frame) (h : Held) → held mode frames ≡ Some h
    → operator_step op at mode frames ≡ infix_step op mode frames
operator_held op at Mode.Want frames h e = no_some e
operator_held op at _ frames h e = refl

pub whole_held : (mode : Mode) (frames : List Frame) (h : Held) → held mode frames ≡ Some h
    → whole mode frames ≡ Some (settle_held 0 h)
whole_held (Mode.Piping table at calls) frames h e = no_some e
whole_held (Mode.Want) frames h e = no_some e
whole_held mode frames h e = ap (λ (o : Option Held). o >>= λ x. Some (settle 0 x.start x.term x.frames)) e

pub placed_held : (op : Oper) (start : ℕ) (a : Term) (frames : List Frame) → binary_rule op < 10 → need frames ≤ binary_rule op
    → placed op (held_of start a frames) ≡ want (Frame.Right op start a ∷ frames)
placed_held op start a frames lt le =
    rw (ltb_true (binary_rule op) 10 lt, leb_true (need frames) (binary_rule op) le) refl

pub infix_held : (op : Oper) (mode : Mode) (frames fs : List Frame) (h : Held) (start : ℕ) (a : Term) → binary_rule op < 10
    → need fs ≤ binary_rule op → held mode frames ≡ Some h → settle_held (left_rule op) h ≡ settle (left_rule op) start a fs
    → infix_step op mode frames ≡ want (Frame.Right op start a ∷ fs)
infix_held op mode frames fs h start a lt le e s =
    ap (λ (o : Option Held). o >>= λ x. placed op (settle (left_rule op) x.start x.term x.frames)) e
    ∙ (ap (placed op) (s ∙ settle_stays op start a fs lt le) ∙ placed_held op start a fs lt le)

-- a binary operator
pub step_binary : (op : Oper) (token : Token) (mode : Mode) (frames fs : List Frame) (h : Held) (start : ℕ) (a : Term)
    → IsOp op token → binary_rule op < 10 → need fs ≤ binary_rule op → held mode frames ≡ Some h
    → settle_held (left_rule op) h ≡ settle (left_rule op) start a fs
    → step token (state_of mode frames) ≡ want (Frame.Right op start a ∷ fs)
step_binary op token mode frames fs h start a is lt le e s =
    step_as token (TokenKind.Op op) mode frames (want (Frame.Right op start a ∷ fs)) is
    (oper_binary op token.from mode frames lt
    ∙ (operator_held op token.from mode frames h e ∙ infix_held op mode frames fs h start a lt le e s))

pub step_prefix : (op : Oper) (token : Token) (fs : List Frame) → IsOp op token → prefix_rule op < 10
    → need fs ≤ prefix_rule op → step token (state_of Mode.Want fs) ≡ want (Frame.Under op token.from ∷ fs)
step_prefix op token fs is lt le =
    step_as token (TokenKind.Op op) Mode.Want fs (want (Frame.Under op token.from ∷ fs)) is
    (oper_prefix op token.from fs lt
    ∙ rw (ltb_true (prefix_rule op) 10 lt, leb_true (need fs) (prefix_rule op) le) refl)

pub step_paren : (token : Token) (fs : List Frame) → IsOp Oper.LeftParen token → need fs ≤ 10
    → step token (state_of Mode.Want fs) ≡ want (Frame.Paren token.from ∷ fs)
step_paren token fs is le =
    step_as token (TokenKind.Op Oper.LeftParen) Mode.Want fs (want (Frame.Paren token.from ∷ fs)) is
    (rw (leb_true (need fs) 10 le) refl)

-- a literal, at the place of an operand
pub record Literals (what : TermKind) (k : TokenKind) (at : ℕ) (fs : List Frame) : Type 0 where
  pub mode : Mode
  pub steps : kind_step k at Mode.Want fs ≡ Some (state_of mode fs)
  pub is_held : held mode fs ≡ Some (held_of at (term_of at what) fs)

pub literal_as : (what other : TermKind) (at : ℕ) (fs : List Frame) → need fs ≤ 10 → other ≡ what
    → literal_in other at fs ≡ Some (state_of (Mode.Have at (term_of at what)) fs)
literal_as what other at fs le e = ap (λ (w : TermKind). literal_in w at fs) e ∙ rw (leb_true (need fs) 10 le) refl
