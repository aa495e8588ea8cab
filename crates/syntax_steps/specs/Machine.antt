-- How `parse` goes on with one token: what the private functions of the crate give. The grammar knows nothing of this;
-- that both say the same is proved.
use Rattle.std.specs.Prelude.{ℕ, List, [], ◌∷◌, ◌++◌, Option, Some, None, Bool, true, false, cond, ◌==◌, ◌&&◌, nat_le, nat_lt, codes}
use Rattle.std.specs.Option.{option_and_then}
use Rattle.std.specs.Str.{bytes_eq}
use Rattle.token_scan.specs.declared.token.Token.{Token}
use Rattle.token_scan.specs.declared.token.TokenKind.{TokenKind}
use Rattle.token_scan.specs.declared.token.Oper.{Oper}
use Rattle.syntax_tree.specs.declared.tree.Term.{Term}
use Rattle.syntax_tree.specs.declared.tree.Pipe.{Pipe}
use Rattle.syntax_tree.specs.declared.tree.Arg.{Arg}
use Rattle.syntax_tree.specs.declared.tree.Script.{Script}
use Rattle.syntax_tree.specs.declared.tree.TermKind.{TermKind}
use Rattle.syntax_tree.specs.declared.tree.TermKind.TheVariants as kind
use Rattle.syntax_steps.specs.declared.frame.Frame.{Frame}
use Rattle.syntax_steps.specs.declared.state.Mode.{Mode}
use Rattle.syntax_steps.specs.declared.state.State.{State}
use Rattle.syntax_steps.specs.declared.state.Held.{Held}
use Rattle.syntax_steps.specs.declared.state.Pending.{Pending}
use Rattle.syntax_tree.specs.Trees.{term_of, name_term, text_term, binary_term, unary_term, call_term, pipe_term, call_of, arg_of, pipe_of}
use Rattle.syntax_steps.specs.Rules.{binary_rule, left_rule, prefix_rule, is_package}
use Rattle.syntax_steps.specs.Levels.{need, takes_pipe, takes_call}

infixl 10 ◌>>=◌
abbrev pub ◌>>=◌ : {A B : Type 0} → Option A → (A → Option B) → Option B
o >>= f = option_and_then f o

abbrev pub state_of : Mode → List Frame → State
state_of mode frames = record { mode = mode; frames = frames }

abbrev pub want : List Frame → Option State
want frames = Some (state_of Mode.Want frames)

abbrev pub held_of : ℕ → Term → List Frame → Held
held_of start term frames = record { start = start; term = term; frames = frames }

abbrev pub pending_of : List ℕ → ℕ → List Arg → List Frame → Pending
pending_of name at args frames = record { name = name; at = at; args = args; frames = frames }

-- the expression that is read, with the operators of this rule and of tighter ones before it applied to it
abbrev pub settle : ℕ → ℕ → Term → List Frame → Held
settle rule start term (Frame.Right op at left ∷ frames) =
    cond (nat_le rule (binary_rule op)) (settle rule at (binary_term at op left term) frames)
    (held_of start term (Frame.Right op at left ∷ frames))
settle rule start term (Frame.Under op at ∷ frames) =
    cond (nat_le rule (prefix_rule op)) (settle rule at (unary_term at op term) frames)
    (held_of start term (Frame.Under op at ∷ frames))
settle rule start term frames = held_of start term frames

-- the expression that is read
abbrev pub held : Mode → List Frame → Option Held
held (Mode.Named name at) frames = cond (nat_le (need frames) 10) (Some (held_of at (name_term at name) frames)) None
held (Mode.Texted text at) frames = Some (held_of at (text_term at text) frames)
held (Mode.Have start term) frames = Some (held_of start term frames)
held _ frames = None

-- behind a binary operator
abbrev pub placed : Oper → Held → Option State
placed op h =
    cond (nat_lt (binary_rule op) 10 && nat_le (need h.frames) (binary_rule op))
    (want (Frame.Right op h.start h.term ∷ h.frames)) None

abbrev pub infix_step : Oper → Mode → List Frame → Option State
infix_step op mode frames = held mode frames >>= λ h. placed op (settle (left_rule op) h.start h.term h.frames)

-- behind an operator before its operand
abbrev pub prefix_step : Oper → ℕ → List Frame → Option State
prefix_step op at frames =
    cond (nat_lt (prefix_rule op) 10 && nat_le (need frames) (prefix_rule op)) (want (Frame.Under op at ∷ frames)) None

abbrev pub operator_step : Oper → ℕ → Mode → List Frame → Option State
operator_step op at Mode.Want frames = prefix_step op at frames
operator_step op at mode frames = infix_step op mode frames

abbrev pub is_body : List Frame → Bool
is_body (Frame.Body assigns ∷ frames) = true
is_body _ = false

abbrev pub is_args : List Frame → Bool
is_args (Frame.Args name at args ∷ frames) = true
is_args _ = false

-- behind `(`
abbrev pub open_step : ℕ → Mode → List Frame → Option State
open_step at Mode.Want frames = cond (nat_le (need frames) 10) (want (Frame.Paren at ∷ frames)) None
open_step at (Mode.Named name begin) frames =
    cond (takes_call frames) (want (Frame.Args name begin [] ∷ frames))
    (cond (is_body frames && bytes_eq name (codes "library")) (Some (state_of Mode.Library frames)) None)
open_step at _ frames = None

-- the value of an argument, or an expression in parentheses, that is read whole
abbrev pub whole : Mode → List Frame → Option Held
whole (Mode.Piping table at calls) frames =
    cond (need frames == 0) (Some (held_of at (pipe_term at (pipe_of table at calls)) frames)) None
whole mode frames = held mode frames >>= λ h. Some (settle 0 h.start h.term h.frames)

-- the call that an argument with this value belongs to, with this argument
abbrev pub argument : ℕ → Term → List Frame → Option Pending
argument start term (Frame.Args name at args ∷ frames) =
    Some (pending_of name at (args ++ arg_of None start term ∷ []) frames)
argument start term (Frame.Label label begin ∷ Frame.Args name at args ∷ frames) =
    Some (pending_of name at (args ++ arg_of (Some label) begin term ∷ []) frames)
argument start term _ = None

-- behind `,`
abbrev pub comma_step : Mode → List Frame → Option State
comma_step mode frames =
    whole mode frames >>= λ h. argument h.start h.term h.frames >>= λ p. want (Frame.Args p.name p.at p.args ∷ p.frames)

-- behind a call
abbrev pub called : List ℕ → ℕ → List Arg → List Frame → State
called name at args (Frame.Piped table begin calls ∷ frames) =
    state_of (Mode.Piping table begin (calls ++ call_of name at args ∷ [])) frames
called name at args frames = state_of (Mode.Have at (call_term at (call_of name at args))) frames

-- behind `)`, where nothing stands since `(` or `,`
abbrev pub close_bare : List Frame → Option State
close_bare (Frame.Args name at [] ∷ frames) = Some (called name at [] frames)
close_bare _ = None

-- behind `)` at a value
abbrev pub close_value : ℕ → Term → List Frame → Option State
close_value start term (Frame.Paren at ∷ frames) = Some (state_of (Mode.Have at term) frames)
close_value start term frames = argument start term frames >>= λ p. Some (called p.name p.at p.args p.frames)

-- behind `)`
abbrev pub close_step : Mode → List Frame → Option State
close_step Mode.Want frames = close_bare frames
close_step Mode.Package frames = Some (state_of Mode.Loaded frames)
close_step mode frames = whole mode frames >>= λ h. close_value h.start h.term h.frames

abbrev pub labels : List ℕ → ℕ → List Frame → Option State
labels label at frames = cond (is_args frames) (want (Frame.Label label at ∷ frames)) None

-- behind `=`
abbrev pub label_step : Mode → List Frame → Option State
label_step (Mode.Named name at) frames = labels name at frames
label_step (Mode.Texted text at) frames = labels text at frames
label_step _ frames = None

-- behind a pipe
abbrev pub pipe_step : Mode → List Frame → Option State
pipe_step (Mode.Named name at) frames = cond (takes_pipe frames) (want (Frame.Piped name at [] ∷ frames)) None
pipe_step (Mode.Piping table at calls) frames = want (Frame.Piped table at calls ∷ frames)
pipe_step _ frames = None

-- behind `<-`
abbrev pub assign_step : Mode → List Frame → Option State
assign_step (Mode.Named name at) frames = cond (is_body frames) (want (Frame.Target name ∷ frames)) None
assign_step _ frames = None

-- the pipeline that is read
abbrev pub pipe_held : Mode → Option Pipe
pipe_held (Mode.Named name at) = Some (pipe_of name at [])
pipe_held (Mode.Piping table at calls) = Some (pipe_of table at calls)
pipe_held (Mode.Last pipe) = Some pipe
pipe_held _ = None

-- behind a pipeline and a separator
abbrev pub stored : Pipe → List Frame → Option State
stored pipe (Frame.Target name ∷ Frame.Body assigns ∷ frames) =
    want (Frame.Body (assigns ++ (name, pipe) ∷ []) ∷ frames)
stored pipe (Frame.Body assigns ∷ frames) = Some (state_of (Mode.Last pipe) (Frame.Body assigns ∷ frames))
stored pipe _ = None

-- behind a separator
abbrev pub sep_step : Mode → List Frame → Option State
sep_step Mode.Want frames = cond (is_body frames) (want frames) None
sep_step Mode.Loaded frames = want frames
sep_step mode frames = pipe_held mode >>= λ p. stored p frames

-- behind a name
abbrev pub name_step : List ℕ → ℕ → Mode → List Frame → Option State
name_step name at Mode.Want frames = Some (state_of (Mode.Named name at) frames)
name_step name at Mode.Library frames = cond (is_package name) (Some (state_of Mode.Package frames)) None
name_step name at _ frames = None

abbrev pub literal_in : TermKind → ℕ → List Frame → Option State
literal_in what at frames = cond (nat_le (need frames) 10) (Some (state_of (Mode.Have at (term_of at what)) frames)) None

-- behind a literal
abbrev pub literal_step : TermKind → ℕ → Mode → List Frame → Option State
literal_step what at Mode.Want frames = literal_in what at frames
literal_step what at _ frames = None

-- behind a text
abbrev pub text_step : List ℕ → ℕ → Mode → List Frame → Option State
text_step text at Mode.Want frames =
    cond (is_args frames) (Some (state_of (Mode.Texted text at) frames)) (literal_in (kind.Str text) at frames)
text_step text at _ frames = None

-- behind an operator
abbrev pub oper_step : Oper → ℕ → Mode → List Frame → Option State
oper_step Oper.LeftParen at mode frames = open_step at mode frames
oper_step Oper.RightParen at mode frames = close_step mode frames
oper_step Oper.Comma at mode frames = comma_step mode frames
oper_step Oper.Set at mode frames = label_step mode frames
oper_step Oper.BarPipe at mode frames = pipe_step mode frames
oper_step Oper.PercentPipe at mode frames = pipe_step mode frames
oper_step Oper.Assign at mode frames = assign_step mode frames
oper_step Oper.Semicolon at mode frames = sep_step mode frames
oper_step op at mode frames = operator_step op at mode frames

abbrev pub kind_step : TokenKind → ℕ → Mode → List Frame → Option State
kind_step (TokenKind.Name name) at mode frames = name_step name at mode frames
kind_step (TokenKind.Whole number) at mode frames = literal_step (kind.Whole number) at mode frames
kind_step (TokenKind.Decimal number) at mode frames = literal_step (kind.Decimal number) at mode frames
kind_step (TokenKind.Word word) at mode frames = literal_step (kind.Word word) at mode frames
kind_step (TokenKind.Str text) at mode frames = text_step text at mode frames
kind_step (TokenKind.Op op) at mode frames = oper_step op at mode frames
kind_step TokenKind.Line at mode frames = sep_step mode frames

-- behind one more token, none where the token is not the next of a script
abbrev pub step : Token → State → Option State
step token state = kind_step token.kind token.from state.mode state.frames

-- before the first token
abbrev pub begin : State
begin = state_of Mode.Want (Frame.Body [] ∷ [])

-- behind these tokens
abbrev pub run : List Token → State → Option State
run [] state = Some state
run (token ∷ tokens) state = step token state >>= λ next. run tokens next

abbrev pub finished : Pipe → List Frame → Option Script
finished pipe (Frame.Body assigns ∷ frames) = Some (record { assigns = assigns; last = pipe })
finished pipe _ = None

-- the script that has been read whole
abbrev pub finish : State → Option Script
finish state = pipe_held state.mode >>= λ p. finished p state.frames
