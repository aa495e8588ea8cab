-- From each state some tokens lead to a whole script.
use Rattle.std.proofs.Common.{◌≡◌, ℕ, ◌≤◌, List, [], ◌∷◌, ◌++◌, Bool, true, false, cond, Option, Some, None, refl, sym, ◌∙◌, ap, subst, arith, codes}
use Rattle.token_scan.specs.declared.token.Token.{Token}
use Rattle.token_scan.specs.declared.token.TokenKind.{TokenKind}
use Rattle.token_scan.specs.declared.token.Oper.{Oper}
use Rattle.syntax_tree.specs.declared.tree.Term.{Term}
use Rattle.syntax_tree.specs.declared.tree.Call.{Call}
use Rattle.syntax_tree.specs.declared.tree.Arg.{Arg}
use Rattle.syntax_tree.specs.declared.tree.Pipe.{Pipe}
use Rattle.syntax_tree.specs.declared.tree.Script.{Script}
use Rattle.syntax_steps.specs.declared.frame.Frame.{Frame}
use Rattle.syntax_steps.specs.declared.state.Mode.{Mode}
use Rattle.syntax_steps.specs.declared.state.State.{State}
use Rattle.syntax_steps.specs.declared.state.Held.{Held}
use Rattle.syntax_tree.specs.Trees.{name_term, text_term, binary_term, unary_term, call_term, pipe_term, call_of, arg_of, pipe_of}
use Rattle.syntax_steps.specs.Rules.{binary_rule, prefix_rule}
use Rattle.verb_syntax.specs.Grammar.{place}
use Rattle.syntax_steps.specs.Levels.{need, takes_pipe, takes_call}
use Rattle.verb_syntax.specs.Lines.{is_line}
use Rattle.verb_syntax.specs.Unfinished.{Opens}
use Rattle.syntax_steps.specs.Machine.{◌>>=◌, state_of, held_of, settle, is_body, whole, called, close_value, step, run, finish}
use Rattle.syntax_steps.proofs.Basics.{leb_true}
use Rattle.verb_syntax.proofs.Complete.{run_step}
use Rattle.verb_syntax.proofs.Derived.{close_whole}
use Rattle.verb_syntax.proofs.Sound.{Stands, args_need}

abbrev pub NoLines : List Token → Type 0
NoLines [] = Unit {0}
NoLines (token ∷ tokens) = (is_line token.kind ≡ false) × NoLines tokens

-- Some tokens without line feeds lead to a whole script.
pub record Completes (state : State) : Type 0 where
  pub rest : List Token
  pub plain : NoLines rest
  pub script : Script
  pub ends : (run rest state >>= finish) ≡ Some script

completes_now : (state : State) (script : Script) → finish state ≡ Some script → Completes state
completes_now state script e = record { rest = []; plain = tt; script = script; ends = e }

completes_step : (token : Token) (state next : State) → is_line token.kind ≡ false → step token state ≡ Some next
    → Completes next → Completes state
completes_step token state next line e c = record {
  rest = token ∷ c.rest;
  plain = (line, c.plain);
  script = c.script;
  ends = ap (λ (o : Option State). o >>= finish) (run_step token c.rest state next e) ∙ c.ends;
}

abbrev token_of : TokenKind → Token
token_of what = record { kind = what; from = 0; to = 0 }

abbrev a_name : Token
a_name = token_of (TokenKind.Name [])

abbrev left : Token
left = token_of (TokenKind.Op Oper.LeftParen)

abbrev right : Token
right = token_of (TokenKind.Op Oper.RightParen)

abbrev semicolon : Token
semicolon = token_of (TokenKind.Op Oper.Semicolon)

abbrev Behind : List Frame → Type 0
Behind (Frame.Args n at args ∷ fs) = (more : List Arg) → Completes (called n at more fs)
Behind _ = Unit {0}

-- How the unfinished rules are closed, from what may stand behind them.
record Closes (fs : List Frame) : Type 0 where
  values : need fs ≤ 10 → (mode : Mode) (frames : List Frame) (start : ℕ) (a : Term)
      → whole mode frames ≡ Some (settle 0 start a fs) → Completes (state_of mode frames)
  pipes : takes_pipe fs ≡ true → (n : List ℕ) (at : ℕ) (calls : List Call) → Completes (state_of (Mode.Piping n at calls) fs)
  calls : takes_call fs ≡ true → (n : List ℕ) (at : ℕ) (args : List Arg) → Completes (called n at args fs)
  named : (n : List ℕ) (at : ℕ) → Completes (state_of (Mode.Named n at) fs)
  behind : Behind fs

abbrev Values : List Frame → Type 0
Values fs = (mode : Mode) (frames : List Frame) (start : ℕ) (a : Term) → whole mode frames ≡ Some (settle 0 start a fs)
    → Completes (state_of mode frames)

-- `)` behind a value
close_right : (mode : Mode) (frames : List Frame) (h : Held) (next : State) → whole mode frames ≡ Some h
    → close_value h.start h.term h.frames ≡ Some next → Completes next → Completes (state_of mode frames)
close_right mode frames h next e c x =
    completes_step right (state_of mode frames) next refl (close_whole mode frames h e ∙ c) x

whole_named : (fs : List Frame) (n : List ℕ) (at : ℕ) → need fs ≤ 10
    → whole (Mode.Named n at) fs ≡ Some (settle 0 at (name_term at n) fs)
whole_named fs n at le =
    ap (λ (b : Bool). cond b (Some (held_of at (name_term at n) fs)) None >>= λ h. Some (settle 0 h.start h.term h.frames))
    (leb_true (need fs) 10 le)

args_values : (n : List ℕ) (at : ℕ) (args : List Arg) (fs : List Frame) → Closes fs → takes_call fs ≡ true
    → Values (Frame.Args n at args ∷ fs)
args_values n at args fs c takes mode frames start a e =
    close_right mode frames (held_of start a (Frame.Args n at args ∷ fs)) (called n at (args ++ arg_of None start a ∷ []) fs) e refl
    (c.calls takes n at (args ++ arg_of None start a ∷ []))

args_closes : (n : List ℕ) (at : ℕ) (args : List Arg) (fs : List Frame) → Closes fs → takes_call fs ≡ true
    → Closes (Frame.Args n at args ∷ fs)
args_closes n at args fs c takes = record {
  values = λ le. args_values n at args fs c takes;
  pipes = λ q m b calls. args_values n at args fs c takes (Mode.Piping m b calls) (Frame.Args n at args ∷ fs) b (pipe_term b (pipe_of m b calls)) refl;
  calls = λ q m b more. args_values n at args fs c takes (Mode.Have b (call_term b (call_of m b more))) (Frame.Args n at args ∷ fs) b (call_term b (call_of m b more)) refl;
  named = λ m b. args_values n at args fs c takes (Mode.Named m b) (Frame.Args n at args ∷ fs) b (name_term b m) refl;
  behind = λ more. c.calls takes n at more;
}

label_values : (label : List ℕ) (low : ℕ) (n : List ℕ) (at : ℕ) (args : List Arg) (fs : List Frame)
    → ((more : List Arg) → Completes (called n at more fs)) → Values (Frame.Label label low ∷ Frame.Args n at args ∷ fs)
label_values label low n at args fs c mode frames start a e =
    close_right mode frames (held_of start a (Frame.Label label low ∷ Frame.Args n at args ∷ fs))
    (called n at (args ++ arg_of (Some label) low a ∷ []) fs) e refl (c (args ++ arg_of (Some label) low a ∷ []))

label_closes : (label : List ℕ) (low : ℕ) (n : List ℕ) (at : ℕ) (args : List Arg) (fs : List Frame)
    → ((more : List Arg) → Completes (called n at more fs)) → Closes (Frame.Label label low ∷ Frame.Args n at args ∷ fs)
label_closes label low n at args fs c =
    let gs : List Frame = Frame.Label label low ∷ Frame.Args n at args ∷ fs in
    record {
      values = λ le. label_values label low n at args fs c;
      pipes = λ q m b calls. label_values label low n at args fs c (Mode.Piping m b calls) gs b (pipe_term b (pipe_of m b calls)) refl;
      calls = λ q m b more. label_values label low n at args fs c (Mode.Have b (call_term b (call_of m b more))) gs b (call_term b (call_of m b more)) refl;
      named = λ m b. label_values label low n at args fs c (Mode.Named m b) gs b (name_term b m) refl;
      behind = tt;
    }

-- an unfinished rule of an expression, from how its values are closed
value_closes : (frame : Frame) (fs : List Frame) → need (frame ∷ fs) ≤ 10 → (takes_pipe (frame ∷ fs) ≡ true → ⊥)
    → ((n : List ℕ) (at : ℕ) (args : List Arg)
    → called n at args (frame ∷ fs) ≡ state_of (Mode.Have at (call_term at (call_of n at args))) (frame ∷ fs))
    → Behind (frame ∷ fs) → Values (frame ∷ fs) → Closes (frame ∷ fs)
value_closes frame fs le piped call behind v = record {
  values = λ q. v;
  pipes = λ q n at calls. absurd (piped q);
  calls = λ q n at args. subst Completes (sym (call n at args))
      (v (Mode.Have at (call_term at (call_of n at args))) (frame ∷ fs) at (call_term at (call_of n at args)) refl);
  named = λ n at. v (Mode.Named n at) (frame ∷ fs) at (name_term at n) (whole_named (frame ∷ fs) n at le);
  behind = behind;
}

right_values : (op : Oper) (at : ℕ) (left : Term) (fs : List Frame) → Closes fs → need fs ≤ 10
    → Values (Frame.Right op at left ∷ fs)
right_values op at b fs c le mode frames start a e =
    c.values le mode frames at (binary_term at op b a)
    (e ∙ ap (λ (x : Bool). Some (cond x (settle 0 at (binary_term at op b a) fs) (held_of start a (Frame.Right op at b ∷ fs))))
    (leb_true 0 (binary_rule op) (omega arith)))

under_values : (op : Oper) (at : ℕ) (fs : List Frame) → Closes fs → need fs ≤ 10 → Values (Frame.Under op at ∷ fs)
under_values op at fs c le mode frames start a e =
    c.values le mode frames at (unary_term at op a)
    (e ∙ ap (λ (x : Bool). Some (cond x (settle 0 at (unary_term at op a) fs) (held_of start a (Frame.Under op at ∷ fs))))
    (leb_true 0 (prefix_rule op) (omega arith)))

paren_values : (at : ℕ) (fs : List Frame) → Closes fs → need fs ≤ 10 → Values (Frame.Paren at ∷ fs)
paren_values at fs c le mode frames start a e =
    close_right mode frames (held_of start a (Frame.Paren at ∷ fs)) (state_of (Mode.Have at a) fs) e refl
    (c.values le (Mode.Have at a) fs at a refl)

-- behind a pipe
piped_closes : (table : List ℕ) (low : ℕ) (known : List Call) (fs : List Frame) → Closes fs → takes_pipe fs ≡ true
    → Closes (Frame.Piped table low known ∷ fs)
piped_closes table low known fs c takes =
    let gs : List Frame = Frame.Piped table low known ∷ fs in
    record {
      values = λ le. absurd (omega arith);
      pipes = λ q n at calls. absurd (cc);
      calls = λ q n at args. c.pipes takes table low (known ++ call_of n at args ∷ []);
      named = λ n at. completes_step left (state_of (Mode.Named n at) gs) (state_of Mode.Want (Frame.Args n at [] ∷ gs)) refl refl
          (completes_step right (state_of Mode.Want (Frame.Args n at [] ∷ gs)) (called n at [] gs) refl refl
          (c.pipes takes table low (known ++ call_of n at [] ∷ [])));
      behind = tt;
    }

body_closes : (assigns : List (List ℕ × Pipe)) → Closes (Frame.Body assigns ∷ [])
body_closes assigns = record {
  values = λ le. absurd (omega arith);
  pipes = λ q n at calls. completes_now (state_of (Mode.Piping n at calls) (Frame.Body assigns ∷ [])) (record { assigns = assigns; last = pipe_of n at calls }) refl;
  calls = λ q n at args. absurd (cc);
  named = λ n at. completes_now (state_of (Mode.Named n at) (Frame.Body assigns ∷ [])) (record { assigns = assigns; last = pipe_of n at [] }) refl;
  behind = tt;
}

-- a name behind a statement
body_wants : (assigns : List (List ℕ × Pipe)) → Completes (state_of Mode.Want (Frame.Body assigns ∷ []))
body_wants assigns =
    completes_step a_name (state_of Mode.Want (Frame.Body assigns ∷ [])) (state_of (Mode.Named [] 0) (Frame.Body assigns ∷ [])) refl refl
    ((body_closes assigns).named [] 0)

target_closes : (name : List ℕ) (assigns : List (List ℕ × Pipe)) → Closes (Frame.Target name ∷ Frame.Body assigns ∷ [])
target_closes name assigns =
    let gs : List Frame = Frame.Target name ∷ Frame.Body assigns ∷ [] in
    record {
      values = λ le. absurd (omega arith);
      pipes = λ q n at calls. completes_step semicolon (state_of (Mode.Piping n at calls) gs)
          (state_of Mode.Want (Frame.Body (assigns ++ (name, pipe_of n at calls) ∷ []) ∷ [])) refl refl (body_wants (assigns ++ (name, pipe_of n at calls) ∷ []));
      calls = λ q n at args. absurd (cc);
      named = λ n at. completes_step semicolon (state_of (Mode.Named n at) gs)
          (state_of Mode.Want (Frame.Body (assigns ++ (name, pipe_of n at []) ∷ []) ∷ [])) refl refl (body_wants (assigns ++ (name, pipe_of n at []) ∷ []));
      behind = tt;
    }

closing : {ts : List Token} {fs : List Frame} {rest : List Token} → Opens ts fs rest → Closes fs
closing (Opens.body {assigns = assigns} seps d) = body_closes assigns
closing (Opens.target {assigns = assigns} n token arrow is is_arrow o) = target_closes n assigns
closing (Opens.begun {frames = fs} n token pipe is is_pipe takes o) = piped_closes n token.from [] fs (closing o) takes
closing (Opens.goes {frames = fs} {calls = calls} n token pipe is is_pipe takes o d) = piped_closes n token.from calls fs (closing o) takes
closing (Opens.called {frames = fs} n token left is is_left takes o) = args_closes n token.from [] fs (closing o) takes
closing (Opens.listed {frames = fs} {args = args} n token left comma is is_left is_comma takes o d) = args_closes n token.from args fs (closing o) takes
closing (Opens.labelled {frames = fs} {args = args} n at label token set is is_set o) = label_closes label token.from n at args fs (closing o).behind
closing (Opens.right {mid = mid} {frames = fs} {a = a} op token is lt le o d) =
    value_closes (Frame.Right op (place mid) a) fs (omega arith) (λ q. cc) (λ n at args. refl) tt
    (right_values op (place mid) a fs (closing o) (omega arith))
closing (Opens.under {frames = fs} op token is lt le o) =
    value_closes (Frame.Under op token.from) fs (omega arith) (λ q. cc) (λ n at args. refl) tt
    (under_values op token.from fs (closing o) (omega arith))
closing (Opens.within {frames = fs} left is le o) =
    value_closes (Frame.Paren left.from) fs (omega arith) (λ q. cc) (λ n at args. refl) tt
    (paren_values left.from fs (closing o) le)

wants : {ts rest : List Token} (fs : List Frame) → Opens ts fs rest → Completes (state_of Mode.Want fs)
wants fs o =
    completes_step a_name (state_of Mode.Want fs) (state_of (Mode.Named [] 0) fs) refl refl ((closing o).named [] 0)

loaded : {ts rest : List Token} (fs : List Frame) → Opens ts fs rest → Completes (state_of Mode.Loaded fs)
loaded fs o = completes_step semicolon (state_of Mode.Loaded fs) (state_of Mode.Want fs) refl refl (wants fs o)

packaged : {ts rest : List Token} (fs : List Frame) → Opens ts fs rest → Completes (state_of Mode.Package fs)
packaged fs o = completes_step right (state_of Mode.Package fs) (state_of Mode.Loaded fs) refl refl (loaded fs o)

last_completes : (p : Pipe) (fs : List Frame) → is_body fs ≡ true → Completes (state_of (Mode.Last p) fs)
last_completes p (Frame.Body assigns ∷ fs) e =
    completes_now (state_of (Mode.Last p) (Frame.Body assigns ∷ fs)) (record { assigns = assigns; last = p }) refl
last_completes p [] e = absurd (cc)
last_completes p _ e = absurd (cc)

pub completes : (ts rest : List Token) (mode : Mode) (fs : List Frame) → Stands ts mode fs rest → Completes (state_of mode fs)
completes ts rest Mode.Want fs o = wants fs o
completes ts rest (Mode.Named n at) fs (token, o, is, e) = (closing o).named n at
completes ts rest (Mode.Texted n at) fs (token, o, is, args, e) =
    (closing o).values (args_need fs args) (Mode.Texted n at) fs at (text_term at n) refl
completes ts rest (Mode.Have start a) fs (mid, o, d, le, e) = (closing o).values le (Mode.Have start a) fs start a refl
completes ts rest (Mode.Piping n at calls) fs (token, mid, o, is, d, takes, e) = (closing o).pipes takes n at calls
completes ts rest Mode.Library fs (word, l, o, is_word, is_left, body) =
    completes_step (token_of (TokenKind.Name (codes "dplyr"))) (state_of Mode.Library fs) (state_of Mode.Package fs) refl refl (packaged fs o)
completes ts rest Mode.Package fs (word, l, token, n, o, is_word, is_left, is_n, known, body) = packaged fs o
completes ts rest Mode.Loaded fs (mid, o, d, body) = loaded fs o
completes ts rest (Mode.Last p) fs (mid, low, o, d, seps, body) = last_completes p fs body
