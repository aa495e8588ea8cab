-- Whole scripts and begins of scripts that the grammar derives are read.
use Rattle.std.proofs.Common.{◌≡◌, ℕ, List, [], ◌∷◌, ◌++◌, true, inl, inr, Option, Some, refl, sym, ◌∙◌, ap, arith, codes, append-nil}
use Rattle.token_scan.specs.declared.token.Token.{Token}
use Rattle.token_scan.specs.declared.token.TokenKind.{TokenKind}
use Rattle.token_scan.specs.declared.token.Oper.{Oper}
use Rattle.syntax_tree.specs.declared.tree.Pipe.{Pipe}
use Rattle.syntax_tree.specs.declared.tree.Script.{Script}
use Rattle.syntax_steps.specs.declared.frame.Frame.{Frame}
use Rattle.syntax_steps.specs.declared.state.Mode.{Mode}
use Rattle.syntax_steps.specs.declared.state.State.{State}
use Rattle.syntax_steps.specs.declared.state.Held.{Held}
use Rattle.verb_syntax.specs.Grammar.{IsSep, place, Pipeline, Statement, Seps, Statements, Derives}
use Rattle.syntax_steps.specs.Levels.{takes_pipe}
use Rattle.verb_syntax.specs.Unfinished.{Opens}
use Rattle.syntax_steps.specs.Machine.{◌>>=◌, state_of, want, argument, pipe_held, stored, sep_step, begin, run, finished, finish}
use Rattle.syntax_steps.proofs.Basics.{no_some}
use Rattle.verb_syntax.proofs.Complete.{run_step, run_on, step_binary, step_prefix, step_paren}
use Rattle.syntax_steps.proofs.Settles.{left_ge}
use Rattle.verb_syntax.proofs.Derived.{value_read, args_read, calls_read, open_call, read_label, pipe_on}

-- a separator where the step leaves the state as it is or stores a pipeline
sep_on : (token : Token) (ts : List Token) (mode : Mode) (fs : List Frame) (next : State) → IsSep token
    → sep_step mode fs ≡ Some next → run (token ∷ ts) (state_of mode fs) ≡ run ts next
sep_on token ts mode fs next (inl is) e = run_on token ts TokenKind.Line mode fs next is e
sep_on token ts mode fs next (inr is) e = run_on token ts (TokenKind.Op Oper.Semicolon) mode fs next is e

seps_read : {ts rest : List Token} → Seps ts rest → (assigns : List (List ℕ × Pipe))
    → run ts (state_of Mode.Want (Frame.Body assigns ∷ [])) ≡ run rest (state_of Mode.Want (Frame.Body assigns ∷ []))
seps_read Seps.none assigns = refl
seps_read (Seps.more_seps {rest = rest} token is d) assigns =
    seps_read d assigns ∙ sep_on token rest Mode.Want (Frame.Body assigns ∷ []) (state_of Mode.Want (Frame.Body assigns ∷ [])) is refl

-- a pipeline that stands alone
record ReadsPipe (ts : List Token) (rest : List Token) (fs : List Frame) (p : Pipe) : Type 0 where
  mode : Mode
  runs : run ts (state_of Mode.Want fs) ≡ run rest (state_of mode fs)
  is_held : pipe_held mode ≡ Some p

pipeline_read : {ts rest : List Token} {p : Pipe} → Pipeline ts p rest → (fs : List Frame) → takes_pipe fs ≡ true
    → ReadsPipe ts rest fs p
pipeline_read (Pipeline.table {rest = rest} n token is) fs takes = record {
  mode = Mode.Named n token.from;
  runs = run_on token rest (TokenKind.Name n) Mode.Want fs (state_of (Mode.Named n token.from) fs) is refl;
  is_held = refl;
}
pipeline_read (Pipeline.piped {ts = ts} {calls = calls} n token is d) fs takes = record {
  mode = Mode.Piping n token.from calls;
  runs = run_on token ts (TokenKind.Name n) Mode.Want fs (state_of (Mode.Named n token.from) fs) is refl
      ∙ calls_read d n token.from fs takes;
  is_held = refl;
}

sep_held : (mode : Mode) (fs : List Frame) (p : Pipe) → pipe_held mode ≡ Some p → sep_step mode fs ≡ stored p fs
sep_held Mode.Want fs p e = no_some e
sep_held Mode.Loaded fs p e = no_some e
sep_held mode fs p e = ap (λ (o : Option Pipe). o >>= λ x. stored x fs) e

-- a statement and the separator behind it
statement_read : {ts rest : List Token} {made : List (List ℕ × Pipe)} (sep : Token) → IsSep sep → Statement ts made (sep ∷ rest)
    → (assigns : List (List ℕ × Pipe))
    → run ts (state_of Mode.Want (Frame.Body assigns ∷ [])) ≡ run rest (state_of Mode.Want (Frame.Body (assigns ++ made) ∷ []))
statement_read {ts} {rest} sep is_sep (Statement.library n word left token right is_word is_left is known is_right) assigns =
    run_on word (left ∷ token ∷ right ∷ sep ∷ rest) (TokenKind.Name (codes "library")) Mode.Want (Frame.Body assigns ∷ [])
    (state_of (Mode.Named (codes "library") word.from) (Frame.Body assigns ∷ [])) is_word refl
    ∙ (run_on left (token ∷ right ∷ sep ∷ rest) (TokenKind.Op Oper.LeftParen) (Mode.Named (codes "library") word.from) (Frame.Body assigns ∷ [])
    (state_of Mode.Library (Frame.Body assigns ∷ [])) is_left refl
    ∙ (run_on token (right ∷ sep ∷ rest) (TokenKind.Name n) Mode.Library (Frame.Body assigns ∷ [])
    (state_of Mode.Package (Frame.Body assigns ∷ [])) is (rw known refl)
    ∙ (run_on right (sep ∷ rest) (TokenKind.Op Oper.RightParen) Mode.Package (Frame.Body assigns ∷ [])
    (state_of Mode.Loaded (Frame.Body assigns ∷ [])) is_right refl
    ∙ (sep_on sep rest Mode.Loaded (Frame.Body assigns ∷ []) (state_of Mode.Want (Frame.Body assigns ∷ [])) is_sep refl
    ∙ ap (λ (x : List (List ℕ × Pipe)). run rest (state_of Mode.Want (Frame.Body x ∷ []))) (sym (append-nil assigns))))))
statement_read {ts} {rest} sep is_sep (Statement.assign {ts = low} {p = p} n token arrow is is_arrow d) assigns =
    let x = pipeline_read d (Frame.Target n ∷ Frame.Body assigns ∷ []) refl in
    run_on token (arrow ∷ low) (TokenKind.Name n) Mode.Want (Frame.Body assigns ∷ [])
    (state_of (Mode.Named n token.from) (Frame.Body assigns ∷ [])) is refl
    ∙ (run_on arrow low (TokenKind.Op Oper.Assign) (Mode.Named n token.from) (Frame.Body assigns ∷ [])
    (state_of Mode.Want (Frame.Target n ∷ Frame.Body assigns ∷ [])) is_arrow refl
    ∙ (x.runs ∙ sep_on sep rest x.mode (Frame.Target n ∷ Frame.Body assigns ∷ [])
    (state_of Mode.Want (Frame.Body (assigns ++ (n, p) ∷ []) ∷ [])) is_sep
    (sep_held x.mode (Frame.Target n ∷ Frame.Body assigns ∷ []) p x.is_held)))

statements_read : {ts rest : List Token} {assigns : List (List ℕ × Pipe)} → Statements ts assigns rest
    → run ts begin ≡ run rest (state_of Mode.Want (Frame.Body assigns ∷ []))
statements_read Statements.no_more = refl
statements_read (Statements.statement {assigns = assigns} {made = made} token is d x seps) =
    statements_read d ∙ (statement_read token is x assigns ∙ seps_read seps (assigns ++ made))

-- separators behind the last pipeline
last_read : {ts rest : List Token} → Seps ts rest → (mode : Mode) (assigns : List (List ℕ × Pipe)) (p : Pipe)
    → pipe_held mode ≡ Some p
    → (end : Mode) × (run ts (state_of mode (Frame.Body assigns ∷ [])) ≡ run rest (state_of end (Frame.Body assigns ∷ [])))
    × (pipe_held end ≡ Some p)
last_read Seps.none mode assigns p e = (mode, refl, e)
last_read (Seps.more_seps {rest = rest} token is d) mode assigns p e =
    let x = last_read d mode assigns p e in (
      Mode.Last p,
      x.1 ∙ sep_on token rest x.0 (Frame.Body assigns ∷ []) (state_of (Mode.Last p) (Frame.Body assigns ∷ [])) is
          (sep_held x.0 (Frame.Body assigns ∷ []) p x.2),
      refl,
    )

-- A script that is derived is read whole.
pub script_read : (tokens : List Token) (script : Script) → Derives tokens script
    → (state : State) × (run tokens begin ≡ Some state) × (finish state ≡ Some script)
script_read tokens script d =
    let x = pipeline_read d.last (Frame.Body script.assigns ∷ []) refl in
    let y = last_read d.end x.mode script.assigns script.last x.is_held in (
      state_of y.0 (Frame.Body script.assigns ∷ []),
      seps_read d.lead [] ∙ (statements_read d.statements ∙ (x.runs ∙ y.1)),
      ap (λ (o : Option Pipe). o >>= λ p. finished p (Frame.Body script.assigns ∷ [])) y.2,
    )

-- The begins of unfinished rules are read.
pub opens_read : {ts : List Token} {fs : List Frame} {rest : List Token} → Opens ts fs rest
    → run ts begin ≡ run rest (state_of Mode.Want fs)
opens_read (Opens.body seps d) = seps_read seps [] ∙ statements_read d
opens_read (Opens.target {rest = rest} {assigns = assigns} n token arrow is is_arrow o) =
    opens_read o
    ∙ (run_on token (arrow ∷ rest) (TokenKind.Name n) Mode.Want (Frame.Body assigns ∷ [])
    (state_of (Mode.Named n token.from) (Frame.Body assigns ∷ [])) is refl
    ∙ run_on arrow rest (TokenKind.Op Oper.Assign) (Mode.Named n token.from) (Frame.Body assigns ∷ [])
    (state_of Mode.Want (Frame.Target n ∷ Frame.Body assigns ∷ [])) is_arrow refl)
opens_read (Opens.begun {rest = rest} {frames = fs} n token pipe is is_pipe takes o) =
    opens_read o
    ∙ (run_on token (pipe ∷ rest) (TokenKind.Name n) Mode.Want fs (state_of (Mode.Named n token.from) fs) is refl
    ∙ pipe_on pipe rest (Mode.Named n token.from) fs (state_of Mode.Want (Frame.Piped n token.from [] ∷ fs)) is_pipe (rw takes refl))
opens_read (Opens.goes {mid = mid} {rest = rest} {frames = fs} {calls = calls} n token pipe is is_pipe takes o d) =
    opens_read o
    ∙ (run_on token mid (TokenKind.Name n) Mode.Want fs (state_of (Mode.Named n token.from) fs) is refl
    ∙ (calls_read d n token.from fs takes
    ∙ pipe_on pipe rest (Mode.Piping n token.from calls) fs (state_of Mode.Want (Frame.Piped n token.from calls ∷ fs)) is_pipe refl))
opens_read (Opens.called {rest = rest} {frames = fs} n token left is is_left takes o) =
    opens_read o ∙ open_call n token left rest fs is is_left takes
opens_read (Opens.listed {mid = mid} {rest = rest} {frames = fs} {args = args} n token left comma is is_left is_comma takes o d) =
    let x = args_read d n token.from fs in
    opens_read o ∙ (open_call n token left mid fs is is_left takes
    ∙ (x.runs ∙ run_on comma rest (TokenKind.Op Oper.Comma) x.mode x.frames (state_of Mode.Want (Frame.Args n token.from args ∷ fs)) is_comma
    (ap (λ (o : Option Held). o >>= λ h. argument h.start h.term h.frames >>= λ p. want (Frame.Args p.name p.at p.args ∷ p.frames)) x.is_whole
    ∙ ap (λ o. o >>= λ p. want (Frame.Args p.name p.at p.args ∷ p.frames)) x.is_argument)))
opens_read (Opens.labelled {rest = rest} {frames = fs} {args = args} n at label token set is is_set o) =
    opens_read o ∙ read_label label token set rest n at args fs is is_set
opens_read (Opens.right {mid = mid} {rest = rest} {frames = fs} {a = a} op token is lt le o d) =
    let x = value_read d fs (omega (arith, left_ge op)) in
    opens_read o ∙ (x.runs ∙ run_step token rest (state_of x.mode x.frames) (state_of Mode.Want (Frame.Right op (place mid) a ∷ fs))
    (step_binary op token x.mode x.frames fs x.has (place mid) a is lt le x.is_held x.settles))
opens_read (Opens.under {rest = rest} {frames = fs} op token is lt le o) =
    opens_read o ∙ run_step token rest (state_of Mode.Want fs) (state_of Mode.Want (Frame.Under op token.from ∷ fs)) (step_prefix op token fs is lt le)
opens_read (Opens.within {rest = rest} {frames = fs} left is le o) =
    opens_read o ∙ run_step left rest (state_of Mode.Want fs) (state_of Mode.Want (Frame.Paren left.from ∷ fs)) (step_paren left fs is le)
