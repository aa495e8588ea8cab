-- A step opens a level only where something must begin behind it.
use Rattle.std.proofs.Common.{◌≡◌, ℕ, ◌≤◌, List, [], ◌∷◌, ◌++◌, Bool, true, false, cond, eqb, leb, ltb, ◌&&◌, inl, inr, Some, None, arith, codes}
use Rattle.std.specs.Str.{bytes_eq}
use Rattle.std.proofs.lemmas.Option.{option_and_then_some}
use Rattle.token_scan.specs.declared.token.TokenKind.{TokenKind}
use Rattle.token_scan.specs.declared.token.Oper.{Oper}
use Rattle.syntax_tree.specs.declared.tree.Term.{Term}
use Rattle.syntax_tree.specs.declared.tree.Arg.{Arg}
use Rattle.syntax_tree.specs.declared.tree.Pipe.{Pipe}
use Rattle.syntax_tree.specs.declared.tree.TermKind.{TermKind}
use Rattle.syntax_tree.specs.declared.tree.TermKind.TheVariants as kind
use Rattle.syntax_steps.specs.declared.frame.Frame.{Frame}
use Rattle.syntax_steps.specs.declared.state.Mode.{Mode}
use Rattle.syntax_steps.specs.declared.state.State.{State}
use Rattle.syntax_steps.specs.declared.state.Held.{Held}
use Rattle.syntax_steps.specs.declared.state.Pending.{Pending}
use Rattle.syntax_tree.specs.Trees.{term_of, name_term, text_term, binary_term, unary_term, pipe_term, arg_of, pipe_of}
use Rattle.syntax_steps.specs.Rules.{binary_rule, left_rule, prefix_rule, is_package}
use Rattle.syntax_steps.specs.Levels.{levels, need, takes_pipe, takes_call}
use Rattle.syntax_steps.specs.Machine.{◌>>=◌, state_of, want, held_of, pending_of, settle, held, placed, infix_step, operator_step, is_body, is_args, open_step, whole, argument, comma_step, called, close_bare, close_value, close_step, label_step, pipe_step, assign_step, pipe_held, stored, sep_step, name_step, literal_in, literal_step, text_step, oper_step, kind_step}
use Rattle.syntax_steps.proofs.Basics.{bool_cases, no_some, at_some, if_some}

abbrev pub Kept : ℕ → Mode → List Frame → Type 0
Kept most Mode.Want fs = Unit {0}
Kept most _ fs = levels fs ≤ most

abbrev KeptAt : ℕ → State → Type 0
KeptAt most state = Kept most state.mode state.frames

levels_under : (frame : Frame) (fs : List Frame) → levels fs ≤ levels (frame ∷ fs)
levels_under frame fs = omega arith

settle_levels : (rule start : ℕ) (a : Term) (fs : List Frame) → levels (settle rule start a fs).frames ≤ levels fs
settle_levels rule start a [] = omega arith
settle_levels rule start a (Frame.Right op at b ∷ fs) =
    elim (bool_cases (leb rule (binary_rule op))) [
      | inl e ↦ rw e (let h = settle_levels rule at (binary_term at op b a) fs in omega arith)
      | inr e ↦ rw e (omega arith)
    ]
settle_levels rule start a (Frame.Under op at ∷ fs) =
    elim (bool_cases (leb rule (prefix_rule op))) [
      | inl e ↦ rw e (let h = settle_levels rule at (unary_term at op a) fs in omega arith)
      | inr e ↦ rw e (omega arith)
    ]
settle_levels rule start a (frame ∷ fs) = omega arith

held_levels : (mode : Mode) (fs : List Frame) (h : Held) → held mode fs ≡ Some h → levels h.frames ≤ levels fs
held_levels (Mode.Named n at) fs h e =
    if_some (λ (x : Held). levels x.frames ≤ levels fs) (leb (need fs) 10) (held_of at (name_term at n) fs) h e (λ q. omega arith)
held_levels (Mode.Texted n at) fs h e = at_some (λ (x : Held). levels x.frames ≤ levels fs) (held_of at (text_term at n) fs) h e (omega arith)
held_levels (Mode.Have start a) fs h e = at_some (λ (x : Held). levels x.frames ≤ levels fs) (held_of start a fs) h e (omega arith)
held_levels _ fs h e = no_some e

settled_levels : (mode : Mode) (fs : List Frame) (h : Held)
    → (held mode fs >>= λ x. Some (settle 0 x.start x.term x.frames)) ≡ Some h → levels h.frames ≤ levels fs
settled_levels mode fs h e =
    option_and_then_some {P = levels h.frames ≤ levels fs} (λ x. Some (settle 0 x.start x.term x.frames)) (held mode fs) h e
    (λ x ex ey. at_some (λ (y : Held). levels y.frames ≤ levels fs) (settle 0 x.start x.term x.frames) h ey
    (let p = settle_levels 0 x.start x.term x.frames in let q = held_levels mode fs x ex in omega arith))

whole_levels : (mode : Mode) (fs : List Frame) (h : Held) → whole mode fs ≡ Some h → levels h.frames ≤ levels fs
whole_levels (Mode.Piping n at calls) fs h e =
    if_some (λ (x : Held). levels x.frames ≤ levels fs) (eqb (need fs) 0) (held_of at (pipe_term at (pipe_of n at calls)) fs) h e (λ q. omega arith)
whole_levels Mode.Want fs h e = no_some e
whole_levels mode fs h e = settled_levels mode fs h e

argument_levels : (start : ℕ) (a : Term) (fs : List Frame) (p : Pending) → argument start a fs ≡ Some p → levels p.frames ≤ levels fs
argument_levels start a (Frame.Args n at args ∷ fs) p e =
    at_some (λ (x : Pending). levels x.frames ≤ levels (Frame.Args n at args ∷ fs)) (pending_of n at (args ++ arg_of None start a ∷ []) fs) p e (omega arith)
argument_levels start a (Frame.Label label low ∷ Frame.Args n at args ∷ fs) p e =
    at_some (λ (x : Pending). levels x.frames ≤ levels (Frame.Label label low ∷ Frame.Args n at args ∷ fs))
    (pending_of n at (args ++ arg_of (Some label) low a ∷ []) fs) p e (omega arith)
argument_levels start a [] p e = no_some e
argument_levels start a _ p e = no_some e

called_kept : (most : ℕ) (n : List ℕ) (at : ℕ) (args : List Arg) (fs : List Frame) → levels fs ≤ most → KeptAt most (called n at args fs)
called_kept most n at args (Frame.Piped table low calls ∷ fs) h = omega arith
called_kept most n at args [] h = h
called_kept most n at args (frame ∷ fs) h = h

closed_kept : (most start : ℕ) (a : Term) (fs : List Frame) (next : State) → levels fs ≤ most
    → (argument start a fs >>= λ p. Some (called p.name p.at p.args p.frames)) ≡ Some next → KeptAt most next
closed_kept most start a fs next le e =
    option_and_then_some {P = KeptAt most next} (λ p. Some (called p.name p.at p.args p.frames)) (argument start a fs) next e
    (λ p ep eq. at_some (KeptAt most) (called p.name p.at p.args p.frames) next eq
    (called_kept most p.name p.at p.args p.frames (let q = argument_levels start a fs p ep in omega arith)))

value_kept : (most start : ℕ) (a : Term) (fs : List Frame) (next : State) → levels fs ≤ most → close_value start a fs ≡ Some next
    → KeptAt most next
value_kept most start a (Frame.Paren at ∷ fs) next le e = at_some (KeptAt most) (state_of (Mode.Have at a) fs) next e (omega arith)
value_kept most start a [] next le e = closed_kept most start a [] next le e
value_kept most start a (frame ∷ fs) next le e = closed_kept most start a (frame ∷ fs) next le e

whole_kept : (mode : Mode) (fs : List Frame) (next : State) → (whole mode fs >>= λ h. close_value h.start h.term h.frames) ≡ Some next
    → KeptAt (levels fs) next
whole_kept mode fs next e =
    option_and_then_some {P = KeptAt (levels fs) next} (λ h. close_value h.start h.term h.frames) (whole mode fs) next e
    (λ h eh eq. value_kept (levels fs) h.start h.term h.frames next (whole_levels mode fs h eh) eq)

bare_kept : (fs : List Frame) (next : State) → close_bare fs ≡ Some next → KeptAt (levels fs) next
bare_kept (Frame.Args n at [] ∷ fs) next e =
    at_some (KeptAt (levels (Frame.Args n at [] ∷ fs))) (called n at [] fs) next e
    (called_kept (levels (Frame.Args n at [] ∷ fs)) n at [] fs (omega arith))
bare_kept (Frame.Args n at (x ∷ xs) ∷ fs) next e = no_some e
bare_kept [] next e = no_some e
bare_kept _ next e = no_some e

close_kept : (mode : Mode) (fs : List Frame) (next : State) → close_step mode fs ≡ Some next → KeptAt (levels fs) next
close_kept Mode.Want fs next e = bare_kept fs next e
close_kept Mode.Package fs next e = at_some (KeptAt (levels fs)) (state_of Mode.Loaded fs) next e (omega arith)
close_kept mode fs next e = whole_kept mode fs next e

name_kept : (n : List ℕ) (at : ℕ) (mode : Mode) (fs : List Frame) (next : State) → name_step n at mode fs ≡ Some next → KeptAt (levels fs) next
name_kept n at Mode.Want fs next e = at_some (KeptAt (levels fs)) (state_of (Mode.Named n at) fs) next e (omega arith)
name_kept n at Mode.Library fs next e = if_some (KeptAt (levels fs)) (is_package n) (state_of Mode.Package fs) next e (λ q. omega arith)
name_kept n at _ fs next e = no_some e

literal_in_kept : (what : TermKind) (at : ℕ) (fs : List Frame) (next : State) → literal_in what at fs ≡ Some next → KeptAt (levels fs) next
literal_in_kept what at fs next e =
    if_some (KeptAt (levels fs)) (leb (need fs) 10) (state_of (Mode.Have at (term_of at what)) fs) next e (λ q. omega arith)

literal_kept : (what : TermKind) (at : ℕ) (mode : Mode) (fs : List Frame) (next : State) → literal_step what at mode fs ≡ Some next
    → KeptAt (levels fs) next
literal_kept what at Mode.Want fs next e = literal_in_kept what at fs next e
literal_kept what at _ fs next e = no_some e

text_kept : (n : List ℕ) (at : ℕ) (mode : Mode) (fs : List Frame) (next : State) → text_step n at mode fs ≡ Some next → KeptAt (levels fs) next
text_kept n at Mode.Want fs next e = go (is_args fs) e
  where
    go : (b : Bool) → cond b (Some (state_of (Mode.Texted n at) fs)) (literal_in (kind.Str n) at fs) ≡ Some next → KeptAt (levels fs) next
    go true h = at_some (KeptAt (levels fs)) (state_of (Mode.Texted n at) fs) next h (omega arith)
    go false h = literal_in_kept (kind.Str n) at fs next h
text_kept n at _ fs next e = no_some e

want_kept : (most : ℕ) (b : Bool) (fs : List Frame) (next : State) → cond b (want fs) None ≡ Some next → KeptAt most next
want_kept most b fs next e = if_some (KeptAt most) b (state_of Mode.Want fs) next e (λ q. tt)

operator_kept : (op : Oper) (at : ℕ) (mode : Mode) (fs : List Frame) (next : State) → operator_step op at mode fs ≡ Some next
    → KeptAt (levels fs) next
operator_kept op at Mode.Want fs next e =
    want_kept (levels fs) (ltb (prefix_rule op) 10 && leb (need fs) (prefix_rule op)) (Frame.Under op at ∷ fs) next e
operator_kept op at mode fs next e = go mode e
  where
    go : (m : Mode) → infix_step op m fs ≡ Some next → KeptAt (levels fs) next
    go m h =
        option_and_then_some {P = KeptAt (levels fs) next} (λ x. placed op (settle (left_rule op) x.start x.term x.frames)) (held m fs) next h
        (λ x ex ep.
        let s = settle (left_rule op) x.start x.term x.frames in
        want_kept (levels fs) (ltb (binary_rule op) 10 && leb (need s.frames) (binary_rule op)) (Frame.Right op s.start s.term ∷ s.frames) next ep)

open_kept : (at : ℕ) (mode : Mode) (fs : List Frame) (next : State) → open_step at mode fs ≡ Some next → KeptAt (levels fs) next
open_kept at Mode.Want fs next e = want_kept (levels fs) (leb (need fs) 10) (Frame.Paren at ∷ fs) next e
open_kept at (Mode.Named n low) fs next e = go (takes_call fs) e
  where
    go : (b : Bool) → cond b (want (Frame.Args n low [] ∷ fs))
        (cond (is_body fs && bytes_eq n (codes "library")) (Some (state_of Mode.Library fs)) None) ≡ Some next → KeptAt (levels fs) next
    go true h = at_some (KeptAt (levels fs)) (state_of Mode.Want (Frame.Args n low [] ∷ fs)) next h tt
    go false h = if_some (KeptAt (levels fs)) (is_body fs && bytes_eq n (codes "library")) (state_of Mode.Library fs) next h (λ q. omega arith)
open_kept at _ fs next e = no_some e

comma_kept : (mode : Mode) (fs : List Frame) (next : State) → comma_step mode fs ≡ Some next → KeptAt (levels fs) next
comma_kept mode fs next e =
    option_and_then_some {P = KeptAt (levels fs) next}
    (λ h. argument h.start h.term h.frames >>= λ p. want (Frame.Args p.name p.at p.args ∷ p.frames)) (whole mode fs) next e
    (λ h eh eq. option_and_then_some {P = KeptAt (levels fs) next} (λ p. want (Frame.Args p.name p.at p.args ∷ p.frames)) (argument h.start h.term h.frames) next eq
    (λ p ep er. at_some (KeptAt (levels fs)) (state_of Mode.Want (Frame.Args p.name p.at p.args ∷ p.frames)) next er tt))

label_kept : (mode : Mode) (fs : List Frame) (next : State) → label_step mode fs ≡ Some next → KeptAt (levels fs) next
label_kept (Mode.Named n at) fs next e = want_kept (levels fs) (is_args fs) (Frame.Label n at ∷ fs) next e
label_kept (Mode.Texted n at) fs next e = want_kept (levels fs) (is_args fs) (Frame.Label n at ∷ fs) next e
label_kept _ fs next e = no_some e

pipe_kept : (mode : Mode) (fs : List Frame) (next : State) → pipe_step mode fs ≡ Some next → KeptAt (levels fs) next
pipe_kept (Mode.Named n at) fs next e = want_kept (levels fs) (takes_pipe fs) (Frame.Piped n at [] ∷ fs) next e
pipe_kept (Mode.Piping n at calls) fs next e = at_some (KeptAt (levels fs)) (state_of Mode.Want (Frame.Piped n at calls ∷ fs)) next e tt
pipe_kept _ fs next e = no_some e

assign_kept : (mode : Mode) (fs : List Frame) (next : State) → assign_step mode fs ≡ Some next → KeptAt (levels fs) next
assign_kept (Mode.Named n at) fs next e = want_kept (levels fs) (is_body fs) (Frame.Target n ∷ fs) next e
assign_kept _ fs next e = no_some e

stored_kept : (p : Pipe) (fs : List Frame) (next : State) → stored p fs ≡ Some next → KeptAt (levels fs) next
stored_kept p (Frame.Target n ∷ Frame.Body assigns ∷ fs) next e =
    at_some (KeptAt (levels (Frame.Target n ∷ Frame.Body assigns ∷ fs)))
    (state_of Mode.Want (Frame.Body (assigns ++ (n, p) ∷ []) ∷ fs)) next e tt
stored_kept p (Frame.Body assigns ∷ fs) next e =
    at_some (KeptAt (levels (Frame.Body assigns ∷ fs))) (state_of (Mode.Last p) (Frame.Body assigns ∷ fs)) next e (omega arith)
stored_kept p [] next e = no_some e
stored_kept p _ next e = no_some e

sep_kept : (mode : Mode) (fs : List Frame) (next : State) → sep_step mode fs ≡ Some next → KeptAt (levels fs) next
sep_kept Mode.Want fs next e = want_kept (levels fs) (is_body fs) fs next e
sep_kept Mode.Loaded fs next e = at_some (KeptAt (levels fs)) (state_of Mode.Want fs) next e tt
sep_kept mode fs next e = go mode e
  where
    go : (m : Mode) → (pipe_held m >>= λ p. stored p fs) ≡ Some next → KeptAt (levels fs) next
    go m h = option_and_then_some {P = KeptAt (levels fs) next} (λ p. stored p fs) (pipe_held m) next h (λ p ep eq. stored_kept p fs next eq)

oper_kept : (op : Oper) (at : ℕ) (mode : Mode) (fs : List Frame) (next : State) → oper_step op at mode fs ≡ Some next → KeptAt (levels fs) next
oper_kept Oper.LeftParen at mode fs next e = open_kept at mode fs next e
oper_kept Oper.RightParen at mode fs next e = close_kept mode fs next e
oper_kept Oper.Comma at mode fs next e = comma_kept mode fs next e
oper_kept Oper.Set at mode fs next e = label_kept mode fs next e
oper_kept Oper.BarPipe at mode fs next e = pipe_kept mode fs next e
oper_kept Oper.PercentPipe at mode fs next e = pipe_kept mode fs next e
oper_kept Oper.Assign at mode fs next e = assign_kept mode fs next e
oper_kept Oper.Semicolon at mode fs next e = sep_kept mode fs next e
oper_kept op at mode fs next e = operator_kept op at mode fs next e

pub kind_kept : (what : TokenKind) (at : ℕ) (mode : Mode) (fs : List Frame) (next : State) → kind_step what at mode fs ≡ Some next
    → Kept (levels fs) next.mode next.frames
kind_kept (TokenKind.Name n) at mode fs next e = name_kept n at mode fs next e
kind_kept (TokenKind.Whole x) at mode fs next e = literal_kept (kind.Whole x) at mode fs next e
kind_kept (TokenKind.Decimal x) at mode fs next e = literal_kept (kind.Decimal x) at mode fs next e
kind_kept (TokenKind.Word x) at mode fs next e = literal_kept (kind.Word x) at mode fs next e
kind_kept (TokenKind.Str n) at mode fs next e = text_kept n at mode fs next e
kind_kept (TokenKind.Op op) at mode fs next e = oper_kept op at mode fs next e
kind_kept TokenKind.Line at mode fs next e = sep_kept mode fs next e
