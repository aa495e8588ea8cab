-- One more token is derived, or no step is made.
use Rattle.std.proofs.Common.{Decides, ◌≡◌, ℕ, ◌<◌, ◌≤◌, List, [], ◌∷◌, ◌++◌, Bool, true, false, cond, eqb, leb, ltb, ◌&&◌, ◌⊎◌, inl, inr, Some, None, refl, sym, ◌∙◌, ap, subst, arith, codes, append-nil}
use Rattle.token_scan.specs.declared.token.Token.{Token}
use Rattle.token_scan.specs.declared.token.TokenKind.{TokenKind}
use Rattle.token_scan.specs.declared.token.Oper.{Oper}
use Rattle.syntax_tree.specs.declared.tree.Term.{Term}
use Rattle.syntax_tree.specs.declared.tree.Call.{Call}
use Rattle.syntax_tree.specs.declared.tree.Arg.{Arg}
use Rattle.syntax_tree.specs.declared.tree.Pipe.{Pipe}
use Rattle.syntax_tree.specs.declared.tree.Script.{Script}
use Rattle.syntax_tree.specs.declared.tree.TermKind.{TermKind}
use Rattle.syntax_tree.specs.declared.tree.TermKind.TheVariants as kind
use Rattle.syntax_steps.specs.declared.frame.Frame.{Frame}
use Rattle.syntax_steps.specs.declared.state.Mode.{Mode}
use Rattle.syntax_steps.specs.declared.state.State.{State}
use Rattle.syntax_steps.specs.declared.state.Held.{Held}
use Rattle.syntax_steps.specs.declared.state.Pending.{Pending}
use Rattle.syntax_tree.specs.Trees.{term_of, call_term, pipe_term, call_of, arg_of, pipe_of}
use Rattle.syntax_steps.specs.Rules.{binary_rule, left_rule, prefix_rule, is_package}
use Rattle.verb_syntax.specs.Grammar.{IsOp, IsName, IsLabel, IsPipe, IsSep, literal_of, place, Value, Calling, Args, Argument, Whole, Pipeline, Statement, Seps, Statements, Derives}
use Rattle.syntax_steps.specs.Levels.{need, takes_pipe, takes_call}
use Rattle.syntax_steps.specs.Machine.{◌>>=◌, state_of, want, held_of, pending_of, settle, held, placed, infix_step, prefix_step, operator_step, is_body, is_args, open_step, whole, argument, comma_step, called, close_bare, close_value, close_step, labels, label_step, pipe_step, assign_step, pipe_held, stored, sep_step, name_step, literal_in, literal_step, text_step, oper_step, kind_step, step, run, finished, finish}
use Rattle.syntax_steps.proofs.Basics.{from_leb, no_some}
use Rattle.syntax_steps.proofs.Settles.{left_le}
use Rattle.std.proofs.lemmas.Option.{option_and_then_some}
use Rattle.verb_syntax.specs.Unfinished.{Opens}
use Rattle.syntax_steps.proofs.Basics.{from_ltb, from_eqb, from_and, at_some, if_some}
use Rattle.std.specs.Str.{bytes_eq}
use Rattle.std.proofs.lemmas.Slice.Eq.{bytes_eq-Decides}
use Rattle.verb_syntax.proofs.Sound.{Stands, StandsAt, Begun, open_args, more_args, open_right, open_under, open_paren, open_label, open_piped, open_body, open_target, loosened, Settled, held_derives, held_settles}

same_bytes : (a b : List ℕ) → bytes_eq a b ≡ true → a ≡ b
same_bytes a b h = go (bytes_eq a b) h (bytes_eq-Decides a b)
  where
    go : (r : Bool) → r ≡ true → Decides r (a ≡ b) → a ≡ b
    go true h d = d.0 refl
    go false h d = absurd (cc)

not_nil : {A : Type 0} (xs : List A) (x : A) → (xs ++ x ∷ []) ≡ [] → ⊥
not_nil [] x e = cc
not_nil (y ∷ ys) x e = cc

args_not_nil : {ts rest : List Token} {args : List Arg} → Args ts args rest → args ≡ [] → ⊥
args_not_nil (Args.one {x = x} d) e = not_nil [] x e
args_not_nil (Args.more {args = args} {x = x} comma is d f) e = not_nil args x e

-- where a call may stand, no pipeline goes on, so an expression may
call_need : {ts rest : List Token} (fs : List Frame) → Opens ts fs rest → takes_call fs ≡ true
    → ((n : List ℕ) (at : ℕ) (calls : List Call) (low : List Frame) → fs ≡ Frame.Piped n at calls ∷ low → ⊥) → need fs ≤ 10
call_need [] o takes other = absurd (cc)
call_need (Frame.Right op at a ∷ fs) o takes other = let b = open_right o in omega (arith, b.lt)
call_need (Frame.Under op at ∷ fs) o takes other = let b = open_under o in omega (arith, b.lt)
call_need (Frame.Paren at ∷ fs) o takes other = omega arith
call_need (Frame.Args n at args ∷ fs) o takes other = omega arith
call_need (Frame.Label n at ∷ fs) o takes other = omega arith
call_need (Frame.Piped n at calls ∷ fs) o takes other = absurd (other n at calls fs refl)
call_need (Frame.Target n ∷ fs) o takes other = absurd (cc)
call_need (Frame.Body assigns ∷ fs) o takes other = absurd (cc)

-- behind a call
have_call : {ts mid rest : List Token} {n : List ℕ} {at : ℕ} {fs : List Frame} (args : List Arg) (b : Begun ts n at fs mid)
    → Calling (b.token ∷ b.left ∷ mid) (call_of n b.token.from args) rest → need fs ≤ 10
    → Stands ts (Mode.Have at (call_term at (call_of n at args))) fs rest
have_call {ts} {mid} {rest} {n} {at} {fs} args b d le =
    subst (λ (p : ℕ). Stands ts (Mode.Have p (call_term p (call_of n p args))) fs rest) (sym b.at_is)
    (b.token ∷ b.left ∷ mid, b.opens, Value.call d, le, refl)

called_stands : {ts mid rest : List Token} {n : List ℕ} {at : ℕ} (args : List Arg) (fs : List Frame) (b : Begun ts n at fs mid)
    → Calling (b.token ∷ b.left ∷ mid) (call_of n b.token.from args) rest → StandsAt ts rest (called n at args fs)
called_stands {ts} {mid} {rest} {n} {at} args (Frame.Piped table low calls ∷ fs) b d =
    open_piped b.opens (subst (λ (p : ℕ). Calling (b.token ∷ b.left ∷ mid) (call_of n p args) rest) (sym b.at_is) d)
called_stands args [] b d = have_call args b d (call_need [] b.opens b.takes (λ n at calls low e. cc))
called_stands args (frame ∷ fs) b d = have_call args b d (call_need (frame ∷ fs) b.opens b.takes (λ n at calls low e. cc))

-- What is read of a value.
record WholeRead (ts : List Token) (rest : List Token) (h : Held) : Type 0 where
  mid : List Token
  opens : Opens ts h.frames mid
  derives : Whole mid h.term rest
  stands : h.start ≡ place mid
  inner : (need h.frames ≡ 0) ⊎ (Settled ts rest 0 h)

settled_whole : {ts rest : List Token} (h : Held) → Settled ts rest 0 h → WholeRead ts rest h
settled_whole h x = record {
  mid = x.mid;
  opens = x.opens;
  derives = Whole.value (loosened x.tight 0 (omega arith) x.small x.derives);
  stands = x.stands;
  inner = inr x;
}

expression_whole : {ts rest : List Token} (mode : Mode) (fs : List Frame) (h : Held) → Stands ts mode fs rest
    → (held mode fs >>= λ x. Some (settle 0 x.start x.term x.frames)) ≡ Some h → WholeRead ts rest h
expression_whole {ts} {rest} mode fs h s e =
    option_and_then_some {P = WholeRead ts rest h} (λ x. Some (settle 0 x.start x.term x.frames)) (held mode fs) h e
    (λ x ex ey. at_some (WholeRead ts rest) (settle 0 x.start x.term x.frames) h ey
    (settled_whole (settle 0 x.start x.term x.frames) (held_settles 0 x (omega arith) (held_derives mode fs x s ex))))

pipeline_whole : {ts rest : List Token} (n : List ℕ) (at : ℕ) (calls : List Call) (fs : List Frame)
    → Stands ts (Mode.Piping n at calls) fs rest → need fs ≡ 0
    → WholeRead ts rest (held_of at (pipe_term at (pipe_of n at calls)) fs)
pipeline_whole {ts} {rest} n at calls fs (token, mid, o, is, d, takes, e) z = record {
  mid = token ∷ mid;
  opens = o;
  derives = subst (λ (p : ℕ). Whole (token ∷ mid) (pipe_term p (pipe_of n p calls)) rest) (sym e) (Whole.pipeline n token is d);
  stands = e;
  inner = inl z;
}

whole_derives : {ts rest : List Token} (mode : Mode) (fs : List Frame) (h : Held) → Stands ts mode fs rest
    → whole mode fs ≡ Some h → WholeRead ts rest h
whole_derives {ts} {rest} (Mode.Piping n at calls) fs h s e =
    if_some (WholeRead ts rest) (eqb (need fs) 0) (held_of at (pipe_term at (pipe_of n at calls)) fs) h e
    (λ q. pipeline_whole n at calls fs s (from_eqb (need fs) 0 q))
whole_derives Mode.Want fs h s e = no_some e
whole_derives mode fs h s e = expression_whole mode fs h s e

-- What is read of a call's arguments.
record ArgsRead (ts : List Token) (rest : List Token) (p : Pending) : Type 0 where
  mid : List Token
  begun : Begun ts p.name p.at p.frames mid
  derives : Args mid p.args rest

argument_derives : {ts mid rest : List Token} (start : ℕ) (a : Term) (fs : List Frame) (p : Pending) → Opens ts fs mid
    → Whole mid a rest → start ≡ place mid → argument start a fs ≡ Some p → ArgsRead ts rest p
argument_derives {ts} {mid} {rest} start a (Frame.Args n at args ∷ fs) p o d e h =
    let x = more_args o (subst (λ (q : ℕ). Argument mid (arg_of None q a) rest) (sym e) (Argument.plain d)) in
    at_some (ArgsRead ts rest) (pending_of n at (args ++ arg_of None start a ∷ []) fs) p h
    (record { mid = x.0; begun = x.1; derives = x.2 })
argument_derives {ts} {mid} {rest} start a (Frame.Label label low ∷ Frame.Args n at args ∷ fs) p o d e h =
    let b = open_label o in
    let x = more_args b.4 (subst (λ (q : ℕ). Argument (b.0 ∷ b.1 ∷ mid) (arg_of (Some label) q a) rest) (sym b.5)
    (Argument.named label b.0 b.1 b.2 b.3 d)) in
    at_some (ArgsRead ts rest) (pending_of n at (args ++ arg_of (Some label) low a ∷ []) fs) p h
    (record { mid = x.0; begun = x.1; derives = x.2 })
argument_derives start a [] p o d e h = no_some h
argument_derives start a _ p o d e h = no_some h

-- the pipeline that is read
pub record PipeRead (ts : List Token) (rest : List Token) (fs : List Frame) (p : Pipe) : Type 0 where
  pub mid : List Token
  pub low : List Token
  pub opens : Opens ts fs mid
  pub derives : Pipeline mid p low
  pub seps : Seps low rest
  pub ends : (low ≡ rest) ⊎ (is_body fs ≡ true)

table_read : {ts rest : List Token} (n : List ℕ) (at : ℕ) (fs : List Frame) → Stands ts (Mode.Named n at) fs rest
    → PipeRead ts rest fs (pipe_of n at [])
table_read {ts} {rest} n at fs (token, o, is, same) = record {
  mid = token ∷ rest;
  low = rest;
  opens = o;
  derives = subst (λ (q : ℕ). Pipeline (token ∷ rest) (pipe_of n q []) rest) (sym same) (Pipeline.table n token is);
  seps = Seps.none;
  ends = inl refl;
}

piped_read : {ts rest : List Token} (n : List ℕ) (at : ℕ) (calls : List Call) (fs : List Frame)
    → Stands ts (Mode.Piping n at calls) fs rest → PipeRead ts rest fs (pipe_of n at calls)
piped_read {ts} {rest} n at calls fs (token, mid, o, is, d, takes, same) = record {
  mid = token ∷ mid;
  low = rest;
  opens = o;
  derives = subst (λ (q : ℕ). Pipeline (token ∷ mid) (pipe_of n q calls) rest) (sym same) (Pipeline.piped n token is d);
  seps = Seps.none;
  ends = inl refl;
}

pub pipeline_derives : {ts rest : List Token} (mode : Mode) (fs : List Frame) (p : Pipe) → Stands ts mode fs rest
    → pipe_held mode ≡ Some p → PipeRead ts rest fs p
pipeline_derives {ts} {rest} (Mode.Named n at) fs p s e = at_some (PipeRead ts rest fs) (pipe_of n at []) p e (table_read n at fs s)
pipeline_derives {ts} {rest} (Mode.Piping n at calls) fs p s e =
    at_some (PipeRead ts rest fs) (pipe_of n at calls) p e (piped_read n at calls fs s)
pipeline_derives {ts} {rest} (Mode.Last q) fs p (mid, low, o, d, seps, body) e =
    at_some (PipeRead ts rest fs) q p e
    (record { mid = mid; low = low; opens = o; derives = d; seps = seps; ends = inr body })
pipeline_derives _ fs p s e = no_some e

-- The steps, by the kind of the token.
module _ (ts rest : List Token) where
  name_derives : (n : List ℕ) (token : Token) (mode : Mode) (fs : List Frame) (next : State) → IsName n token
      → Stands ts mode fs (token ∷ rest) → name_step n token.from mode fs ≡ Some next → StandsAt ts rest next
  name_derives n token Mode.Want fs next is s e =
      at_some (StandsAt ts rest) (state_of (Mode.Named n token.from) fs) next e (token, s, is, refl)
  name_derives n token Mode.Library fs next is (word, left, o, is_word, is_left, body) e =
      if_some (StandsAt ts rest) (is_package n) (state_of Mode.Package fs) next e
      (λ q. (word, left, token, n, o, is_word, is_left, is, q, body))
  name_derives n token _ fs next is s e = no_some e

  literal_in_derives : (what : TermKind) (token : Token) (fs : List Frame) (next : State)
      → literal_of token.kind ≡ Some what → Opens ts fs (token ∷ rest) → literal_in what token.from fs ≡ Some next
      → StandsAt ts rest next
  literal_in_derives what token fs next is o e =
      if_some (StandsAt ts rest) (leb (need fs) 10) (state_of (Mode.Have token.from (term_of token.from what)) fs) next e
      (λ q. (token ∷ rest, o, Value.literal what token is, from_leb (need fs) 10 q, refl))

  literal_derives : (what : TermKind) (token : Token) (mode : Mode) (fs : List Frame) (next : State)
      → literal_of token.kind ≡ Some what → Stands ts mode fs (token ∷ rest)
      → literal_step what token.from mode fs ≡ Some next → StandsAt ts rest next
  literal_derives what token Mode.Want fs next is s e = literal_in_derives what token fs next is s e
  literal_derives what token _ fs next is s e = no_some e

  text_step_derives : (n : List ℕ) (token : Token) (mode : Mode) (fs : List Frame) (next : State)
      → token.kind ≡ TokenKind.Str n → Stands ts mode fs (token ∷ rest) → text_step n token.from mode fs ≡ Some next
      → StandsAt ts rest next
  text_step_derives n token Mode.Want fs next is s e = go (is_args fs) refl e
    where
      go : (b : Bool) → is_args fs ≡ b
          → cond b (Some (state_of (Mode.Texted n token.from) fs)) (literal_in (kind.Str n) token.from fs) ≡ Some next
          → StandsAt ts rest next
      go true q h = at_some (StandsAt ts rest) (state_of (Mode.Texted n token.from) fs) next h (token, s, is, q, refl)
      go false q h = literal_in_derives (kind.Str n) token fs next (ap literal_of is) s h
  text_step_derives n token _ fs next is s e = no_some e

  prefix_derives : (op : Oper) (token : Token) (fs : List Frame) (next : State) → IsOp op token
      → Opens ts fs (token ∷ rest) → prefix_step op token.from fs ≡ Some next → StandsAt ts rest next
  prefix_derives op token fs next is o e =
      if_some (StandsAt ts rest) (ltb (prefix_rule op) 10 && leb (need fs) (prefix_rule op))
      (state_of Mode.Want (Frame.Under op token.from ∷ fs)) next e
      (λ q. let p = from_and (ltb (prefix_rule op) 10) (leb (need fs) (prefix_rule op)) q in
      Opens.under op token is (from_ltb (prefix_rule op) 10 p.0) (from_leb (need fs) (prefix_rule op) p.1) o)

  placed_lt : (op : Oper) (h : Held) (next : State) → placed op h ≡ Some next → binary_rule op < 10
  placed_lt op h next e =
      if_some (λ (x : State). binary_rule op < 10) (ltb (binary_rule op) 10 && leb (need h.frames) (binary_rule op))
      (state_of Mode.Want (Frame.Right op h.start h.term ∷ h.frames)) next e
      (λ q. from_ltb (binary_rule op) 10 (from_and (ltb (binary_rule op) 10) (leb (need h.frames) (binary_rule op)) q).0)

  placed_derives : (op : Oper) (token : Token) (h : Held) (next : State) → IsOp op token
      → Settled ts (token ∷ rest) (left_rule op) h → placed op h ≡ Some next → StandsAt ts rest next
  placed_derives op token h next is x e =
      if_some (StandsAt ts rest) (ltb (binary_rule op) 10 && leb (need h.frames) (binary_rule op))
      (state_of Mode.Want (Frame.Right op h.start h.term ∷ h.frames)) next e
      (λ q. let p = from_and (ltb (binary_rule op) 10) (leb (need h.frames) (binary_rule op)) q in
      subst (λ (at : ℕ). Opens ts (Frame.Right op at h.term ∷ h.frames) rest) (sym x.stands)
      (Opens.right op token is (from_ltb (binary_rule op) 10 p.0) (from_leb (need h.frames) (binary_rule op) p.1)
      x.opens (loosened x.tight (left_rule op) x.bound x.small x.derives)))

  infix_derives : (op : Oper) (token : Token) (mode : Mode) (fs : List Frame) (next : State) → IsOp op token
      → Stands ts mode fs (token ∷ rest) → infix_step op mode fs ≡ Some next → StandsAt ts rest next
  infix_derives op token mode fs next is s e =
      option_and_then_some {P = StandsAt ts rest next} (λ h. placed op (settle (left_rule op) h.start h.term h.frames)) (held mode fs) next e
      (λ h eh ep.
      let lt : binary_rule op < 10 = placed_lt op (settle (left_rule op) h.start h.term h.frames) next ep in
      let le : left_rule op ≤ 10 = omega (arith, left_le op) in
      placed_derives op token (settle (left_rule op) h.start h.term h.frames) next is
      (held_settles (left_rule op) h le (held_derives mode fs h s eh)) ep)

  operator_derives : (op : Oper) (token : Token) (mode : Mode) (fs : List Frame) (next : State)
      → IsOp op token → Stands ts mode fs (token ∷ rest) → operator_step op token.from mode fs ≡ Some next → StandsAt ts rest next
  operator_derives op token Mode.Want fs next is s e = prefix_derives op token fs next is s e
  operator_derives op token mode fs next is s e = infix_derives op token mode fs next is s e

  -- `(` behind a name
  call_opens : (n : List ℕ) (at : ℕ) (left : Token) (fs : List Frame) (next : State)
      → IsOp Oper.LeftParen left → Stands ts (Mode.Named n at) fs (left ∷ rest) → open_step left.from (Mode.Named n at) fs ≡ Some next
      → StandsAt ts rest next
  call_opens n at left fs next is_left (token, o, is, same) e = go (takes_call fs) refl e
    where
      go : (b : Bool) → takes_call fs ≡ b
          → cond b (want (Frame.Args n at [] ∷ fs))
          (cond (is_body fs && bytes_eq n (codes "library")) (Some (state_of Mode.Library fs)) None) ≡ Some next
          → StandsAt ts rest next
      go true q h = at_some (StandsAt ts rest) (state_of Mode.Want (Frame.Args n at [] ∷ fs)) next h
          (subst (λ (p : ℕ). Opens ts (Frame.Args n p [] ∷ fs) rest) (sym same) (Opens.called n token left is is_left q o))
      go false q h = if_some (StandsAt ts rest) (is_body fs && bytes_eq n (codes "library")) (state_of Mode.Library fs) next h
          (λ b. let p = from_and (is_body fs) (bytes_eq n (codes "library")) b in
          (token, left, o, is ∙ ap TokenKind.Name (same_bytes n (codes "library") p.1), is_left, p.0))

  open_derives : (left : Token) (mode : Mode) (fs : List Frame) (next : State) → IsOp Oper.LeftParen left
      → Stands ts mode fs (left ∷ rest) → open_step left.from mode fs ≡ Some next → StandsAt ts rest next
  open_derives left Mode.Want fs next is s e =
      if_some (StandsAt ts rest) (leb (need fs) 10) (state_of Mode.Want (Frame.Paren left.from ∷ fs)) next e
      (λ q. Opens.within left is (from_leb (need fs) 10 q) s)
  open_derives left (Mode.Named n at) fs next is s e = call_opens n at left fs next is s e
  open_derives left _ fs next is s e = no_some e

  -- `)` directly behind `(` of a call
  bare_derives : (right : Token) (fs : List Frame) (next : State) → IsOp Oper.RightParen right
      → Opens ts fs (right ∷ rest) → close_bare fs ≡ Some next → StandsAt ts rest next
  bare_derives right (Frame.Args n at [] ∷ fs) next is o e =
      at_some (StandsAt ts rest) (called n at [] fs) next e (go (open_args o))
    where
      go : (mid : List Token) × Begun ts n at fs mid
          × ((◌≡◌ {A = List Arg} [] []) × (mid ≡ right ∷ rest) ⊎ ((comma : Token) × IsOp Oper.Comma comma × Args mid [] (comma ∷ right ∷ rest)))
          → StandsAt ts rest (called n at [] fs)
      go (mid, b, inl (same, ends)) = called_stands [] fs b
          (subst (λ (m : List Token). Calling (b.token ∷ b.left ∷ m) (call_of n b.token.from []) rest) (sym ends)
          (Calling.bare n b.token b.left right b.is b.is_left is))
      go (mid, b, inr (comma, is_comma, d)) = absurd (args_not_nil d refl)
  bare_derives right (Frame.Args n at (x ∷ xs) ∷ fs) next is o e = no_some e
  bare_derives right [] next is o e = no_some e
  bare_derives right _ next is o e = no_some e

  -- `)` behind an argument
  argument_ends : (right : Token) (h : Held) (next : State) → IsOp Oper.RightParen right
      → WholeRead ts (right ∷ rest) h
      → (argument h.start h.term h.frames >>= λ p. Some (called p.name p.at p.args p.frames)) ≡ Some next → StandsAt ts rest next
  argument_ends right h next is x e =
      option_and_then_some {P = StandsAt ts rest next} (λ p. Some (called p.name p.at p.args p.frames)) (argument h.start h.term h.frames) next e
      (λ p ep eq.
      let y = argument_derives h.start h.term h.frames p x.opens x.derives x.stands ep in
      at_some (StandsAt ts rest) (called p.name p.at p.args p.frames) next eq
      (called_stands p.args p.frames y.begun (Calling.full p.name y.begun.token y.begun.left right y.begun.is y.begun.is_left is y.derives)))

  paren_ends : (right : Token) (start at : ℕ) (a : Term) (fs : List Frame) → IsOp Oper.RightParen right
      → WholeRead ts (right ∷ rest) (held_of start a (Frame.Paren at ∷ fs)) → Stands ts (Mode.Have at a) fs rest
  paren_ends right start at a fs is x = go x.inner
    where
      go : (◌≡◌ {A = ℕ} 1 0) ⊎ (Settled ts (right ∷ rest) 0 (held_of start a (Frame.Paren at ∷ fs))) → Stands ts (Mode.Have at a) fs rest
      go (inl z) = absurd (omega arith)
      go (inr y) =
          let b = open_paren y.opens in
          (b.0 ∷ y.mid, b.3, Value.paren b.0 right b.1 is (loosened y.tight 1 y.fits y.small y.derives), b.2, b.4)

  value_ends : (right : Token) (start : ℕ) (a : Term) (fs : List Frame) (next : State)
      → IsOp Oper.RightParen right → WholeRead ts (right ∷ rest) (held_of start a fs) → close_value start a fs ≡ Some next
      → StandsAt ts rest next
  value_ends right start a (Frame.Paren at ∷ fs) next is x e =
      at_some (StandsAt ts rest) (state_of (Mode.Have at a) fs) next e (paren_ends right start at a fs is x)
  value_ends right start a [] next is x e = argument_ends right (held_of start a []) next is x e
  value_ends right start a (frame ∷ fs) next is x e = argument_ends right (held_of start a (frame ∷ fs)) next is x e

  whole_ends : (right : Token) (mode : Mode) (fs : List Frame) (next : State) → IsOp Oper.RightParen right
      → Stands ts mode fs (right ∷ rest) → (whole mode fs >>= λ h. close_value h.start h.term h.frames) ≡ Some next
      → StandsAt ts rest next
  whole_ends right mode fs next is s e =
      option_and_then_some {P = StandsAt ts rest next} (λ h. close_value h.start h.term h.frames) (whole mode fs) next e
      (λ h eh eq. value_ends right h.start h.term h.frames next is (whole_derives mode fs h s eh) eq)

  close_derives : (right : Token) (mode : Mode) (fs : List Frame) (next : State) → IsOp Oper.RightParen right
      → Stands ts mode fs (right ∷ rest) → close_step mode fs ≡ Some next → StandsAt ts rest next
  close_derives right Mode.Want fs next is s e = bare_derives right fs next is s e
  close_derives right Mode.Package fs next is (word, left, token, n, o, is_word, is_left, is_n, known, body) e =
      at_some (StandsAt ts rest) (state_of Mode.Loaded fs) next e
      (word ∷ left ∷ token ∷ right ∷ rest, o, Statement.library n word left token right is_word is_left is_n known is, body)
  close_derives right mode fs next is s e = whole_ends right mode fs next is s e

  comma_derives : (comma : Token) (mode : Mode) (fs : List Frame) (next : State) → IsOp Oper.Comma comma
      → Stands ts mode fs (comma ∷ rest) → comma_step mode fs ≡ Some next → StandsAt ts rest next
  comma_derives comma mode fs next is s e =
      option_and_then_some {P = StandsAt ts rest next}
      (λ h. argument h.start h.term h.frames >>= λ p. want (Frame.Args p.name p.at p.args ∷ p.frames)) (whole mode fs) next e
      (λ h eh eq.
      let x = whole_derives mode fs h s eh in
      option_and_then_some {P = StandsAt ts rest next} (λ p. want (Frame.Args p.name p.at p.args ∷ p.frames)) (argument h.start h.term h.frames) next eq
      (λ p ep er.
      let y = argument_derives h.start h.term h.frames p x.opens x.derives x.stands ep in
      at_some (StandsAt ts rest) (state_of Mode.Want (Frame.Args p.name p.at p.args ∷ p.frames)) next er
      (subst (λ (q : ℕ). Opens ts (Frame.Args p.name q p.args ∷ p.frames) rest) (sym y.begun.at_is)
      (Opens.listed p.name y.begun.token y.begun.left comma y.begun.is y.begun.is_left is y.begun.takes y.begun.opens y.derives))))

  labels_derive : (label : List ℕ) (at : ℕ) (token set : Token) (fs : List Frame) (next : State)
      → IsLabel label token → IsOp Oper.Set set → Opens ts fs (token ∷ set ∷ rest) → at ≡ token.from
      → labels label at fs ≡ Some next → StandsAt ts rest next
  labels_derive label at token set (Frame.Args n low args ∷ fs) next is is_set o same e =
      at_some (StandsAt ts rest) (state_of Mode.Want (Frame.Label label at ∷ Frame.Args n low args ∷ fs)) next e
      (subst (λ (p : ℕ). Opens ts (Frame.Label label p ∷ Frame.Args n low args ∷ fs) rest) (sym same)
      (Opens.labelled n low label token set is is_set o))
  labels_derive label at token set [] next is is_set o same e = no_some e
  labels_derive label at token set _ next is is_set o same e = no_some e

  label_derives : (set : Token) (mode : Mode) (fs : List Frame) (next : State) → IsOp Oper.Set set
      → Stands ts mode fs (set ∷ rest) → label_step mode fs ≡ Some next → StandsAt ts rest next
  label_derives set (Mode.Named n at) fs next is (token, o, is_n, same) e = labels_derive n at token set fs next (inl is_n) is o same e
  label_derives set (Mode.Texted n at) fs next is (token, o, is_n, args, same) e = labels_derive n at token set fs next (inr is_n) is o same e
  label_derives set _ fs next is s e = no_some e

  pipe_derives : (pipe : Token) (mode : Mode) (fs : List Frame) (next : State) → IsPipe pipe
      → Stands ts mode fs (pipe ∷ rest) → pipe_step mode fs ≡ Some next → StandsAt ts rest next
  pipe_derives pipe (Mode.Named n at) fs next is (token, o, is_n, same) e =
      if_some (StandsAt ts rest) (takes_pipe fs) (state_of Mode.Want (Frame.Piped n at [] ∷ fs)) next e
      (λ q. subst (λ (p : ℕ). Opens ts (Frame.Piped n p [] ∷ fs) rest) (sym same) (Opens.begun n token pipe is_n is q o))
  pipe_derives pipe (Mode.Piping n at calls) fs next is (token, mid, o, is_n, d, takes, same) e =
      at_some (StandsAt ts rest) (state_of Mode.Want (Frame.Piped n at calls ∷ fs)) next e
      (subst (λ (p : ℕ). Opens ts (Frame.Piped n p calls ∷ fs) rest) (sym same) (Opens.goes n token pipe is_n is takes o d))
  pipe_derives pipe _ fs next is s e = no_some e

  target_opens : (n : List ℕ) (token arrow : Token) (fs : List Frame) → IsName n token → IsOp Oper.Assign arrow
      → Opens ts fs (token ∷ arrow ∷ rest) → is_body fs ≡ true → Opens ts (Frame.Target n ∷ fs) rest
  target_opens n token arrow (Frame.Body assigns ∷ []) is is_arrow o q = Opens.target n token arrow is is_arrow o
  target_opens n token arrow (Frame.Body assigns ∷ x ∷ xs) is is_arrow o q = let b = open_body o in let e : (x ∷ xs) ≡ [] = b.3 in absurd (cc)
  target_opens n token arrow [] is is_arrow o q = absurd (cc)
  target_opens n token arrow _ is is_arrow o q = absurd (cc)

  assign_derives : (arrow : Token) (mode : Mode) (fs : List Frame) (next : State) → IsOp Oper.Assign arrow
      → Stands ts mode fs (arrow ∷ rest) → assign_step mode fs ≡ Some next → StandsAt ts rest next
  assign_derives arrow (Mode.Named n at) fs next is (token, o, is_n, same) e =
      if_some (StandsAt ts rest) (is_body fs) (state_of Mode.Want (Frame.Target n ∷ fs)) next e
      (λ q. target_opens n token arrow fs is_n is o q)
  assign_derives arrow _ fs next is s e = no_some e

  -- a separator behind statements
  sep_opens : (token : Token) (fs : List Frame) → IsSep token → Opens ts fs (token ∷ rest) → is_body fs ≡ true
      → Opens ts fs rest
  sep_opens token (Frame.Body assigns ∷ fs) is o q =
      let b = open_body o in subst (λ (x : List Frame). Opens ts (Frame.Body assigns ∷ x) rest) (sym b.3) (go b.1 b.2)
    where
      go : {begin : List Token} {made : List (List ℕ × Pipe)} → Seps ts begin → Statements begin made (token ∷ rest)
          → Opens ts (Frame.Body made ∷ []) rest
      go seps Statements.no_more = Opens.body (Seps.more_seps token is seps) Statements.no_more
      go seps (Statements.statement first is_first d x more) =
          Opens.body seps (Statements.statement first is_first d x (Seps.more_seps token is more))
  sep_opens token [] is o q = absurd (cc)
  sep_opens token _ is o q = absurd (cc)

  -- a statement and a separator
  made_opens : {mid : List Token} (token : Token) (assigns made : List (List ℕ × Pipe)) → IsSep token
      → Opens ts (Frame.Body assigns ∷ []) mid → Statement mid made (token ∷ rest) → Opens ts (Frame.Body (assigns ++ made) ∷ []) rest
  made_opens token assigns made is o d =
      let b = open_body o in Opens.body b.1 (Statements.statement token is b.2 d Seps.none)

  load_opens : {mid : List Token} (token : Token) (fs : List Frame) → IsSep token → Opens ts fs mid
      → Statement mid [] (token ∷ rest) → is_body fs ≡ true → Opens ts fs rest
  load_opens {mid} token (Frame.Body assigns ∷ []) is o d q =
      subst (λ (x : List (List ℕ × Pipe)). Opens ts (Frame.Body x ∷ []) rest) (append-nil assigns) (made_opens token assigns [] is o d)
  load_opens token (Frame.Body assigns ∷ x ∷ xs) is o d q = let b = open_body o in let e : (x ∷ xs) ≡ [] = b.3 in absurd (cc)
  load_opens token [] is o d q = absurd (cc)
  load_opens token _ is o d q = absurd (cc)

  target_stored : (token : Token) (n : List ℕ) (assigns : List (List ℕ × Pipe)) (fs : List Frame) (p : Pipe)
      → IsSep token → PipeRead ts (token ∷ rest) (Frame.Target n ∷ Frame.Body assigns ∷ fs) p
      → Opens ts (Frame.Body (assigns ++ (n, p) ∷ []) ∷ fs) rest
  target_stored token n assigns fs p is x =
      let b = open_target x.opens in
      subst (λ (y : List Frame). Opens ts (Frame.Body (assigns ++ (n, p) ∷ []) ∷ y) rest) (sym b.5)
      (made_opens token assigns ((n, p) ∷ []) is b.4
      (Statement.assign n b.0 b.1 b.2 b.3 (subst (λ (y : List Token). Pipeline x.mid p y) (ends x.ends) x.derives)))
    where
      ends : (x.low ≡ token ∷ rest) ⊎ (false ≡ true) → x.low ≡ token ∷ rest
      ends (inl e) = e
      ends (inr e) = absurd (cc)

  stored_derives : (token : Token) (p : Pipe) (fs : List Frame) (next : State) → IsSep token
      → PipeRead ts (token ∷ rest) fs p → stored p fs ≡ Some next → StandsAt ts rest next
  stored_derives token p (Frame.Target n ∷ Frame.Body assigns ∷ fs) next is x e =
      at_some (StandsAt ts rest) (state_of Mode.Want (Frame.Body (assigns ++ (n, p) ∷ []) ∷ fs)) next e
      (target_stored token n assigns fs p is x)
  stored_derives token p (Frame.Body assigns ∷ fs) next is x e =
      at_some (StandsAt ts rest) (state_of (Mode.Last p) (Frame.Body assigns ∷ fs)) next e
      (x.mid, x.low, x.opens, x.derives, Seps.more_seps token is x.seps, refl)
  stored_derives token p [] next is x e = no_some e
  stored_derives token p _ next is x e = no_some e

  pipe_ends : (token : Token) (mode : Mode) (fs : List Frame) (next : State) → IsSep token
      → Stands ts mode fs (token ∷ rest) → (pipe_held mode >>= λ p. stored p fs) ≡ Some next → StandsAt ts rest next
  pipe_ends token mode fs next is s e =
      option_and_then_some {P = StandsAt ts rest next} (λ p. stored p fs) (pipe_held mode) next e
      (λ p ep eq. stored_derives token p fs next is (pipeline_derives mode fs p s ep) eq)

  sep_derives : (token : Token) (mode : Mode) (fs : List Frame) (next : State) → IsSep token
      → Stands ts mode fs (token ∷ rest) → sep_step mode fs ≡ Some next → StandsAt ts rest next
  sep_derives token Mode.Want fs next is s e =
      if_some (StandsAt ts rest) (is_body fs) (state_of Mode.Want fs) next e (λ q. sep_opens token fs is s q)
  sep_derives token Mode.Loaded fs next is (mid, o, d, body) e =
      at_some (StandsAt ts rest) (state_of Mode.Want fs) next e (load_opens token fs is o d body)
  sep_derives token mode fs next is s e = pipe_ends token mode fs next is s e

  oper_derives : (op : Oper) (token : Token) (mode : Mode) (fs : List Frame) (next : State) → IsOp op token
      → Stands ts mode fs (token ∷ rest) → oper_step op token.from mode fs ≡ Some next → StandsAt ts rest next
  oper_derives Oper.LeftParen token mode fs next is s e = open_derives token mode fs next is s e
  oper_derives Oper.RightParen token mode fs next is s e = close_derives token mode fs next is s e
  oper_derives Oper.Comma token mode fs next is s e = comma_derives token mode fs next is s e
  oper_derives Oper.Set token mode fs next is s e = label_derives token mode fs next is s e
  oper_derives Oper.BarPipe token mode fs next is s e = pipe_derives token mode fs next (inl is) s e
  oper_derives Oper.PercentPipe token mode fs next is s e = pipe_derives token mode fs next (inr is) s e
  oper_derives Oper.Assign token mode fs next is s e = assign_derives token mode fs next is s e
  oper_derives Oper.Semicolon token mode fs next is s e = sep_derives token mode fs next (inr is) s e
  oper_derives op token mode fs next is s e = operator_derives op token mode fs next is s e

  pub kind_derives : (what : TokenKind) (token : Token) (mode : Mode) (fs : List Frame) (next : State)
      → token.kind ≡ what → Stands ts mode fs (token ∷ rest) → kind_step what token.from mode fs ≡ Some next → StandsAt ts rest next
  kind_derives (TokenKind.Name n) token mode fs next is s e = name_derives n token mode fs next is s e
  kind_derives (TokenKind.Whole x) token mode fs next is s e = literal_derives (kind.Whole x) token mode fs next (ap literal_of is) s e
  kind_derives (TokenKind.Decimal x) token mode fs next is s e = literal_derives (kind.Decimal x) token mode fs next (ap literal_of is) s e
  kind_derives (TokenKind.Word x) token mode fs next is s e = literal_derives (kind.Word x) token mode fs next (ap literal_of is) s e
  kind_derives (TokenKind.Str n) token mode fs next is s e = text_step_derives n token mode fs next is s e
  kind_derives (TokenKind.Op op) token mode fs next is s e = oper_derives op token mode fs next is s e
  kind_derives TokenKind.Line token mode fs next is s e = sep_derives token mode fs next (inl is) s e

-- What a run comes to is derived.
pub run_derives : (ts : List Token) (rest : List Token) (state next : State) → StandsAt ts rest state → run rest state ≡ Some next
    → StandsAt ts [] next
run_derives ts [] state next s e = at_some (StandsAt ts []) state next e s
run_derives ts (token ∷ rest) state next s e =
    option_and_then_some {P = StandsAt ts [] next} (λ n. run rest n) (step token state) next e
    (λ mid em en. run_derives ts rest mid next (kind_derives ts rest token.kind token state.mode state.frames mid refl s em) en)

-- So is the script that is read whole.
pub finish_derives : {ts : List Token} (state : State) (script : Script) → StandsAt ts [] state → finish state ≡ Some script
    → Derives ts script
finish_derives {ts} state script s e =
    option_and_then_some {P = Derives ts script} (λ p. finished p state.frames) (pipe_held state.mode) script e
    (λ p ep eq. go p state.frames (pipeline_derives state.mode state.frames p s ep) eq)
  where
    go : (p : Pipe) (fs : List Frame) → PipeRead ts [] fs p → finished p fs ≡ Some script → Derives ts script
    go p (Frame.Body assigns ∷ fs) x h =
        let b = open_body x.opens in
        at_some (Derives ts) (record { assigns = assigns; last = p }) script h
        (record { begin = b.0; from = x.mid; to = x.low; lead = b.1; statements = b.2; last = x.derives; end = x.seps })
    go p [] x h = no_some h
    go p _ x h = no_some h
