-- What is read is derived: the state behind the tokens carries their derivation.
use Rattle.std.proofs.Common.{◌≡◌, ℕ, zero, suc, ◌<◌, ◌≤◌, List, [], ◌∷◌, ◌++◌, true, leb, ◌⊎◌, inl, inr, Some, refl, sym, ap, subst, arith, codes}
use Rattle.token_scan.specs.declared.token.Token.{Token}
use Rattle.token_scan.specs.declared.token.TokenKind.{TokenKind}
use Rattle.token_scan.specs.declared.token.Oper.{Oper}
use Rattle.syntax_tree.specs.declared.tree.Term.{Term}
use Rattle.syntax_tree.specs.declared.tree.Call.{Call}
use Rattle.syntax_tree.specs.declared.tree.Arg.{Arg}
use Rattle.syntax_tree.specs.declared.tree.Pipe.{Pipe}
use Rattle.syntax_tree.specs.declared.tree.TermKind.TheVariants as kind
use Rattle.syntax_steps.specs.declared.frame.Frame.{Frame}
use Rattle.syntax_steps.specs.declared.state.Mode.{Mode}
use Rattle.syntax_steps.specs.declared.state.State.{State}
use Rattle.syntax_steps.specs.declared.state.Held.{Held}
use Rattle.syntax_tree.specs.Trees.{name_term, text_term, binary_term, unary_term}
use Rattle.syntax_steps.specs.Rules.{binary_rule, left_rule, prefix_rule, is_package}
use Rattle.verb_syntax.specs.Grammar.{IsOp, IsName, IsLabel, literal_of, place, Value, Calling, Args, Argument, Calls, Pipeline, Statement, Seps, Statements}
use Rattle.syntax_steps.specs.Levels.{need, takes_pipe, takes_call}
use Rattle.syntax_steps.specs.Machine.{held_of, settle, held, is_body, is_args, begin}
use Rattle.syntax_steps.proofs.Basics.{leb_true, from_leb, no_some}
use Rattle.verb_syntax.specs.Unfinished.{Opens}
use Rattle.syntax_steps.proofs.Basics.{le_cases, leb_false, at_some, if_some}

-- What each state says of the tokens: they are the begin of the unfinished rules, and of what stands behind them.
abbrev pub Stands : List Token → Mode → List Frame → List Token → Type 0
Stands ts Mode.Want fs rest = Opens ts fs rest
Stands ts (Mode.Named n at) fs rest = (token : Token) × Opens ts fs (token ∷ rest) × IsName n token × (at ≡ token.from)
Stands ts (Mode.Texted n at) fs rest =
    (token : Token) × Opens ts fs (token ∷ rest) × (token.kind ≡ TokenKind.Str n) × (is_args fs ≡ true) × (at ≡ token.from)
Stands ts (Mode.Have start a) fs rest =
    (mid : List Token) × Opens ts fs mid × Value 10 mid a rest × (need fs ≤ 10) × (start ≡ place mid)
Stands ts (Mode.Piping n at calls) fs rest =
    (token : Token) × (mid : List Token) × Opens ts fs (token ∷ mid) × IsName n token × Calls mid calls rest
    × (takes_pipe fs ≡ true) × (at ≡ token.from)
Stands ts Mode.Library fs rest =
    (word : Token) × (left : Token) × Opens ts fs (word ∷ left ∷ rest) × IsName (codes "library") word
    × IsOp Oper.LeftParen left × (is_body fs ≡ true)
Stands ts Mode.Package fs rest =
    (word : Token) × (left : Token) × (token : Token) × (n : List ℕ) × Opens ts fs (word ∷ left ∷ token ∷ rest)
    × IsName (codes "library") word × IsOp Oper.LeftParen left × IsName n token × (is_package n ≡ true) × (is_body fs ≡ true)
Stands ts Mode.Loaded fs rest = (mid : List Token) × Opens ts fs mid × Statement mid [] rest × (is_body fs ≡ true)
Stands ts (Mode.Last p) fs rest =
    (mid : List Token) × (low : List Token) × Opens ts fs mid × Pipeline mid p low × Seps low rest × (is_body fs ≡ true)

abbrev pub StandsAt : List Token → List Token → State → Type 0
StandsAt ts rest state = Stands ts state.mode state.frames rest

-- What the unfinished rules say, by the innermost.
pub record Begun (ts : List Token) (n : List ℕ) (at : ℕ) (fs : List Frame) (mid : List Token) : Type 0 where
  pub token : Token
  pub left : Token
  pub is : IsName n token
  pub is_left : IsOp Oper.LeftParen left
  pub takes : takes_call fs ≡ true
  pub opens : Opens ts fs (token ∷ left ∷ mid)
  pub at_is : at ≡ token.from

pub open_args : {ts rest : List Token} {n : List ℕ} {at : ℕ} {args : List Arg} {fs : List Frame}
    → Opens ts (Frame.Args n at args ∷ fs) rest
    → (mid : List Token) × Begun ts n at fs mid
    × ((args ≡ []) × (mid ≡ rest) ⊎ ((comma : Token) × IsOp Oper.Comma comma × Args mid args (comma ∷ rest)))
open_args (Opens.called {rest = rest} n token left is is_left takes o) =
    (rest, record { token = token; left = left; is = is; is_left = is_left; takes = takes; opens = o; at_is = refl }, inl (refl, refl))
open_args (Opens.listed {mid = mid} n token left comma is is_left is_comma takes o d) =
    (mid, record { token = token; left = left; is = is; is_left = is_left; takes = takes; opens = o; at_is = refl }, inr (comma, is_comma, d))

-- with one more argument
pub more_args : {ts rest low : List Token} {n : List ℕ} {at : ℕ} {args : List Arg} {fs : List Frame} {x : Arg}
    → Opens ts (Frame.Args n at args ∷ fs) rest → Argument rest x low
    → (mid : List Token) × Begun ts n at fs mid × Args mid (args ++ x ∷ []) low
more_args {ts} {rest} {low} {n} {at} {args} {fs} {x} o d = go (open_args o)
  where
    go : (mid : List Token) × Begun ts n at fs mid
        × ((args ≡ []) × (mid ≡ rest) ⊎ ((comma : Token) × IsOp Oper.Comma comma × Args mid args (comma ∷ rest)))
        → (mid : List Token) × Begun ts n at fs mid × Args mid (args ++ x ∷ []) low
    go (mid, b, inl (e, same)) = (mid, b, rw (e, same) (Args.one d))
    go (mid, b, inr (comma, is, known)) = (mid, b, Args.more comma is known d)

pub record BegunRight (ts : List Token) (op : Oper) (at : ℕ) (a : Term) (fs : List Frame) (rest : List Token) : Type 0 where
  pub mid : List Token
  pub token : Token
  pub is : IsOp op token
  pub lt : binary_rule op < 10
  pub le : need fs ≤ binary_rule op
  pub opens : Opens ts fs mid
  pub operand : Value (left_rule op) mid a (token ∷ rest)
  pub at_is : at ≡ place mid

pub open_right : {ts rest : List Token} {op : Oper} {at : ℕ} {a : Term} {fs : List Frame}
    → Opens ts (Frame.Right op at a ∷ fs) rest → BegunRight ts op at a fs rest
open_right (Opens.right {mid = mid} op token is lt le o d) =
    record { mid = mid; token = token; is = is; lt = lt; le = le; opens = o; operand = d; at_is = refl }

pub record BegunUnder (ts : List Token) (op : Oper) (at : ℕ) (fs : List Frame) (rest : List Token) : Type 0 where
  pub token : Token
  pub is : IsOp op token
  pub lt : prefix_rule op < 10
  pub le : need fs ≤ prefix_rule op
  pub opens : Opens ts fs (token ∷ rest)
  pub at_is : at ≡ token.from

pub open_under : {ts rest : List Token} {op : Oper} {at : ℕ} {fs : List Frame}
    → Opens ts (Frame.Under op at ∷ fs) rest → BegunUnder ts op at fs rest
open_under (Opens.under op token is lt le o) = record { token = token; is = is; lt = lt; le = le; opens = o; at_is = refl }

pub open_paren : {ts rest : List Token} {at : ℕ} {fs : List Frame} → Opens ts (Frame.Paren at ∷ fs) rest
    → (left : Token) × IsOp Oper.LeftParen left × (need fs ≤ 10) × Opens ts fs (left ∷ rest) × (at ≡ left.from)
open_paren (Opens.within left is le o) = (left, is, le, o, refl)

pub open_label : {ts rest : List Token} {label : List ℕ} {at : ℕ} {fs : List Frame} → Opens ts (Frame.Label label at ∷ fs) rest
    → (token : Token) × (set : Token) × IsLabel label token × IsOp Oper.Set set × Opens ts fs (token ∷ set ∷ rest) × (at ≡ token.from)
open_label (Opens.labelled n at label token set is is_set o) = (token, set, is, is_set, o, refl)

pub open_piped : {ts rest : List Token} {n : List ℕ} {at : ℕ} {calls : List Call} {fs : List Frame} {c : Call} {low : List Token}
    → Opens ts (Frame.Piped n at calls ∷ fs) rest → Calling rest c low
    → (token : Token) × (mid : List Token) × Opens ts fs (token ∷ mid) × IsName n token × Calls mid (calls ++ c ∷ []) low
    × (takes_pipe fs ≡ true) × (at ≡ token.from)
open_piped (Opens.begun {rest = rest} n token pipe is is_pipe takes o) d =
    (token, pipe ∷ rest, o, is, Calls.first pipe is_pipe d, takes, refl)
open_piped (Opens.goes {mid = mid} n token pipe is is_pipe takes o known) d =
    (token, mid, o, is, Calls.then pipe is_pipe known d, takes, refl)

pub open_body : {ts rest : List Token} {assigns : List (List ℕ × Pipe)} {fs : List Frame} → Opens ts (Frame.Body assigns ∷ fs) rest
    → (begin : List Token) × Seps ts begin × Statements begin assigns rest × (fs ≡ [])
open_body (Opens.body {begin = begin} s d) = (begin, s, d, refl)

pub open_target : {ts rest : List Token} {n : List ℕ} {assigns : List (List ℕ × Pipe)} {fs : List Frame}
    → Opens ts (Frame.Target n ∷ Frame.Body assigns ∷ fs) rest
    → (token : Token) × (arrow : Token) × IsName n token × IsOp Oper.Assign arrow
    × Opens ts (Frame.Body assigns ∷ []) (token ∷ arrow ∷ rest) × (fs ≡ [])
open_target (Opens.target n token arrow is is_arrow o) = (token, arrow, is, is_arrow, o, refl)

-- A tighter rule derives what a looser one does.
pub loosened : {ts rest : List Token} {a : Term} (k r : ℕ) → r ≤ k → k ≤ 10 → Value k ts a rest → Value r ts a rest
loosened {ts} {rest} {a} zero r le small d = let e : zero ≡ r = omega arith in subst (λ (x : ℕ). Value x ts a rest) e d
loosened {ts} {rest} {a} (suc k) r le small d =
    elim (le_cases r k) [
      | inl q ↦ loosened k r q (omega arith) (Value.next (omega arith) d)
      | inr q ↦ let e : suc k ≡ r = omega arith in subst (λ (x : ℕ). Value x ts a rest) e d
    ]

-- What settles is derived.
pub record Settled (ts : List Token) (rest : List Token) (rule : ℕ) (h : Held) : Type 0 where
  pub mid : List Token
  pub tight : ℕ
  pub opens : Opens ts h.frames mid
  pub derives : Value tight mid h.term rest
  pub stands : h.start ≡ place mid
  pub fits : need h.frames ≤ tight
  pub bound : rule ≤ tight
  pub small : tight ≤ 10

pub settled_at : {ts rest mid : List Token} (rule tight start : ℕ) (a : Term) (fs : List Frame) → Opens ts fs mid
    → Value tight mid a rest → start ≡ place mid → need fs ≤ tight → rule ≤ tight → tight ≤ 10
    → Settled ts rest rule (held_of start a fs)
settled_at {ts} {rest} {mid} rule tight start a fs o d e fits bound small = record {
  mid = mid;
  tight = tight;
  opens = o;
  derives = d;
  stands = e;
  fits = fits;
  bound = bound;
  small = small;
}

binary_derives : {ts rest mid : List Token} {op : Oper} {at : ℕ} {left a : Term} {fs : List Frame} (tight : ℕ)
    → BegunRight ts op at left fs mid → Value tight mid a rest → suc (binary_rule op) ≤ tight → tight ≤ 10
    → (low : List Token) × Opens ts fs low × Value (binary_rule op) low (binary_term at op left a) rest × (at ≡ place low)
binary_derives {ts} {rest} {mid} {op} {at} {left} {a} {fs} tight b d fits small = (
  b.mid,
  b.opens,
  subst (λ (p : ℕ). Value (binary_rule op) b.mid (binary_term p op left a) rest) (sym b.at_is)
      (Value.binary op b.token b.is b.lt b.operand (loosened tight (suc (binary_rule op)) fits small d)),
  b.at_is,
)

under_derives : {ts rest mid : List Token} {op : Oper} {at : ℕ} {a : Term} {fs : List Frame} (tight : ℕ)
    → BegunUnder ts op at fs mid → Value tight mid a rest → prefix_rule op ≤ tight → tight ≤ 10
    → (low : List Token) × Opens ts fs low × Value (prefix_rule op) low (unary_term at op a) rest × (at ≡ place low)
under_derives {ts} {rest} {mid} {op} {at} {a} {fs} tight b d fits small = (
  b.token ∷ mid,
  b.opens,
  subst (λ (p : ℕ). Value (prefix_rule op) (b.token ∷ mid) (unary_term p op a) rest) (sym b.at_is)
      (Value.prefix op b.token b.is b.lt (loosened tight (prefix_rule op) fits small d)),
  b.at_is,
)

pub settle_derives : {ts rest : List Token} (rule tight start : ℕ) (a : Term) (fs : List Frame) (mid : List Token) → Opens ts fs mid
    → Value tight mid a rest → start ≡ place mid → need fs ≤ tight → rule ≤ tight → tight ≤ 10
    → Settled ts rest rule (settle rule start a fs)
settle_derives rule tight start a [] mid o d e fits bound small = settled_at rule tight start a [] o d e fits bound small
settle_derives {ts} {rest} rule tight start a (Frame.Right op at left ∷ fs) mid o d e fits bound small =
    elim (le_cases rule (binary_rule op)) [
      | inl q ↦ rw (leb_true rule (binary_rule op) q)
          (let b = open_right o in
          let x = binary_derives tight b d fits small in
          settle_derives rule (binary_rule op) at (binary_term at op left a) fs x.0 x.1 x.2 x.3 b.le q (omega (arith, b.lt)))
      | inr q ↦ rw (leb_false rule (binary_rule op) q)
          (settled_at rule tight start a (Frame.Right op at left ∷ fs) o d e fits bound small)
    ]
settle_derives {ts} {rest} rule tight start a (Frame.Under op at ∷ fs) mid o d e fits bound small =
    elim (le_cases rule (prefix_rule op)) [
      | inl q ↦ rw (leb_true rule (prefix_rule op) q)
          (let b = open_under o in
          let x = under_derives tight b d fits small in
          settle_derives rule (prefix_rule op) at (unary_term at op a) fs x.0 x.1 x.2 x.3 b.le q (omega (arith, b.lt)))
      | inr q ↦ rw (leb_false rule (prefix_rule op) q)
          (settled_at rule tight start a (Frame.Under op at ∷ fs) o d e fits bound small)
    ]
settle_derives rule tight start a (frame ∷ fs) mid o d e fits bound small =
    settled_at rule tight start a (frame ∷ fs) o d e fits bound small

name_derives : {ts rest : List Token} (n : List ℕ) (at : ℕ) (fs : List Frame) → Stands ts (Mode.Named n at) fs rest
    → need fs ≤ 10 → Settled ts rest 10 (held_of at (name_term at n) fs)
name_derives {ts} {rest} n at fs (token, o, is, e) le =
    settled_at 10 10 at (name_term at n) fs o
    (subst (λ (p : ℕ). Value 10 (token ∷ rest) (name_term p n) rest) (sym e) (Value.name n token is)) e le
    (omega arith) (omega arith)

pub args_need : (fs : List Frame) → is_args fs ≡ true → need fs ≤ 10
args_need (Frame.Args n at args ∷ fs) e = omega arith
args_need [] e = absurd (cc)
args_need _ e = absurd (cc)

text_derives : {ts rest : List Token} (n : List ℕ) (at : ℕ) (fs : List Frame) → Stands ts (Mode.Texted n at) fs rest
    → Settled ts rest 10 (held_of at (text_term at n) fs)
text_derives {ts} {rest} n at fs (token, o, is, args, e) =
    settled_at 10 10 at (text_term at n) fs o
    (subst (λ (p : ℕ). Value 10 (token ∷ rest) (text_term p n) rest) (sym e)
    (Value.literal (kind.Str n) token (ap literal_of is))) e (args_need fs args)
    (omega arith) (omega arith)

-- the expression that is read is derived
pub held_derives : {ts rest : List Token} (mode : Mode) (fs : List Frame) (h : Held) → Stands ts mode fs rest
    → held mode fs ≡ Some h → Settled ts rest 10 h
held_derives {ts} {rest} (Mode.Named n at) fs h s e =
    if_some (Settled ts rest 10) (leb (need fs) 10) (held_of at (name_term at n) fs) h e
    (λ q. name_derives n at fs s (from_leb (need fs) 10 q))
held_derives {ts} {rest} (Mode.Texted n at) fs h s e =
    at_some (Settled ts rest 10) (held_of at (text_term at n) fs) h e (text_derives n at fs s)
held_derives {ts} {rest} (Mode.Have start a) fs h (mid, o, d, le, same) e =
    at_some (Settled ts rest 10) (held_of start a fs) h e
    (settled_at 10 10 start a fs o d same le (omega arith) (omega arith))
held_derives _ fs h s e = no_some e

-- and so it is where operators settle
pub held_settles : {ts rest : List Token} (rule : ℕ) (h : Held) → rule ≤ 10 → Settled ts rest 10 h
    → Settled ts rest rule (settle rule h.start h.term h.frames)
held_settles rule h le x =
    settle_derives rule x.tight h.start h.term h.frames x.mid x.opens x.derives x.stands x.fits (omega (arith, x.bound)) x.small
