-- The invariant of `parse`, and what follows from it.
use Rattle.std.proofs.Common.{◌≡◌, ℕ, suc, ◌+◌, ◌<◌, ◌≤◌, List, [], ◌∷◌, ◌++◌, length, Bool, true, false, cond, ltb, ◌&&◌, ◌||◌, ◌⊎◌, inl, inr, Option, Some, None, Result, Ok, Err, refl, sym, ◌∙◌, ap, subst, arith, append-nil, append_assoc, length-append, take, drop, get_or, take-append-drop}
use Rattle.std.proofs.Math.Seq.{drop-cons}
use Rattle.std.proofs.lemmas.List.{take_more}
use Rattle.std.proofs.lemmas.Option.{same_Some, option_and_then_some}
use Rattle.token_scan.specs.declared.token.Token.{Token}
use Rattle.token_scan.specs.declared.token.TokenKind.{TokenKind}
use Rattle.token_scan.specs.declared.token.Oper.{Oper}
use Rattle.syntax_tree.specs.declared.tree.Script.{Script}
use Rattle.verb_syntax.specs.declared.fault.SyntaxFault.{SyntaxFault}
use Rattle.verb_syntax.specs.declared.fault.SyntaxKind.{SyntaxKind}
use Rattle.syntax_steps.specs.declared.frame.Frame.{Frame}
use Rattle.syntax_steps.specs.declared.state.Mode.{Mode}
use Rattle.syntax_steps.specs.declared.state.State.{State}
use Rattle.verb_syntax.specs.declared.reader.Reader.{Reader}
use Rattle.verb_syntax.specs.Grammar.{Seps, Statements, Derives}
use Rattle.verb_syntax.specs.Lines.{is_passed, deeper, goes_on, unpassed, read, DerivesScript}
use Rattle.syntax_steps.specs.Levels.{levels}
use Rattle.verb_syntax.specs.Unfinished.{Opens}
use Rattle.verb_syntax.specs.Operators.{operators, operators_from, ends_operand, count_at}
use Rattle.verb_syntax.specs.Parsing.{Begins, IsDeep, AllShallow, IsTooDeep, IsUnfinished, IsFirstFault, IsParsed, DeriveOne}
use Rattle.scalar_value.specs.declared.memory.Or.{Or}
use Rattle.scalar_value.specs.declared.memory.Or.TheVariants.{Fault, Memory}
use Rattle.scalar_value.specs.Gives.{Gives}
use Rattle.syntax_steps.specs.Machine.{◌>>=◌, state_of, begin, kind_step, step, run, finish}
use Rattle.std.specs.Prelude.{ℤ}
use Rattle.verb_syntax.specs.Opening.{OpenOne, OpensAll}
use Rattle.verb_syntax.specs.Reader.{reader_at, moved, reads}
use Rattle.syntax_steps.proofs.Basics.{from_ltb, from_ltb_false, no_some}
use Rattle.verb_syntax.proofs.Complete.{run_step}
use Rattle.verb_syntax.proofs.Sound.{Stands, StandsAt}
use Rattle.verb_syntax.proofs.Steps.{run_derives, finish_derives}
use Rattle.verb_syntax.proofs.Scripts.{script_read, opens_read}
use Rattle.verb_syntax.proofs.Completing.{NoLines, completes}
use Rattle.syntax_steps.proofs.Kept.{Kept, kind_kept}

start_stands : (ts : List Token) → StandsAt ts ts begin
start_stands ts = Opens.body Seps.none Statements.no_more

run_append : (xs ys : List Token) (state next : State) → run xs state ≡ Some next → run (xs ++ ys) state ≡ run ys next
run_append [] ys state next e = ap (run ys) (same_Some state next e)
run_append (x ∷ xs) ys state next e =
    option_and_then_some {P = run (x ∷ (xs ++ ys)) state ≡ run ys next} (λ n. run xs n) (step x state) next e
    (λ mid em en. run_step x (xs ++ ys) state mid em ∙ run_append xs ys mid next en)

whole_script : (ts : List Token) (script : Script) → (run ts begin >>= finish) ≡ Some script → Derives ts script
whole_script ts script e =
    option_and_then_some {P = Derives ts script} finish (run ts begin) script e
    (λ state es ef. finish_derives state script (run_derives ts ts begin state (start_stands ts) es) ef)

cond_append : (b : Bool) (xs xs' ys ys' zs : List Token) → xs ≡ xs' ++ zs → ys ≡ ys' ++ zs → cond b xs ys ≡ cond b xs' ys' ++ zs
cond_append true xs xs' ys ys' zs p q = p
cond_append false xs xs' ys ys' zs p q = q

unpassed_plain : (more : List Token) (depth : ℕ) (after : Bool) → NoLines more → unpassed depth after more ≡ more
unpassed_plain [] depth after h = refl
unpassed_plain (t ∷ ts) depth after (line, plain) =
    ap (λ (b : Bool). cond (b && (ltb 0 depth || after)) (unpassed depth after ts) (t ∷ unpassed (deeper t.kind depth) (goes_on t.kind) ts)) line
    ∙ ap (λ (l : List Token). t ∷ l) (unpassed_plain ts (deeper t.kind depth) (goes_on t.kind) plain)

unpassed-append : (ts more : List Token) (depth : ℕ) (after : Bool) → NoLines more
    → unpassed depth after (ts ++ more) ≡ unpassed depth after ts ++ more
unpassed-append [] more depth after h = unpassed_plain more depth after h
unpassed-append (t ∷ ts) more depth after h =
    cond_append (is_passed t.kind depth after) (unpassed depth after (ts ++ more)) (unpassed depth after ts)
    (t ∷ unpassed (deeper t.kind depth) (goes_on t.kind) (ts ++ more)) (t ∷ unpassed (deeper t.kind depth) (goes_on t.kind) ts) more
    (unpassed-append ts more depth after h)
    (ap (λ (l : List Token). t ∷ l) (unpassed-append ts more (deeper t.kind depth) (goes_on t.kind) h))

-- What is read begins a script.
begins : (tokens : List Token) (state : State) → run (read tokens) begin ≡ Some state → Begins tokens
begins tokens state e =
    let c = completes (read tokens) [] state.mode state.frames (run_derives (read tokens) (read tokens) begin state (start_stands (read tokens)) e) in (
      c.rest,
      c.script,
      subst (λ (l : List Token). Derives l c.script) (sym (unpassed-append tokens c.rest 0 false c.plain))
          (whole_script (read tokens ++ c.rest) c.script
          (ap (λ (o : Option State). o >>= finish) (run_append (read tokens) c.rest begin state e) ∙ c.ends)),
    )

-- What `parse` keeps while it reads.
pub record IsAt (front : List Token) (reader : Reader) : Type 0 where
  pub runs : (ts : List Token) → run (read front ++ ts) begin ≡ run ts reader.state
  pub lines : (ts : List Token) → read (front ++ ts) ≡ read front ++ unpassed reader.depth reader.goes_on ts
  pub counts : (ts : List Token) → operators (read front ++ ts) ≡ operators_from reader.depth reader.whole reader.count ts
  pub shallow : AllShallow front
  pub few : levels reader.state.frames ≤ 128
  pub count_small : reader.count ≤ 1024
  pub depth_small : reader.depth ≤ length front

run_front : (front : List Token) (reader : Reader) → IsAt front reader → run (read front) begin ≡ Some reader.state
run_front front reader x = ap (λ (l : List Token). run l begin) (sym (append-nil (read front))) ∙ x.runs []

deep_again : (front other : List Token) → read front ≡ read other → IsDeep front → IsDeep other
deep_again front other e (inl (fs, o, h)) = inl (fs, subst (λ (l : List Token). Opens l fs []) e o, h)
deep_again front other e (inr h) = inr (subst (λ (l : List Token). 1024 < operators l) e h)

-- a front of one token more
front_cases : (front a b : List Token) (token : Token) → front ++ token ∷ [] ≡ a ++ b
    → (front ++ token ∷ [] ≡ a) ⊎ ((c : List Token) × (front ≡ a ++ c))
front_cases front [] b token e = inr (front, refl)
front_cases [] (x ∷ []) b token e = let h : token ≡ x = cc in inl (cc)
front_cases [] (x ∷ y ∷ ys) b token e = absurd (cc)
front_cases (f ∷ fs) (x ∷ xs) b token e =
    let h : f ≡ x = cc in
    let t : fs ++ token ∷ [] ≡ xs ++ b = cc in
    go h (front_cases fs xs b token t)
  where
    go : f ≡ x → (fs ++ token ∷ [] ≡ xs) ⊎ ((c : List Token) × (fs ≡ xs ++ c))
        → (f ∷ (fs ++ token ∷ []) ≡ x ∷ xs) ⊎ ((c : List Token) × (f ∷ fs ≡ x ∷ (xs ++ c)))
    go h (inl q) = inl (cc)
    go h (inr (c, q)) = inr (c, cc)

shallow_more : (front : List Token) (token : Token) → AllShallow front → (IsDeep (front ++ token ∷ []) → ⊥)
    → AllShallow (front ++ token ∷ [])
shallow_more front token s no_deep a b e deep = go (front_cases front a b token e)
  where
    go : (front ++ token ∷ [] ≡ a) ⊎ ((c : List Token) × (front ≡ a ++ c)) → ⊥
    go (inl q) = no_deep (subst IsDeep (sym q) deep)
    go (inr (c, q)) = s a c q deep

-- a line feed that is passed over
at_passed : (front : List Token) (token : Token) (reader : Reader) → IsAt front reader
    → is_passed token.kind reader.depth reader.goes_on ≡ true → IsAt (front ++ token ∷ []) reader
at_passed front token reader x e = record {
  runs = λ ts. ap (λ (l : List Token). run (l ++ ts) begin) same ∙ x.runs ts;
  lines = λ ts. ap read (append_assoc front (token ∷ []) ts) ∙ (x.lines (token ∷ ts)
      ∙ (ap (λ (b : Bool). read front ++ cond b (unpassed reader.depth reader.goes_on ts)
      (token ∷ unpassed (deeper token.kind reader.depth) (goes_on token.kind) ts)) e
      ∙ ap (λ (l : List Token). l ++ unpassed reader.depth reader.goes_on ts) (sym same)));
  counts = λ ts. ap (λ (l : List Token). operators (l ++ ts)) same ∙ x.counts ts;
  shallow = shallow_more front token x.shallow
      (λ deep. x.shallow front [] (sym (append-nil front)) (deep_again (front ++ token ∷ []) front same deep));
  few = x.few;
  count_small = x.count_small;
  depth_small = let h = x.depth_small in omega (arith, length-append front (token ∷ []));
}
  where
    same : read (front ++ token ∷ []) ≡ read front
    same = x.lines (token ∷ []) ∙ (ap (λ (b : Bool). read front ++ cond b [] (token ∷ [])) e ∙ append-nil (read front))

deeper_small : (what : TokenKind) (depth : ℕ) → deeper what depth ≤ suc depth
deeper_small (TokenKind.Op Oper.LeftParen) depth = omega arith
deeper_small (TokenKind.Op Oper.RightParen) depth = omega arith
deeper_small _ depth = omega arith

-- a token behind which the reader goes on, within the limits or not
module _ (front : List Token) (token : Token) (reader : Reader) (state : State) (x : IsAt front reader)
    (unpassed_is : is_passed token.kind reader.depth reader.goes_on ≡ false) (steps : step token reader.state ≡ Some state) where
  more : read (front ++ token ∷ []) ≡ read front ++ token ∷ []
  more = x.lines (token ∷ []) ∙ ap (λ (b : Bool). read front ++ cond b [] (token ∷ [])) unpassed_is

  runs_on : (ts : List Token) → run (read (front ++ token ∷ []) ++ ts) begin ≡ run ts state
  runs_on ts =
      ap (λ (l : List Token). run (l ++ ts) begin) more
      ∙ (ap (λ (l : List Token). run l begin) (append_assoc (read front) (token ∷ []) ts)
      ∙ (x.runs (token ∷ ts) ∙ run_step token ts reader.state state steps))

  runs_to : run (read (front ++ token ∷ [])) begin ≡ Some state
  runs_to = ap (λ (l : List Token). run l begin) (sym (append-nil (read (front ++ token ∷ [])))) ∙ runs_on []

  counts_on : (ts : List Token) → operators (read (front ++ token ∷ []) ++ ts)
      ≡ operators_from (deeper token.kind reader.depth) (ends_operand token.kind) (count_at token.kind reader.depth reader.whole reader.count) ts
  counts_on ts =
      ap (λ (l : List Token). operators (l ++ ts)) more
      ∙ (ap operators (append_assoc (read front) (token ∷ []) ts) ∙ x.counts (token ∷ ts))

  counts_to : operators (read (front ++ token ∷ [])) ≡ count_at token.kind reader.depth reader.whole reader.count
  counts_to = ap operators (sym (append-nil (read (front ++ token ∷ [])))) ∙ counts_on []

  lines_on : (ts : List Token) → read ((front ++ token ∷ []) ++ ts)
      ≡ read (front ++ token ∷ []) ++ unpassed (deeper token.kind reader.depth) (goes_on token.kind) ts
  lines_on ts =
      ap read (append_assoc front (token ∷ []) ts) ∙ (x.lines (token ∷ ts)
      ∙ (ap (λ (b : Bool). read front ++ cond b (unpassed reader.depth reader.goes_on ts)
      (token ∷ unpassed (deeper token.kind reader.depth) (goes_on token.kind) ts)) unpassed_is
      ∙ (sym (append_assoc (read front) (token ∷ []) (unpassed (deeper token.kind reader.depth) (goes_on token.kind) ts))
      ∙ ap (λ (l : List Token). l ++ unpassed (deeper token.kind reader.depth) (goes_on token.kind) ts) (sym more))))

  not_deep : levels state.frames ≤ 128 → count_at token.kind reader.depth reader.whole reader.count ≤ 1024
      → IsDeep (front ++ token ∷ []) → ⊥
  not_deep few small (inl (fs, o, h)) =
      let same : state ≡ state_of Mode.Want fs = same_Some state (state_of Mode.Want fs) (sym runs_to ∙ opens_read o) in
      let e : levels state.frames ≡ levels fs = ap (λ (s : State). levels s.frames) same in
      omega arith
  not_deep few small (inr h) = let e = counts_to in omega (arith, e)

  at_moved : levels state.frames ≤ 128 → count_at token.kind reader.depth reader.whole reader.count ≤ 1024
      → IsAt (front ++ token ∷ []) (reader_at token reader state)
  at_moved few small = record {
    runs = runs_on;
    lines = lines_on;
    counts = counts_on;
    shallow = shallow_more front token x.shallow (not_deep few small);
    few = few;
    count_small = small;
    depth_small = let h = x.depth_small in omega (arith, length-append front (token ∷ []), deeper_small token.kind reader.depth);
  }

  begins_on : Begins (front ++ token ∷ [])
  begins_on = begins (front ++ token ∷ []) state runs_to

  deep_level : 128 < levels state.frames → IsDeep (front ++ token ∷ [])
  deep_level h = inl (
    state.frames,
    go state.mode state.frames
        (run_derives (read (front ++ token ∷ [])) (read (front ++ token ∷ [])) begin state (start_stands (read (front ++ token ∷ []))) runs_to)
        (kind_kept token.kind token.from reader.state.mode reader.state.frames state steps) h,
    h,
  )
    where
      go : (mode : Mode) (fs : List Frame) → Stands (read (front ++ token ∷ [])) mode fs []
          → Kept (levels reader.state.frames) mode fs → 128 < levels fs → Opens (read (front ++ token ∷ [])) fs []
      go Mode.Want fs s k lt = s
      go (Mode.Named n at) fs s k lt = let few = x.few in absurd (omega (arith, few))
      go _ fs s k lt = let few = x.few in absurd (omega (arith, few))

  deep_count : 1024 < count_at token.kind reader.depth reader.whole reader.count → IsDeep (front ++ token ∷ [])
  deep_count h = inr (rw counts_to h)

abbrev too_deep : Token → SyntaxFault
too_deep token = record { kind = SyntaxKind.TooDeep; at = token.from }

abbrev unexpected : Token → SyntaxFault
unexpected token = record { kind = SyntaxKind.Unexpected; at = token.from }

from_or : (x y : Bool) → (x || y) ≡ true → (x ≡ true) ⊎ (y ≡ true)
from_or true y h = inl refl
from_or false y h = inr h

from_or_false : (x y : Bool) → (x || y) ≡ false → (x ≡ false) × (y ≡ false)
from_or_false true y h = absurd (cc)
from_or_false false y h = (refl, h)

same_ok : {A B : Type 0} (x y : A) → ◌≡◌ {A = Result A B} (Ok x) (Ok y) → x ≡ y
same_ok x y e = cc

same_err : {A B : Type 0} (x y : B) → ◌≡◌ {A = Result A B} (Err x) (Err y) → x ≡ y
same_err x y e = cc

-- One more token is read.
pub reads_ok : (front : List Token) (token : Token) (reader next : Reader) → IsAt front reader → reads token reader ≡ Ok next
    → IsAt (front ++ token ∷ []) next
reads_ok front token reader next x e = go (is_passed token.kind reader.depth reader.goes_on) refl e
  where
    within : (state : State) → is_passed token.kind reader.depth reader.goes_on ≡ false → step token reader.state ≡ Some state
        → (b : Bool) → (ltb 128 (levels state.frames) || ltb 1024 (count_at token.kind reader.depth reader.whole reader.count)) ≡ b
        → cond {A = Result Reader SyntaxFault} b (Err (too_deep token)) (Ok (reader_at token reader state)) ≡ Ok next
        → IsAt (front ++ token ∷ []) next
    within state q s true over h = absurd (cc)
    within state q s false over h =
        let p = from_or_false (ltb 128 (levels state.frames)) (ltb 1024 (count_at token.kind reader.depth reader.whole reader.count)) over in
        subst (IsAt (front ++ token ∷ [])) (same_ok (reader_at token reader state) next h)
        (at_moved front token reader state x q s (from_ltb_false 128 (levels state.frames) p.0)
        (from_ltb_false 1024 (count_at token.kind reader.depth reader.whole reader.count) p.1))

    steps : is_passed token.kind reader.depth reader.goes_on ≡ false → (o : Option State) → step token reader.state ≡ o
        → moved token reader o ≡ Ok next → IsAt (front ++ token ∷ []) next
    steps q None s h = absurd (cc)
    steps q (Some state) s h =
        within state q s (ltb 128 (levels state.frames) || ltb 1024 (count_at token.kind reader.depth reader.whole reader.count)) refl h

    go : (b : Bool) → is_passed token.kind reader.depth reader.goes_on ≡ b
        → cond {A = Result Reader SyntaxFault} b (Ok reader) (moved token reader (step token reader.state)) ≡ Ok next → IsAt (front ++ token ∷ []) next
    go true q h = subst (IsAt (front ++ token ∷ [])) (same_ok reader next h) (at_passed front token reader x q)
    go false q h = steps q (step token reader.state) refl h

no_begin : (front : List Token) (token : Token) (reader : Reader) → IsAt front reader
    → is_passed token.kind reader.depth reader.goes_on ≡ false → step token reader.state ≡ None
    → Begins (front ++ token ∷ []) → ⊥
no_begin front token reader x q s (more, script, d) =
    let y = script_read (read ((front ++ token ∷ []) ++ more)) script d in
    let rest : List Token = unpassed (deeper token.kind reader.depth) (goes_on token.kind) more in
    let same : read ((front ++ token ∷ []) ++ more) ≡ read front ++ token ∷ rest =
    ap read (append_assoc front (token ∷ []) more) ∙ (x.lines (token ∷ more)
    ∙ ap (λ (b : Bool). read front ++ cond b (unpassed reader.depth reader.goes_on more) (token ∷ rest)) q) in
    let none : run (token ∷ rest) reader.state ≡ None = ap (λ (o : Option State). o >>= λ n. run rest n) s in
    no_some {x = y.0} (sym none ∙ (sym (x.runs (token ∷ rest)) ∙ (ap (λ (l : List Token). run l begin) (sym same) ∙ y.1)))

-- A token is the first fault.
pub reads_fault : (tokens front rest : List Token) (token : Token) (reader : Reader) (fault : SyntaxFault) (end : ℕ)
    → IsAt front reader → tokens ≡ front ++ token ∷ rest → reads token reader ≡ Err fault
    → IsFirstFault fault.kind tokens fault.at end
reads_fault tokens front rest token reader fault end x parts e = go (is_passed token.kind reader.depth reader.goes_on) refl e
  where
    deep : (state : State) → is_passed token.kind reader.depth reader.goes_on ≡ false → step token reader.state ≡ Some state
        → (ltb 128 (levels state.frames) ≡ true) ⊎ (ltb 1024 (count_at token.kind reader.depth reader.whole reader.count) ≡ true)
        → IsTooDeep tokens token.from
    deep state q s (inl h) = (
      front,
      token,
      rest,
      parts,
      x.shallow,
      begins_on front token reader state x q s,
      deep_level front token reader state x q s (from_ltb 128 (levels state.frames) h),
      refl,
    )
    deep state q s (inr h) = (
      front,
      token,
      rest,
      parts,
      x.shallow,
      begins_on front token reader state x q s,
      deep_count front token reader state x q s (from_ltb 1024 (count_at token.kind reader.depth reader.whole reader.count) h),
      refl,
    )

    within : (state : State) → is_passed token.kind reader.depth reader.goes_on ≡ false → step token reader.state ≡ Some state
        → (b : Bool) → (ltb 128 (levels state.frames) || ltb 1024 (count_at token.kind reader.depth reader.whole reader.count)) ≡ b
        → cond {A = Result Reader SyntaxFault} b (Err (too_deep token)) (Ok (reader_at token reader state)) ≡ Err fault
        → IsFirstFault fault.kind tokens fault.at end
    within state q s true over h =
        subst (λ (f : SyntaxFault). IsFirstFault f.kind tokens f.at end)
        (same_err {A = Reader} (too_deep token) fault h)
        (deep state q s (from_or (ltb 128 (levels state.frames)) (ltb 1024 (count_at token.kind reader.depth reader.whole reader.count)) over))
    within state q s false over h = absurd (cc)

    steps : is_passed token.kind reader.depth reader.goes_on ≡ false → (o : Option State) → step token reader.state ≡ o
        → moved token reader o ≡ Err fault → IsFirstFault fault.kind tokens fault.at end
    steps q None s h =
        subst (λ (f : SyntaxFault). IsFirstFault f.kind tokens f.at end)
        (same_err {A = Reader} (unexpected token) fault h)
        (front, token, rest, parts, begins front reader.state (run_front front reader x), x.shallow, no_begin front token reader x q s, refl)
    steps q (Some state) s h =
        within state q s (ltb 128 (levels state.frames) || ltb 1024 (count_at token.kind reader.depth reader.whole reader.count)) refl h

    go : (b : Bool) → is_passed token.kind reader.depth reader.goes_on ≡ b
        → cond {A = Result Reader SyntaxFault} b (Ok reader) (moved token reader (step token reader.state)) ≡ Err fault → IsFirstFault fault.kind tokens fault.at end
    go true q h = absurd (cc)
    go false q h = steps q (step token reader.state) refl h

-- All tokens are read, and are a script.
pub read_whole : (tokens : List Token) (reader : Reader) (script : Script) → IsAt tokens reader → finish reader.state ≡ Some script
    → DerivesScript tokens script × AllShallow tokens
read_whole tokens reader script x e = (
  finish_derives reader.state script
      (run_derives (read tokens) (read tokens) begin reader.state (start_stands (read tokens)) (run_front tokens reader x)) e,
  x.shallow,
)

-- All tokens are read, and are none.
pub read_unfinished : (tokens : List Token) (reader : Reader) → IsAt tokens reader → finish reader.state ≡ None → IsUnfinished tokens
read_unfinished tokens reader x e = (
  begins tokens reader.state (run_front tokens reader x),
  x.shallow,
  λ script d.
      let y = script_read (read tokens) script d in
      let same : reader.state ≡ y.0 = same_Some reader.state y.0 (sym (run_front tokens reader x) ∙ y.1) in
      no_some {x = script} (sym e ∙ (ap finish same ∙ y.2)),
)

-- Before the first token.
abbrev pub reader_of : State → Reader
reader_of state = record { state = state; depth = 0; goes_on = false; whole = false; count = 0 }

begin_shallow : AllShallow []
begin_shallow [] b e deep = go deep
  where
    go : IsDeep [] → ⊥
    go (inl (fs, o, h)) =
        let same : begin ≡ state_of Mode.Want fs = same_Some begin (state_of Mode.Want fs) (opens_read o) in
        let e : 0 ≡ levels fs = ap (λ (s : State). levels s.frames) same in
        omega arith
    go (inr h) = omega arith
begin_shallow (a ∷ others) b e deep = cc

pub at_begin : (state : State) → state ≡ begin → IsAt [] (reader_of state)
at_begin state e =
    subst (λ (s : State). IsAt [] (reader_of s)) (sym e) (record {
      runs = λ ts. refl;
      lines = λ ts. refl;
      counts = λ ts. refl;
      shallow = begin_shallow;
      few = omega arith;
      count_small = omega arith;
      depth_small = omega arith;
    })

-- A token list derives one tree at most.
pub derive_one : DeriveOne
derive_one tokens a b d e =
    let x = script_read (read tokens) a d in
    let y = script_read (read tokens) b e in
    let same : x.0 ≡ y.0 = same_Some x.0 y.0 (sym x.1 ∙ y.1) in
    same_Some a b (sym x.2 ∙ (ap finish same ∙ y.2))

-- What `parse` answers where a token is refused.
pub reads_err : (tokens front rest : List Token) (token : Token) (reader : Reader) (end : ℕ) → IsAt front reader
    → tokens ≡ front ++ token ∷ rest → (why : Or SyntaxFault) → Gives {T = Reader} (Err why) (reads token reader)
    → IsParsed (Err why) tokens end
reads_err tokens front rest token reader end x parts (Fault fault) e = reads_fault tokens front rest token reader fault end x parts e
reads_err tokens front rest token reader end x parts Memory e = tt

-- a token in its place
pub token_parts : (tokens : List Token) (i : ℕ) (token : Token) → i < length tokens → token ≡ get_or tokens i token
    → tokens ≡ take i tokens ++ token ∷ drop (suc i) tokens
token_parts tokens i token lt e =
    sym (take-append-drop i tokens) ∙ ap (λ (l : List Token). take i tokens ++ l)
    (drop-cons tokens i token lt ∙ ap (λ (t : Token). t ∷ drop (suc i) tokens) (sym e))

pub token_next : (tokens : List Token) (i : ℕ) (token : Token) → i < length tokens → token ≡ get_or tokens i token
    → take i tokens ++ token ∷ [] ≡ take (i + 1) tokens
token_next tokens i token lt e =
    ap (λ (t : Token). take i tokens ++ t ∷ []) e ∙ sym (take_more tokens i token lt)

pub open_one : OpenOne
open_one tokens a b o p =
    let same = same_Some (state_of Mode.Want a) (state_of Mode.Want b) (sym (opens_read o) ∙ opens_read p) in
    ap (λ (s : State). s.frames) same

rest_cases : (t : Token) (front : List Token) (depth : ℕ) (after b : Bool)
    → ((low : ℕ) × (on : Bool) × ((ts : List Token) → unpassed depth after (front ++ ts) ≡ unpassed depth after front ++ unpassed low on ts))
    → ((low : ℕ) × (on : Bool) × ((ts : List Token) → unpassed (deeper t.kind depth) (goes_on t.kind) (front ++ ts)
    ≡ unpassed (deeper t.kind depth) (goes_on t.kind) front ++ unpassed low on ts))
    → (low : ℕ) × (on : Bool) × ((ts : List Token)
    → cond b (unpassed depth after (front ++ ts)) (t ∷ unpassed (deeper t.kind depth) (goes_on t.kind) (front ++ ts))
    ≡ cond b (unpassed depth after front) (t ∷ unpassed (deeper t.kind depth) (goes_on t.kind) front) ++ unpassed low on ts)
rest_cases t front depth after true p q = p
rest_cases t front depth after false p q = (q.0, q.1, λ ts. ap (λ (l : List Token). t ∷ l) (q.2 ts))

-- what the tokens behind a front are read as
read_rest : (front : List Token) (depth : ℕ) (after : Bool)
    → (low : ℕ) × (on : Bool) × ((ts : List Token) → unpassed depth after (front ++ ts) ≡ unpassed depth after front ++ unpassed low on ts)
read_rest [] depth after = (depth, after, λ ts. refl)
read_rest (t ∷ front) depth after =
    rest_cases t front depth after (is_passed t.kind depth after) (read_rest front depth after)
    (read_rest front (deeper t.kind depth) (goes_on t.kind))

run_parts : (xs ys : List Token) (state end : State) → run (xs ++ ys) state ≡ Some end
    → (mid : State) × (run xs state ≡ Some mid) × (run ys mid ≡ Some end)
run_parts [] ys state end e = (state, refl, e)
run_parts (x ∷ xs) ys state end e =
    option_and_then_some {P = (mid : State) × (run (x ∷ xs) state ≡ Some mid) × (run ys mid ≡ Some end)} (λ n. run (xs ++ ys) n) (step x state) end e
    (λ next en er.
    let p = run_parts xs ys next end er in
    (p.0, run_step x xs state next en ∙ p.1, p.2))

number_opens : (ts : List Token) (number : ℤ) (at : ℕ) (mode : Mode) (fs : List Frame) (next : State) → Stands ts mode fs []
    → kind_step (TokenKind.Whole number) at mode fs ≡ Some next → Opens ts fs []
number_opens ts number at Mode.Want fs next s e = s
number_opens ts number at _ fs next s e = no_some e

pub opens_all : OpensAll
opens_all front token number is (more, script, d) =
    let y = script_read (read ((front ++ token ∷ []) ++ more)) script d in
    let r = read_rest front 0 false in
    let rest : List Token = unpassed (deeper token.kind r.0) (goes_on token.kind) more in
    let same : read ((front ++ token ∷ []) ++ more) ≡ read front ++ token ∷ rest =
    ap read (append_assoc front (token ∷ []) more) ∙ (r.2 (token ∷ more)
    ∙ ap (λ (k : TokenKind). read front ++ cond (is_passed k r.0 r.1) (unpassed r.0 r.1 more) (token ∷ rest)) is) in
    let p = run_parts (read front) (token ∷ rest) begin y.0 (ap (λ (l : List Token). run l begin) (sym same) ∙ y.1) in (
      p.0.frames,
      option_and_then_some {P = Opens (read front) p.0.frames []} (λ n. run rest n) (step token p.0) y.0 p.2
          (λ next en er. number_opens (read front) number token.from p.0.mode p.0.frames next
          (run_derives (read front) (read front) begin p.0 (start_stands (read front)) p.1)
          (ap (λ (k : TokenKind). kind_step k token.from p.0.mode p.0.frames) (sym is) ∙ en)),
    )
