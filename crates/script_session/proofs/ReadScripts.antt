-- Where the first fault of a script's grammar stands, and what scripts are read as by the grammar.
use Rattle.std.proofs.Common.{◌≡◌, ℕ, ◌<◌, Bool, true, false, List, ◌∷◌, ◌++◌, length, length-append, Result, Ok, Err, refl, sym, ap, subst, arith}
use Rattle.std.specs.Prelude.{if◌then◌else◌}
use Rattle.std.specs.List.{All}
use Rattle.std.specs.Str.{IsUtf8, is_utf8, IsCharBoundary}
use Rattle.std.proofs.lemmas.Bool.{both_ways}
use Rattle.std.proofs.lemmas.List.{get_or_at}
use Rattle.std.proofs.lemmas.Str.{IsUtf8-from_is_utf8, is_utf8-from_IsUtf8}
use Rattle.token_scan.specs.declared.token.Token.{Token}
use Rattle.token_scan.specs.declared.token.ScanFault.{ScanFault}
use Rattle.token_scan.specs.declared.token.ScanKind.{ScanKind}
use Rattle.token_scan.specs.declared.token.ScanKind.TheVariants as scan
use Rattle.token_scan.specs.Tokens.{tokens_of, fault_at as scan_fault_at}
use Rattle.token_scan.specs.Places.{place_at}
use Rattle.syntax_tree.specs.declared.tree.Script.{Script}
use Rattle.verb_syntax.specs.declared.fault.SyntaxFault.{SyntaxFault}
use Rattle.verb_syntax.specs.declared.fault.SyntaxKind.{SyntaxKind}
use Rattle.verb_syntax.specs.declared.fault.SyntaxKind.TheVariants as syntax
use Rattle.verb_syntax.specs.Parsing.{IsFirstFault, IsParsed}
use Rattle.verb_syntax.specs.Parsed.{parsed, as_answer}
use Rattle.verb_syntax.proofs.Parsed.{by_grammar}
use Rattle.script_session.specs.declared.script.ScriptFault.{ScriptFault}
use Rattle.script_session.specs.ReadScript.{◌>>=◌, scan_kind, syntax_kind, fault_at, on_fault, not_text, script_tokens, script_tree, read_text, read_script}
use Rattle.script_session.specs.Laws.{HasTree, IsFaultOf, IsReadAs, ScriptsAreRead}

-- ---- places

token_within : (P : Token → Type 0) (tokens front rest : List Token) (token : Token) → tokens ≡ front ++ token ∷ rest → All P tokens → P token
token_within P tokens front rest token parts all =
    let here : length front < length (front ++ token ∷ rest) = omega (arith, length-append front (token ∷ rest)) in
    subst P (get_or_at front token rest token (length front) refl) (subst (All P) parts all (length front) token here)

-- a fault of the grammar stands at a token, or at the end
pub fault_stands : (P : ℕ → Type 0) (what : SyntaxKind) (tokens : List Token) (at end : ℕ) → IsFirstFault what tokens at end → All (λ (token : Token). P token.from) tokens → P end → P at
fault_stands P syntax.Unexpected tokens at end h all at_end =
    subst P (sym h.7) (token_within (λ (token : Token). P token.from) tokens h.0 h.2 h.1 h.3 all)
fault_stands P syntax.Unfinished tokens at end h all at_end = subst P (sym h.1) at_end
fault_stands P syntax.TooDeep tokens at end h all at_end =
    subst P (sym h.7) (token_within (λ (token : Token). P token.from) tokens h.0 h.2 h.1 h.3 all)

-- ---- by the grammar

syntax_read : (bytes : List ℕ) (tokens : List Token) → IsUtf8 bytes → tokens_of bytes ≡ Ok tokens → (what : SyntaxKind) (at : ℕ) → IsFirstFault what tokens at (length bytes)
    → IsFaultOf bytes (syntax_kind what) (place_at bytes at)
syntax_read bytes tokens utf8 e syntax.Unexpected at h = (utf8, (tokens, at, e, h, refl))
syntax_read bytes tokens utf8 e syntax.Unfinished at h = (utf8, (tokens, at, e, h, refl))
syntax_read bytes tokens utf8 e syntax.TooDeep at h = (utf8, (tokens, at, e, h, refl))

scan_read : (bytes : List ℕ) → IsUtf8 bytes → (what : ScanKind) (at : ℕ) → tokens_of bytes ≡ Err (scan_fault_at what at) → IsFaultOf bytes (scan_kind what) (place_at bytes at)
scan_read bytes utf8 scan.BadChar at e = (utf8, (at, e, refl))
scan_read bytes utf8 scan.OpenText at e = (utf8, (at, e, refl))
scan_read bytes utf8 scan.NumberRange at e = (utf8, (at, e, refl))

on_tree : (bytes : List ℕ) (tokens : List Token) → IsUtf8 bytes → tokens_of bytes ≡ Ok tokens → (given : Result Script SyntaxFault) → IsParsed (as_answer given) tokens (length bytes)
    → IsReadAs bytes (on_fault (λ (f : SyntaxFault). fault_at bytes (syntax_kind f.kind) f.at) given)
on_tree bytes tokens utf8 e (Ok tree) d = (utf8, (tokens, e, d.0, d.1))
on_tree bytes tokens utf8 e (Err f) d = syntax_read bytes tokens utf8 e f.kind f.at d

on_tokens : (bytes : List ℕ) → IsUtf8 bytes → (given : Result (List Token) ScanFault) → tokens_of bytes ≡ given
    → IsReadAs bytes (on_fault (λ (f : ScanFault). fault_at bytes (scan_kind f.kind) f.at) given >>= script_tree bytes)
unfolding script_tree
on_tokens bytes utf8 (Ok tokens) e = on_tree bytes tokens utf8 e (parsed tokens (length bytes)) (by_grammar tokens (length bytes))
on_tokens bytes utf8 (Err f) e = scan_read bytes utf8 f.kind f.at e

on_text : (bytes : List ℕ) (b : Bool) → is_utf8 bytes ≡ b → IsReadAs bytes (if b then read_text bytes else Err not_text)
unfolding read_text script_tokens
on_text bytes true e = on_tokens bytes (IsUtf8-from_is_utf8 bytes e) (tokens_of bytes) refl
on_text bytes false e = ((λ utf8. both_ways (is_utf8 bytes) e (is_utf8-from_IsUtf8 bytes utf8)), (refl, refl))

-- ---- what the steps read

as_tested : (bytes : List ℕ) (b : Bool) → is_utf8 bytes ≡ b → read_script bytes ≡ (if b then read_text bytes else Err not_text)
unfolding read_script
as_tested bytes b e = ap (λ (t : Bool). if t then read_text bytes else Err not_text) e

pub text_read : (bytes : List ℕ) → IsUtf8 bytes → read_script bytes ≡ read_text bytes
text_read bytes utf8 = as_tested bytes true (is_utf8-from_IsUtf8 bytes utf8)

pub no_text_read : (bytes : List ℕ) → (IsUtf8 bytes → ⊥) → read_script bytes ≡ Err not_text
no_text_read bytes h = go (is_utf8 bytes) refl
  where
    go : (b : Bool) → is_utf8 bytes ≡ b → read_script bytes ≡ Err not_text
    go true e = absurd (h (IsUtf8-from_is_utf8 bytes e))
    go false e = as_tested bytes false e

pub scripts_are_read : ScriptsAreRead
unfolding read_script
scripts_are_read bytes = on_text bytes (is_utf8 bytes) refl
