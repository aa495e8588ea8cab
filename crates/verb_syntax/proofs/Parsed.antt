-- The answer as a function of the tokens, along the loop of `parse` and by the grammar.
use Rattle.std.proofs.Common.{◌≡◌, ℕ, suc, ◌+◌, ◌<◌, ◌≤◌, List, [], ◌∷◌, ◌++◌, length, Option, Some, None, Result, Ok, Err, refl, sym, ◌∙◌, ap, subst, append-nil, append_assoc, drop, get_or}
use Rattle.std.proofs.Math.Seq.{drop-cons}
use Rattle.std.proofs.lemmas.List.{drop_all}
use Rattle.scalar_value.specs.declared.memory.Or.{Or}
use Rattle.scalar_value.specs.declared.memory.Or.TheVariants.{Fault, Memory}
use Rattle.scalar_value.specs.Gives.{Gives}
use Rattle.token_scan.specs.declared.token.Token.{Token}
use Rattle.syntax_tree.specs.declared.tree.Script.{Script}
use Rattle.verb_syntax.specs.declared.fault.SyntaxFault.{SyntaxFault}
use Rattle.verb_syntax.specs.declared.fault.SyntaxKind.{SyntaxKind}
use Rattle.verb_syntax.specs.declared.reader.Reader.{Reader}
use Rattle.syntax_steps.specs.declared.state.State.{State}
use Rattle.syntax_steps.specs.Machine.{begin, finish}
use Rattle.verb_syntax.specs.Reader.{reads}
use Rattle.verb_syntax.specs.Parsing.{IsParsed}
use Rattle.verb_syntax.specs.Parsed.{opening, on_ok, whole_or_unfinished, parsed_from, parsed, as_answer, ParsedByGrammar}
use Rattle.verb_syntax.proofs.Parses.{IsAt, reader_of, at_begin, reads_ok, reads_fault, read_whole, read_unfinished}

-- ---- along the loop

pub opens : (tokens : List Token) (end : ℕ) (state : State) → state ≡ begin → parsed tokens end ≡ parsed_from end tokens (reader_of state)
unfolding parsed
opens tokens end state e = ap (λ (s : State). parsed_from end tokens (reader_of s)) (sym e)

at_token : (tokens : List Token) (i : ℕ) (token : Token) → i < length tokens → token ≡ get_or tokens i token → drop i tokens ≡ token ∷ drop (suc i) tokens
at_token tokens i token lt e = drop-cons tokens i token lt ∙ ap (λ (t : Token). t ∷ drop (suc i) tokens) (sym e)

token_read : (end : ℕ) (token : Token) (rest : List Token) (reader next : Reader) → reads token reader ≡ Ok next → parsed_from end (token ∷ rest) reader ≡ parsed_from end rest next
unfolding parsed_from
token_read end token rest reader next e = ap (λ (r : Result Reader SyntaxFault). on_ok r (λ n. parsed_from end rest n)) e

token_refused : (end : ℕ) (token : Token) (rest : List Token) (reader : Reader) (fault : SyntaxFault) → reads token reader ≡ Err fault → parsed_from end (token ∷ rest) reader ≡ Err fault
unfolding parsed_from
token_refused end token rest reader fault e = ap (λ (r : Result Reader SyntaxFault). on_ok r (λ n. parsed_from end rest n)) e

pub next_is : (end : ℕ) (tokens : List Token) (i : ℕ) (token : Token) (reader next : Reader) → i < length tokens → token ≡ get_or tokens i token → reads token reader ≡ Ok next
    → parsed_from end (drop i tokens) reader ≡ parsed_from end (drop (suc i) tokens) next
next_is end tokens i token reader next lt e r =
    ap (λ (ts : List Token). parsed_from end ts reader) (at_token tokens i token lt e) ∙ token_read end token (drop (suc i) tokens) reader next r

pub refused_is : (end : ℕ) (tokens : List Token) (i : ℕ) (token : Token) (reader : Reader) (why : Or SyntaxFault) → i < length tokens → token ≡ get_or tokens i token
    → Gives {T = Reader} (Err why) (reads token reader) → Gives {T = Script} (Err why) (parsed_from end (drop i tokens) reader)
refused_is end tokens i token reader (Fault fault) lt e r =
    ap (λ (ts : List Token). parsed_from end ts reader) (at_token tokens i token lt e) ∙ token_refused end token (drop (suc i) tokens) reader fault r
refused_is end tokens i token reader Memory lt e r = tt

pub whole_is : (end : ℕ) (tokens : List Token) (i : ℕ) (reader : Reader) → length tokens ≤ i → parsed_from end (drop i tokens) reader ≡ whole_or_unfinished end (finish reader.state)
unfolding parsed_from
whole_is end tokens i reader le = ap (λ (ts : List Token). parsed_from end ts reader) (drop_all i tokens le)

-- ---- by the grammar

at_end : (end : ℕ) (tokens : List Token) (reader : Reader) → IsAt tokens reader → (o : Option Script) → finish reader.state ≡ o → IsParsed (as_answer (whole_or_unfinished end o)) tokens end
at_end end tokens reader x None e = (read_unfinished tokens reader x e, refl)
at_end end tokens reader x (Some script) e = read_whole tokens reader script x e

on_token : (end : ℕ) (tokens front rest : List Token) (token : Token) (reader : Reader) → IsAt front reader → tokens ≡ front ++ token ∷ rest → (r : Result Reader SyntaxFault) → reads token reader ≡ r
    → ((next : Reader) → IsAt (front ++ token ∷ []) next → IsParsed (as_answer (parsed_from end rest next)) tokens end)
    → IsParsed (as_answer (on_ok r (λ next. parsed_from end rest next))) tokens end
on_token end tokens front rest token reader x parts (Ok next) e go = go next (reads_ok front token reader next x e)
on_token end tokens front rest token reader x parts (Err fault) e go = reads_fault tokens front rest token reader fault end x parts e

from_front : (end : ℕ) (tokens rest front : List Token) (reader : Reader) → IsAt front reader → tokens ≡ front ++ rest → IsParsed (as_answer (parsed_from end rest reader)) tokens end
unfolding parsed_from
from_front end tokens [] front reader x parts =
    at_end end tokens reader (subst (λ (l : List Token). IsAt l reader) (sym (parts ∙ append-nil front)) x) (finish reader.state) refl
from_front end tokens (token ∷ rest) front reader x parts =
    on_token end tokens front rest token reader x parts (reads token reader) refl
    (λ next y. from_front end tokens rest (front ++ token ∷ []) next y (parts ∙ sym (append_assoc front (token ∷ []) rest)))

pub by_grammar : ParsedByGrammar
unfolding parsed
by_grammar tokens end = from_front end tokens tokens [] opening (at_begin begin refl) refl

-- what gives it is parsed
pub gives_parsed : (tokens : List Token) (end : ℕ) (result : Result Script (Or SyntaxFault)) → Gives result (parsed tokens end) → IsParsed result tokens end
gives_parsed tokens end (Ok script) e = subst (λ (r : Result Script SyntaxFault). IsParsed (as_answer r) tokens end) e (by_grammar tokens end)
gives_parsed tokens end (Err (Fault fault)) e = subst (λ (r : Result Script SyntaxFault). IsParsed (as_answer r) tokens end) e (by_grammar tokens end)
gives_parsed tokens end (Err Memory) e = tt
