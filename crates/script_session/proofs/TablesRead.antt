-- The tables of the words, read one after the other.
use Rattle.std.proofs.Common.{◌≡◌, ◌<◌, ℕ, zero, suc, ◌+◌, Option, Result, Ok, Err, List, [], ◌∷◌, ◌++◌, All, append_assoc, append-nil, length, map, get_or, drop, refl, sym, ap, subst, ◌∙◌, add-one, drop-cons, inl, inr, arith}
use Rattle.std.specs.Prelude.{Contains}
use Rattle.std.proofs.lemmas.List.Elements.{Contains-get_or, All-append, All-cons, All-nil}
use Rattle.outside_io.specs.Counts.{NoneRose}
use Rattle.row_table.specs.declared.table.Mark.TheVariants.{Kept}
use Rattle.scalar_value.specs.declared.memory.Or.{Or}
use Rattle.scalar_value.specs.declared.memory.Or.TheVariants.{Fault, Memory}
use Rattle.outside_io.specs.Outside.{Held}
use Rattle.script_evaluation.specs.Evaluation.{Named}
use Rattle.script_session.specs.declared.status.Refusal.{Refusal}
use Rattle.script_session.specs.declared.status.Stop.{Stop}
use Rattle.script_session.specs.declared.status.Stop.TheVariants.{Refused, Unread}
use Rattle.script_session.specs.Answer.{◌>>=◌, table_of, tables_of, behind, tables_reached}
use Rattle.script_session.specs.Outcome.{Comes, StopsBy, IsTableStop, IsAmong}

abbrev pub Word : Type 0
Word = List ℕ × List ℕ

abbrev pub with_front : List Named → Result (List Named) Refusal → Result (List Named) Refusal
with_front made (Ok tables) = Ok (made ++ tables)
with_front made (Err refusal) = Err refusal

-- the words that are left go on behind the tables that were read
pub record ReadSo (words rest : List Word) (made : List Named) (held : Held) : Type 0 where
  pub tables : tables_of words held ≡ with_front made (tables_of rest held)
  pub reached : (p : List ℕ) → IsAmong p (tables_reached rest held) → IsAmong p (tables_reached words held)

no_front : (r : Result (List Named) Refusal) → r ≡ with_front [] r
no_front (Ok tables) = refl
no_front (Err refusal) = refl

pub begins : (words : List Word) (held : Held) → ReadSo words words [] held
begins words held = record { tables = no_front (tables_of words held); reached = λ p among. among }

next_word : (words : List Word) (k : ℕ) (word : Word) → k < length words → word ≡ get_or words k word → drop k words ≡ word ∷ drop (k + 1) words
next_word xs k x low is = drop-cons xs k x low ∙ (ap (λ y. y ∷ drop (suc k) xs) (sym is) ∙ ap (λ n. x ∷ drop n xs) (sym (add-one k)))

front_step : (made : List Named) (table : Named) (r : Result (List Named) Refusal) → with_front made (r >>= (λ tables. Ok (table ∷ tables))) ≡ with_front (made ++ table ∷ []) r
front_step made table (Ok tables) = ap (λ ts. Ok ts) (sym (append_assoc made (table ∷ []) tables))
front_step made table (Err refusal) = refl

module _ (words : List Word) (k : ℕ) (word : Word) (made : List Named) (held : Held) (low : k < length words) (is : word ≡ get_or words k word)
    (had : ReadSo words (drop k words) made held) where
  pub goes_on : (table : Named) → table_of word held ≡ Ok table → ReadSo words (drop (k + 1) words) (made ++ table ∷ []) held
  goes_on table given =
      record {
        tables =
            had.tables ∙ ap (λ ws. with_front made (tables_of ws held)) (next_word words k word low is)
            ∙ ap (λ r. with_front made (r >>= (λ t. tables_of (drop (k + 1) words) held >>= (λ ts. Ok (t ∷ ts))))) given
            ∙ front_step made table (tables_of (drop (k + 1) words) held);
        reached = λ p among.
            had.reached p (subst (λ ws. IsAmong p (tables_reached ws held)) (sym (next_word words k word low is))
            (inr (subst (λ r. IsAmong p (behind r (tables_reached (drop (k + 1) words) held))) (sym given) among)));
      }

  pub refused_comes : (e : Or Stop) → Comes {T = Named} (Err e) (table_of word held) → Comes {T = List Named} (Err e) (tables_of words held)
  refused_comes (Fault (Refused r)) h =
      had.tables ∙ ap (λ ws. with_front made (tables_of ws held)) (next_word words k word low is)
      ∙ ap (λ x. with_front made (x >>= (λ t. tables_of (drop (k + 1) words) held >>= (λ ts. Ok (t ∷ ts))))) h
  refused_comes (Fault (Unread p)) h = tt
  refused_comes Memory h = tt

  pub path_reached : (e : Or Stop) → StopsBy {T = Named} (Err e) (IsTableStop word) (λ p. p ≡ word.1)
      → StopsBy {T = List Named} (Err e) (λ r. Unit {0}) (λ p. IsAmong p (tables_reached words held))
  path_reached (Fault (Refused r)) h = tt
  path_reached (Fault (Unread p)) h =
      had.reached p (subst (λ ws. IsAmong p (tables_reached ws held)) (sym (next_word words k word low is)) (inl h))
  path_reached Memory h = tt

pub ends : (words rest : List Word) (made : List Named) (held : Held) → rest ≡ [] → ReadSo words rest made held → tables_of words held ≡ Ok made
ends words rest made held none had = had.tables ∙ ap (λ ws. with_front made (tables_of ws held)) none ∙ ap (λ ts. Ok ts) (append-nil made)

-- ---- the words that stop

among_at : (words : List Word) (k : ℕ) (word : Word) → k < length words → word ≡ get_or words k word → IsAmong word.1 (map (λ (w : Word). w.1) words)
among_at [] k word low is = absurd (omega (arith, low))
among_at (w ∷ words) zero word low is = inl (ap (λ (x : Word). x.1) is)
among_at (w ∷ words) (suc k) word low is = inr (among_at words k word (omega (arith, low)) is)

pub word_stops : (words : List Word) (k : ℕ) (word : Word) (e : Or Stop) → k < length words → word ≡ get_or words k word → StopsBy {T = Named} (Err e) (IsTableStop word) (λ p. p ≡ word.1)
    → StopsBy {T = List Named} (Err e) (λ r. (word : Word) × Contains words word × IsAmong word.1 (map (λ (w : Word). w.1) words) × IsTableStop word r) (λ p. IsAmong p (map (λ (w : Word). w.1) words))
word_stops words k word (Fault (Refused r)) low is h = (word, subst (Contains words) (sym is) (Contains-get_or words k word low), among_at words k word low is, h)
word_stops words k word (Fault (Unread p)) low is h = subst (λ q. IsAmong q (map (λ (w : Word). w.1) words)) (sym h) (among_at words k word low is)
word_stops words k word Memory low is h = tt

-- ---- what stays from word to word

pub none_rose : {before now later : ℕ} {of_before of_now of_later : List ℕ → Option ℕ} → NoneRose before now of_before of_now → NoneRose now later of_now of_later
    → NoneRose before later of_before of_later
none_rose a b = record { all = b.all ∙ a.all; each = λ name. b.each name ∙ a.each name }

pub kept_more : (tables : List Named) (table : Named) → All (λ (t : Named). t.1.mark ≡ Kept) tables → table.1.mark ≡ Kept → All (λ (t : Named). t.1.mark ≡ Kept) (tables ++ table ∷ [])
kept_more tables table all one = All-append (λ (t : Named). t.1.mark ≡ Kept) tables (table ∷ []) all (All-cons (λ (t : Named). t.1.mark ≡ Kept) table [] one (All-nil (λ (t : Named). t.1.mark ≡ Kept)))
