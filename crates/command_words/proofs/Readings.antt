-- What the getters of the matches read, by the rows.
use Rattle.std.proofs.Common.{◌≡◌, ◌∙◌, ◌==◌, ℕ, false, List, [], ◌∷◌, length, map, Option, Some, None, Ok, Err, Result, refl, sym, ap, subst, arith, codes, inl, inr}
use Rattle.std.specs.Prelude.{option_map, unwrap_or, IfSome}
use Rattle.std.specs.Option.{option_map_or}
use Rattle.std.specs.Borrow.{Bor}
use Rattle.std.proofs.lemmas.Bool.{ne_eqb}
use Rattle.std.specs.Str.{bytes_eq}
use Rattle.std.specs.Str.Parse.{ParsesUnsigned, digits_value, without_leading_plus}
use Rattle.clap.specs.Matches.{first_value, matched_of, one_text, raw_values, ReadsOne}
use Rattle.clap.specs.Walk.{Text, all_of, one_of, rows_of}
use Rattle.clap.specs.Kinds.{HasKind, IsAmong, Kinds}
use Rattle.clap.specs.Values.{kind_of}
use Rattle.clap.specs.Words.{fault_of}
use Rattle.clap.proofs.WalkLemmas.{first_value-rows, one_text-rows, raw_values-rows}
use Rattle.clap.specs.declared.parser.matches.Found.{Found}
use Rattle.clap.specs.declared.error.Error.{Error}
use Rattle.clap.specs.declared.error.kind.ErrorKind.{ErrorKind}
use Rattle.scalar_value.specs.declared.memory.Or.{Or}
use Rattle.scalar_value.specs.declared.memory.Or.TheVariants.{Fault, Memory}
use Rattle.command_words.specs.Command.{command}
use Rattle.command_words.specs.Settings.{is_given, number_of}
use Rattle.command_words.specs.Reading.{IsNumberFrom, IsOption, ReadsWords, refusal_of}
use Rattle.command_words.specs.declared.words.BadWords.{BadWords}

-- a flag, by the first text of its id
pub given_by : (f : Found) (name : Text) (o : Option Text) → o ≡ first_value f name
    → option_map_or (λ text. bytes_eq text (codes "true")) o false ≡ is_given name (rows_of f)
given_by f name o e = ap (λ (t : Option Text). option_map_or (λ text. bytes_eq text (codes "true")) t false) (e ∙ first_value-rows f name)

-- the words of an argument, where it has any
pub words_by : (f : Found) (name : Text) (o : Option (Bor (List (Bor Text))))
    → option_map (λ s. map (λ v. v.now) s.now) o ≡ option_map raw_values (matched_of f name) → option_map (λ s. map (λ v. v.now) s.now) o ≡ all_of name (rows_of f)
words_by f name o e = e ∙ raw_values-rows f name

-- a number is read from its digits, which fit
pub number_by : (E : Type 0) (G : Text → Result ℕ E → Type 0) (f : Found) (name : Text) (default : ℕ) (r : Option ℕ)
    → ((t : Text) (x : Result ℕ E) → G t x → ParsesUnsigned 32 10 t x)
    → (one_text f name ≡ None → r ≡ None) → ((t : Text) → one_text f name ≡ Some t → ReadsOne G t r)
    → IsOption name 0 65536 (rows_of f) → unwrap_or r default ≡ number_of name default (rows_of f)
number_by E G f name default r only none some option = go (one_of name (rows_of f)) refl r none some option
  where
    go : (o : Option Text) → one_of name (rows_of f) ≡ o → (x : Option ℕ) → (one_text f name ≡ None → x ≡ None)
        → ((t : Text) → one_text f name ≡ Some t → ReadsOne G t x) → IfSome (one_of name (rows_of f)) (IsNumberFrom 0 65536)
        → unwrap_or x default ≡ option_map_or (λ text. digits_value 10 (without_leading_plus text)) (one_of name (rows_of f)) default
    go None e x n s h = rw (n (one_text-rows f name ∙ e), e) refl
    go (Some t) e (Some v) n s h = rw e ((only t (Ok v) (s t (one_text-rows f name ∙ e))).1)
    go (Some t) e None n s h =
        let got = s t (one_text-rows f name ∙ e) in
        let fits : IsNumberFrom 0 65536 t = rw e at h in
        absurd (only t (Err got.0) got.1 (fits.0, omega (arith, fits.2)))

-- where clap finds a fault, any refusal serves
refuses : (words : List Text) (r : Or BadWords) → (length (fault_of command words) == 0) ≡ false → ReadsWords words (Err r)
refuses words (Fault x) e = e
refuses words Memory e = tt

among : (k : ErrorKind) (kinds : Kinds) → IsAmong k kinds → (length kinds == 0) ≡ false
among k [] h = absurd h
among k (x ∷ xs) h = ne_eqb _ _ (λ e. omega arith)

pub refused_by : (words : List Text) (e : Error) → HasKind (fault_of command words) e → ReadsWords words (Err (refusal_of (kind_of e)))
refused_by words e (inl memory) =
    let P : ErrorKind → Type 0 = λ k. ReadsWords words (Err (refusal_of k)) in
    subst P (sym memory) tt
refused_by words e (inr fault) = refuses words (refusal_of (kind_of e)) (among (kind_of e) (fault_of command words) fault)
