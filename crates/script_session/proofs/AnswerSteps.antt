-- How the steps of the answer are refused, and what comes of them.
use Rattle.std.proofs.Common.{◌≡◌, ℕ, ◌<◌, List, [], ◌∷◌, length, Option, Some, None, Result, Ok, Err, refl, sym, ap, subst, ◌∙◌, arith, inl, inr, map}
use Rattle.std.specs.Prelude.{nat_le, false, Contains}
use Rattle.std.proofs.lemmas.Bool.Decides.{nat_tests}
use Rattle.scalar_value.specs.declared.memory.Or.{Or}
use Rattle.scalar_value.specs.declared.memory.Or.TheVariants.{Fault, Memory}
use Rattle.outside_io.specs.Outside.{Held}
use Rattle.command_words.specs.declared.words.Words.{Words}
use Rattle.syntax_tree.specs.declared.tree.Script.{Script}
use Rattle.command_words.specs.Settings.{settings_of}
use Rattle.run_report.specs.declared.record.PlanRun.{PlanRun}
use Rattle.script_session.specs.declared.status.Status.{Status}
use Rattle.script_session.specs.declared.status.Status.TheVariants as status
use Rattle.script_session.specs.declared.status.Refusal.{Refusal}
use Rattle.script_session.specs.declared.status.Stop.{Stop}
use Rattle.script_session.specs.declared.status.Stop.TheVariants.{Refused, Unread}
use Rattle.script_session.specs.declared.status.Answered.{Answered}
use Rattle.script_session.specs.FaultLines.{long_line}
use Rattle.script_session.specs.RunRecord.{Planned, AreRuns, IsRecord}
use Rattle.script_session.specs.Answer.{◌>>=◌, or_bad_words, bad_words, file_of, too_long, printed, answer, planned, planned_of, runs_of, paths_of, paths_reached, paths_reached_of, script_of, behind, tables_reached}
use Rattle.script_session.specs.Outcome.{StopsBy, ComesBy, HasRuns, IsAnswered, IsAnswerTo, IsTooLong, IsTableStop, IsRefusedOf, IsAmong, IsAnswer, IsWritten, WritesLine, Reaches}

pub long_file : (file : Option (List ℕ)) (path : List ℕ) (limit : ℕ) → (bytes : List ℕ) × (file ≡ Some bytes) × (limit < length bytes) → file_of file path limit ≡ Err (too_long path)
long_file None path limit h = cc
long_file (Some bs) path limit h =
    let P : Option (List ℕ) → Type 0 = λ o. file_of o path limit ≡ Err (too_long path) in
    let over : nat_le (length h.0) limit ≡ false = grind (arith, nat_tests, h.2) in
    let far : file_of (Some h.0) path limit ≡ Err (too_long path) = rw over refl in
    subst P (sym h.1) far

pub long_stops : (A B : Type 0) (named : Words) (path : List ℕ) (e : Or Stop) → IsAmong path (paths_of (Ok named)) → StopsBy {T = A} (Err e) (IsTooLong path) (λ p. p ≡ path)
    → StopsBy {T = B} (Err e) (λ r. IsRefusedOf named r.status r.line) (λ p. p ≡ path)
long_stops A B named path (Fault (Refused refusal)) among h =
    let P : Status → Type 0 = λ s. IsRefusedOf named s refusal.line in subst P (sym h.0) (path, among, h.1)
long_stops A B named path (Fault (Unread p)) among h = h
long_stops A B named path Memory among h = tt

-- the file of a TABLE word is too long, or couldn't be read
pub table_stops : (A B : Type 0) (word : List ℕ × List ℕ) (e : Or Stop) → StopsBy {T = A} (Err e) (IsTooLong word.1) (λ p. p ≡ word.1)
    → StopsBy {T = B} (Err e) (IsTableStop word) (λ p. p ≡ word.1)
table_stops A B word (Fault (Refused refusal)) h = inr h
table_stops A B word (Fault (Unread p)) h = h
table_stops A B word Memory h = tt

-- a table that stops is one of the words'
pub tables_stop : (A B : Type 0) (named : Words) (e : Or Stop)
    → StopsBy {T = A} (Err e) (λ r. (word : List ℕ × List ℕ) × Contains named.tables word × IsAmong word.1 (map (λ (w : List ℕ × List ℕ). w.1) named.tables) × IsTableStop word r) (λ p. IsAmong p (map (λ (w : List ℕ × List ℕ). w.1) named.tables))
    → StopsBy {T = B} (Err e) (λ r. IsRefusedOf named r.status r.line) (λ p. IsAmong p (paths_of (Ok named)))
tables_stop A B named (Fault (Refused r)) h = by h.3
  where
    by : IsTableStop h.0 r → IsRefusedOf named r.status r.line
    by (inl x) = let P : Status → Type 0 = λ s. IsRefusedOf named s r.line in subst P (sym x.0) (h.0, h.1, x.1.0, x.1.1)
    by (inr x) = let P : Status → Type 0 = λ s. IsRefusedOf named s r.line in subst P (sym x.0) (h.0.1, inr h.2, x.1)
tables_stop A B named (Fault (Unread p)) h = inr h
tables_stop A B named Memory h = tt

pub tables_reach : (A B : Type 0) (named : Words) (held : Held) (script : List ℕ × Script) (e : Or Stop) → script_of named held ≡ Ok script
    → StopsBy {T = A} (Err e) (λ r. Unit {0}) (λ p. IsAmong p (tables_reached named.tables held))
    → StopsBy {T = B} (Err e) (λ r. Unit {0}) (λ p. IsAmong p (paths_reached_of (Ok named) held))
tables_reach A B named held script (Fault (Refused r)) s h = tt
tables_reach A B named held script (Fault (Unread p)) s h = inr (subst (λ r. IsAmong p (behind r (tables_reached named.tables held))) (sym s) h)
tables_reach A B named held script Memory s h = tt

-- a refusal that was told is the answer
pub refused_answer : (given : Result (List ℕ) Refusal) (refusal : Refusal) (old : Option (List ℕ)) (before now : ℕ) (err err' : Option (List ℕ)) → given ≡ Err refusal
    → WritesLine before now err err' refusal.line → IsAnswer given refusal.status old old before now err err'
refused_answer given refusal old before now err err' e w =
    let P : Result (List ℕ) Refusal → Type 0 = λ r. IsAnswer r refusal.status old old before now err err' in subst P (sym e) (by refusal.status refl)
  where
    by : (s : Status) → s ≡ refusal.status → IsAnswer (Err refusal) s old old before now err err'
    by status.Done h = (h, refl, w)
    by status.Usage h = (h, refl, w)
    by status.Script h = (h, refl, w)
    by status.Table h = (h, refl, w)
    by status.Read h = (h, refl, w)
    by status.Write h = (h, refl, w)
    by status.Memory h = tt

pub reaches : (told : Option Held) (words : List (List ℕ)) (path : List ℕ) → ((held : Held) → told ≡ Some held → IsAmong path (paths_reached words held)) → Reaches told words path
reaches None words path h = tt
reaches (Some held) words path h = h held refl

-- ---- plans and their runs

pub planned_named : (words : List (List ℕ)) (named : Words) (held : Held) → settings_of words ≡ Ok named → planned words held ≡ planned_of named held
unfolding planned
planned_named words named held h = ap (λ o. or_bad_words o >>= (λ n. planned_of n held)) h

answer_named : (words : List (List ℕ)) (named : Words) (held : Held) (runs : List PlanRun) → settings_of words ≡ Ok named
    → answer words held runs ≡ (planned_of named held >>= (λ p. Ok (printed named p runs)))
unfolding answer
answer_named words named held runs h = ap (λ o. or_bad_words o >>= (λ n. planned_of n held >>= (λ p. Ok (printed n p runs)))) h

pub answer_comes : (words : List (List ℕ)) (named : Words) (held : Held) (r : Result Answered (Or Stop)) → settings_of words ≡ Ok named
    → ComesBy (IsAnswered named) r (planned_of named held) → IsAnswerTo words held r
answer_comes words named held (Ok a) s h =
    answer_named words named held a.runs s ∙ ap (λ g. g >>= (λ p. Ok (printed named p a.runs))) h.1 ∙ ap (λ t. Ok t) (sym h.2.text)
answer_comes words named held (Err (Fault (Refused refusal))) s h =
    answer_named words named held [] s ∙ ap (λ g. g >>= (λ p. Ok (printed named p []))) h
answer_comes words named held (Err (Fault (Unread path))) s h = tt
answer_comes words named held (Err Memory) s h = tt

pub runs_come : (words : List (List ℕ)) (named : Words) (held : Held) (r : Result Answered (Or Stop)) → settings_of words ≡ Ok named
    → ComesBy (IsAnswered named) r (planned_of named held) → HasRuns r (runs_of (planned words held))
runs_come words named held r s h = subst (λ g. HasRuns r (runs_of g)) (sym (planned_named words named held s)) (by r (planned_of named held) h)
  where
    by : (r : Result Answered (Or Stop)) (given : Result Planned Refusal) → ComesBy (IsAnswered named) r given → HasRuns r (runs_of given)
    by (Ok a) given h = subst (λ g. AreRuns (runs_of g) a.runs) (sym h.1) h.2.runs
    by (Err (Fault (Refused refusal))) given h = ap runs_of h
    by (Err (Fault (Unread path))) given h = tt
    by (Err Memory) given h = tt

-- refused words have no other answer, and no plan
pub refused_words : (words : List (List ℕ)) (held : Held) (runs : List PlanRun) → settings_of words ≡ Err (record {}) → answer words held runs ≡ Err bad_words
unfolding answer
refused_words words held runs h = ap (λ o. or_bad_words o >>= (λ n. planned_of n held >>= (λ p. Ok (printed n p runs)))) h

pub refused_plans : (words : List (List ℕ)) (held : Held) → settings_of words ≡ Err (record {}) → runs_of (planned words held) ≡ []
unfolding planned
refused_plans words held h = ap (λ o. runs_of (or_bad_words o >>= (λ n. planned_of n held))) h

-- the record of a run whose text was written, and of one that was refused
pub written_record : (s : Status) (text : List ℕ) (before now : ℕ) (old new : Option (List ℕ)) (plans : List Planned) (runs : List PlanRun)
    → IsWritten s text before now old new → AreRuns plans runs → IsRecord s plans runs
written_record status.Done text before now old new plans runs w h = h
written_record status.Usage text before now old new plans runs w h = h
written_record status.Script text before now old new plans runs w h = h
written_record status.Table text before now old new plans runs w h = h
written_record status.Read text before now old new plans runs w h = h
written_record status.Write text before now old new plans runs w h = h
written_record status.Memory text before now old new plans runs w h = absurd w

pub refused_record : (s : Status) (plans : List Planned) → plans ≡ [] → IsRecord s plans []
refused_record s plans e = subst (λ ps. IsRecord s ps []) (sym e) (none s)
  where
    none : (s : Status) → IsRecord s [] []
    none status.Done = tt
    none status.Usage = tt
    none status.Script = tt
    none status.Table = tt
    none status.Read = tt
    none status.Write = tt
    none status.Memory = tt
