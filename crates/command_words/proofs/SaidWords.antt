-- How the steps of reading the words come to their definition.
use Rattle.std.proofs.Common.{◌≡◌, ◌∙◌, Bool, true, List, [], Option, Some, None, Err, refl, sym, ap, codes}
use Rattle.std.specs.Prelude.{unwrap_or}
use Rattle.clap.specs.Words.{Row, Text, all_of, first_of}
use Rattle.plan_store.specs.declared.setting.Setting.{Setting}
use Rattle.scalar_value.specs.declared.memory.Or.{Or}
use Rattle.scalar_value.specs.declared.memory.Or.TheVariants.{Fault, Memory}
use Rattle.scalar_value.specs.Gives.{GivesSome}
use Rattle.command_words.specs.Steps.{◌>>=◌}
use Rattle.command_words.specs.Tables.{tables_of}
use Rattle.command_words.specs.Settings.{can_run, csv_of, is_given, setting_of, words_of}
use Rattle.command_words.specs.declared.words.BadWords.{BadWords}
use Rattle.command_words.specs.declared.words.Words.{Words}

-- the words of these parts
abbrev pub made_of : Setting → Bool → Bool → Bool → Text → List (Text × Text) → Words
made_of setting explain report csv script tables = record {
  setting = setting;
  csv = csv;
  explain = explain;
  report = report;
  make = None;
  script = script;
  tables = tables;
}

abbrev pub steps_of : Setting → Bool → Bool → Option Bool → Option Text → Option (List (Text × Text)) → Option Words
steps_of setting explain report csv script tables =
    csv >>= (λ c. script >>= (λ s. tables >>= (λ t. Some (made_of setting explain report c s t))))

-- the record of the parts that were read, where the setting is one and not both flags are given
pub said_by : (rows : List Row) (setting : Setting) (explain report : Bool) (format script : Option Text)
    → setting ≡ setting_of rows → explain ≡ is_given (codes "explain") rows → report ≡ is_given (codes "report") rows
    → format ≡ first_of (codes "format") rows → script ≡ first_of (codes "SCRIPT") rows
    → can_run setting explain report ≡ true
    → words_of rows ≡ steps_of setting explain report (csv_of format) script (tables_of (unwrap_or (all_of (codes "TABLE") rows) []))
unfolding words_of
said_by rows setting explain report format script s e r f t test =
    let test_there : can_run (setting_of rows) (is_given (codes "explain") rows) (is_given (codes "report") rows) ≡ true =
    ap (λ (x : Setting). can_run x (is_given (codes "explain") rows) (is_given (codes "report") rows)) (sym s)
    ∙ ap (λ (x : Bool). can_run setting x (is_given (codes "report") rows)) (sym e)
    ∙ ap (λ (x : Bool). can_run setting explain x) (sym r) ∙ test in
    let tables = tables_of (unwrap_or (all_of (codes "TABLE") rows) []) in
    rw test_there
    (ap (λ (x : Setting). steps_of x (is_given (codes "explain") rows) (is_given (codes "report") rows) (csv_of (first_of (codes "format") rows)) (first_of (codes "SCRIPT") rows) tables) (sym s)
    ∙ ap (λ (x : Bool). steps_of setting x (is_given (codes "report") rows) (csv_of (first_of (codes "format") rows)) (first_of (codes "SCRIPT") rows) tables) (sym e)
    ∙ ap (λ (x : Bool). steps_of setting explain x (csv_of (first_of (codes "format") rows)) (first_of (codes "SCRIPT") rows) tables) (sym r)
    ∙ ap (λ (x : Option Text). steps_of setting explain report (csv_of x) (first_of (codes "SCRIPT") rows) tables) (sym f)
    ∙ ap (λ (x : Option Text). steps_of setting explain report (csv_of format) x tables) (sym t))

-- no format, no script, no tables
pub no_format : (setting : Setting) (explain report : Bool) (csv : Option Bool) (script : Option Text) (tables : Option (List (Text × Text)))
    → None ≡ csv → steps_of setting explain report csv script tables ≡ None
no_format setting explain report csv script tables h = rw (← h) refl

pub no_script : (setting : Setting) (explain report : Bool) (csv : Option Bool) (script : Option Text) (tables : Option (List (Text × Text)))
    → None ≡ script → steps_of setting explain report csv script tables ≡ None
no_script setting explain report None script tables h = refl
no_script setting explain report (Some c) script tables h = rw (← h) refl

no_tables : (setting : Setting) (explain report : Bool) (csv : Option Bool) (script : Option Text) (tables : Option (List (Text × Text)))
    → tables ≡ None → steps_of setting explain report csv script tables ≡ None
no_tables setting explain report None script tables h = refl
no_tables setting explain report (Some c) None tables h = refl
no_tables setting explain report (Some c) (Some s) tables h = rw h refl

pub refused_tables : (setting : Setting) (explain report : Bool) (csv : Option Bool) (script : Option Text) (tables : Option (List (Text × Text))) (given : Option Words) (r : Or BadWords)
    → given ≡ steps_of setting explain report csv script tables → GivesSome {T = List (Text × Text)} (Err r) tables → GivesSome {T = Words} (Err r) given
refused_tables setting explain report csv script tables given (Fault x) is h = is ∙ no_tables setting explain report csv script tables h
refused_tables setting explain report csv script tables given Memory is h = tt

-- all three
pub all_steps : (setting : Setting) (explain report : Bool) (csv : Option Bool) (script : Option Text) (tables : Option (List (Text × Text))) (c : Bool) (s : Text) (t : List (Text × Text))
    → Some c ≡ csv → Some s ≡ script → tables ≡ Some t → steps_of setting explain report csv script tables ≡ Some (made_of setting explain report c s t)
all_steps setting explain report csv script tables c s t hc hs ht = rw (← hc, ← hs, ht) refl
