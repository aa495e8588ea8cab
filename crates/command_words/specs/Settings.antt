-- What the words of a command line say.
use Rattle.std.specs.Prelude.{ℕ, ◌/◌, ◌==◌, Bool, true, false, not, ◌&&◌, nat_lt, if◌then◌else◌, List, [], length, Option, Some, None, Result, Err, unwrap_or, codes}
use Rattle.std.specs.Option.{option_map_or, ok_or}
use Rattle.std.specs.Str.{bytes_eq}
use Rattle.std.specs.Str.Parse.{digits_value, without_leading_plus}
use Rattle.clap.specs.Words.{Row, Text, all_of, fault_of, first_of, matches_of, one_of}
use Rattle.plan_store.specs.declared.setting.Setting.{Setting}
use Rattle.command_words.specs.Steps.{◌>>=◌}
use Rattle.command_words.specs.Tables.{tables_of}
use Rattle.command_words.specs.Command.{command}
use Rattle.command_words.specs.declared.words.Words.{Words}
use Rattle.command_words.specs.declared.words.BadWords.{BadWords}

-- the number of an option, and this one where the option isn't given
abbrev pub number_of : Text → ℕ → List Row → ℕ
number_of name default rows = option_map_or (λ text. digits_value 10 (without_leading_plus text)) (one_of name rows) default

-- a flag is given
abbrev pub is_given : Text → List Row → Bool
is_given name rows = option_map_or (λ text. bytes_eq text (codes "true")) (first_of name rows) false

abbrev pub setting_of : List Row → Setting
setting_of rows =
    let pause = number_of (codes "pause") 8 rows in
    record {
      batch = number_of (codes "batch") 4096 rows;
      workers = number_of (codes "workers") 4 rows;
      pause = pause;
      resume = number_of (codes "resume") (pause / 2) rows;
    }

-- whether the format is `csv`: it is `table` where it isn't given, and there is no other
abbrev pub csv_of : Option Text → Option Bool
csv_of None = Some false
csv_of (Some text) = if bytes_eq text (codes "csv") then Some true else (if bytes_eq text (codes "table") then Some false else None)

-- `resume` is below `pause`, which its default always is, and `--explain` and `--report` aren't both
-- given
abbrev pub can_run : Setting → Bool → Bool → Bool
can_run setting explain report = nat_lt setting.resume setting.pause && not (explain && report)

-- The words of a parse that succeeds: the run can be; the format is one of the two; there is a
-- script; and the TABLE words are tables.
unfoldable pub words_of : List Row → Option Words
words_of rows =
    if can_run (setting_of rows) (is_given (codes "explain") rows) (is_given (codes "report") rows) then
    csv_of (first_of (codes "format") rows) >>= (λ csv.
    first_of (codes "SCRIPT") rows >>= (λ script.
    tables_of (unwrap_or (all_of (codes "TABLE") rows) []) >>= (λ tables. Some (record {
      setting = setting_of rows;
      csv = csv;
      explain = is_given (codes "explain") rows;
      report = is_given (codes "report") rows;
      make = None;
      script = script;
      tables = tables;
    }))))
    else None

-- the words, where clap finds no fault in them
unfoldable pub settings_of : List Text → Result Words BadWords
settings_of words = if length (fault_of command words) == 0 then ok_or (words_of (matches_of command words)) (record {}) else Err (record {})
