-- What the words are once clap has read them, which this crate's own calls say to one another.
use Rattle.std.specs.Prelude.{◌≡◌, ◌≤◌, ℕ, ◌==◌, true, false, List, length, Result, Ok, Err, IfSome, codes}
use Rattle.std.specs.Str.Parse.{IsNumeral, digits_value, without_leading_plus}
use Rattle.clap.specs.Words.{Row, Text, fault_of, found_of, matches_of, one_of, rows_of}
use Rattle.clap.specs.declared.parser.matches.ArgMatches.{ArgMatches}
use Rattle.clap.specs.declared.error.kind.ErrorKind.{ErrorKind}
use Rattle.clap.specs.declared.error.kind.ErrorKind.TheVariants.{OutOfMemory}
use Rattle.scalar_value.specs.declared.memory.Or.{Or}
use Rattle.scalar_value.specs.declared.memory.Or.TheVariants.{Fault, Memory}
use Rattle.command_words.specs.Command.{command}
use Rattle.command_words.specs.declared.words.BadWords.{BadWords}

-- the text is a number from least to most
abbrev pub IsNumberFrom : ℕ → ℕ → Text → Type 0
IsNumberFrom least most text =
    IsNumeral 10 (without_leading_plus text)
    × (least ≤ digits_value 10 (without_leading_plus text))
    × (digits_value 10 (without_leading_plus text) ≤ most)

-- the option isn't given, or is such a number
abbrev pub IsOption : Text → ℕ → ℕ → List Row → Type 0
IsOption name least most rows = IfSome (one_of name rows) (IsNumberFrom least most)

pub record HasNumbers (rows : List Row) : Type 0 where
  pub workers : IsOption (codes "workers") 1 64 rows
  pub batch : IsOption (codes "batch") 1 65536 rows
  pub pause : IsOption (codes "pause") 1 1024 rows
  pub resume : IsOption (codes "resume") 0 1023 rows

-- the matches that clap's definition gives for the words, and a fault where it finds one
abbrev pub ReadsWords : List Text → Result ArgMatches (Or BadWords) → Type 0
ReadsWords words (Ok m) = ((length (fault_of command words) == 0) ≡ true) × (rows_of (found_of m) ≡ matches_of command words) × HasNumbers (rows_of (found_of m))
ReadsWords words (Err (Fault f)) = (length (fault_of command words) == 0) ≡ false
ReadsWords words (Err Memory) = Unit {0}

-- what a refusal of clap's is here
abbrev pub refusal_of : ErrorKind → Or BadWords
refusal_of OutOfMemory = Memory
refusal_of _ = Fault (record {})
