-- The command that the words are read by: a simple command of clap.
use Rattle.std.specs.Prelude.{ℕ, List, [], ◌∷◌, ◌++◌, Some, pos, codes, true}
use Rattle.clap.specs.Words.{App, Rule, Text, new_rule}
use Rattle.clap.specs.Simple.{new_shape}
use Rattle.clap.specs.declared.builder.action.ArgAction.TheVariants.{SetTrue, Append}
use Rattle.clap.specs.declared.builder.value_parser.ValueParser.TheVariants.{Signed}

-- `--NAME N`, a number from least to most
abbrev pub number_option : Text → ℕ → ℕ → Rule
number_option name least most = record (new_rule name) { long = Some name; parser = Some (Signed (pos least) (pos most)) }

-- `--NAME TEXT`
abbrev pub text_option : Text → Rule
text_option name = record (new_rule name) { long = Some name }

-- `--NAME`
abbrev pub flag : Text → Rule
flag name = record (new_rule name) { long = Some name; action = Some SetTrue }

-- a word, which may be left out
abbrev pub word : Text → Rule
word name = new_rule name

-- any number of words
abbrev pub more_words : Text → Rule
more_words name = record (new_rule name) { action = Some Append }

abbrev pub number_options : List Rule
number_options =
    number_option (codes "workers") 1 64
    ∷ number_option (codes "batch") 1 65536
    ∷ number_option (codes "pause") 1 1024
    ∷ number_option (codes "resume") 0 1023
    ∷ []

abbrev pub arguments : List Rule
arguments = number_options
    ++ text_option (codes "format")
    ∷ flag (codes "explain")
    ∷ flag (codes "report")
    ∷ word (codes "SCRIPT")
    ∷ more_words (codes "TABLE")
    ∷ []

-- A simple command with these arguments: no program's name stands before its words, and it has no
-- option for help or a version.
abbrev pub command_with : List Rule → App
command_with rules = record {
  top = record (new_shape (codes "acero_run")) { rules = rules; no_binary_name = true; disable_help_flag = true };
  subs = [];
}

unfoldable pub command : App
command = command_with arguments
