use Rattle.std.proofs.Common.{◌≡◌, ◌∙◌, ◌==◌, ap, refl, subst, sym, length, true, Err, List, map}
use Rattle.std.specs.String.{string_bytes}
use Rattle.clap.specs.Words.{App, Kinds, Text, app_of, fault_of, is_simple, is_simple_and_free, matches_of}
use Rattle.clap.specs.Kinds.{HasKind}
use Rattle.scalar_value.specs.declared.memory.Or.{Or}
use Rattle.command_words.specs.Command.{command}
use Rattle.command_words.specs.Reading.{ReadsWords, refusal_of}
use Rattle.command_words.specs.declared.words.BadWords.{BadWords}
use Rattle.command_words.proofs.Options.{has_numbers}
use Rattle.command_words.proofs.Readings.{refused_by}
use Rattle.command_words.proofs.command.matches_of.Goals as goal

is_free : is_simple_and_free command ≡ true
unfolding command
is_free = refl

is_one : is_simple command ≡ true
unfolding command
is_one = refl

pub returns-in-Ok : goal.returns-in-Ok
returns-in-Ok c =
    let words : List Text = map (λ w. string_bytes w) c.args.words.now in
    let same : app_of c.in_ok-command.field-0 ≡ command = c.in_ok-command.ensures in
    let free : is_simple_and_free (app_of c.in_ok-command.field-0) ≡ true = ap is_simple_and_free same ∙ is_free in
    let one : is_simple (app_of c.in_ok-command.field-0) ≡ true = ap is_simple same ∙ is_one in
    let none = ap (λ (a : App). fault_of a words) (sym same) ∙ c.in-Ok.ensures.kinds free in
    (ap (λ (k : Kinds). length k == 0) none, (c.in-Ok.ensures.matches one).0 ∙ ap (λ (a : App). matches_of a words) same, has_numbers c.in_ok-command.field-0 c.in-Ok.matches c.in-Ok.ensures.parsed same)

pub returns-in-Err : goal.returns-in-Err
returns-in-Err c =
    let words : List Text = map (λ w. string_bytes w) c.args.words.now in
    let same : app_of c.in_ok-command.field-0 ≡ command = c.in_ok-command.ensures in
    let free : is_simple_and_free (app_of c.in_ok-command.field-0) ≡ true = ap is_simple_and_free same ∙ is_free in
    let P : App → Type 0 = λ a. HasKind (fault_of a words) c.in-Err.error in
    let Q : Or BadWords → Type 0 = λ r. ReadsWords words (Err r) in
    subst Q (sym (c.refusal_of.ensures ∙ ap refusal_of c.kind.ensures)) (refused_by words c.in-Err.error (subst P same (c.in-Err.ensures.kinds free)))
