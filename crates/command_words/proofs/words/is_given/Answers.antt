use Rattle.std.proofs.Common.{◌≡◌, ◌∙◌, rules}
use Rattle.std.specs.Prelude.{codes}
use Rattle.std.specs.Str.{bytes_eq}
use Rattle.clap.specs.Words.{found_of}
use Rattle.command_words.proofs.Readings.{given_by}
use Rattle.command_words.proofs.words.is_given.Goals as goal

pub returns-in-Some : goal.returns-in-Some
returns-in-Some c =
    let equal : c.eq.result ≡ bytes_eq c.in-Some.text.now (codes "true") = search rules in
    equal ∙ given_by (found_of c.args.matches.now) c.args.name.now _ c.in-Some.ensures

pub returns-in-None : goal.returns-in-None
returns-in-None c = given_by (found_of c.args.matches.now) c.args.name.now _ c.in-None.ensures
