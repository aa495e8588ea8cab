use Rattle.std.proofs.Common.{◌∙◌}
use Rattle.std.specs.Str.Parse.{ParsesUnsigned, ExplainsUnsignedError, HasUnsignedDigitsIfOk}
use Rattle.clap.specs.Words.{found_of}
use Rattle.command_words.proofs.Readings.{number_by}
use Rattle.command_words.proofs.words.number_of.Goals as goal

pub returns : goal.returns
returns c =
    c.unwrap_or.ensures ∙ number_by _ (λ bs r. ParsesUnsigned 32 10 bs r × ExplainsUnsignedError 10 bs r × HasUnsignedDigitsIfOk bs r) (found_of c.args.matches.now) c.args.name.now c.args.default c.get_one.result
    (λ t x g. g.0) c.get_one.ensures.none c.get_one.ensures.value c.requires
