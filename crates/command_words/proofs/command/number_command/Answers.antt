use Rattle.std.proofs.Common.{◌≡◌, rules, codes}
use Rattle.std.specs.Prelude.{pos}
use Rattle.clap.specs.declared.builder.value_parser.ValueParser.TheVariants.{Signed}
use Rattle.command_words.specs.Command.{number_option}
use Rattle.command_words.proofs.CommandSteps.{add}
use Rattle.command_words.proofs.command.number_command.Goals as goal

pub returns : goal.returns
returns c =
    let from_1 : c.range.result ≡ Signed (pos 1) (pos 64) = search rules in
    let from_2 : c.range-2.result ≡ Signed (pos 1) (pos 65536) = search rules in
    let from_3 : c.range-3.result ≡ Signed (pos 1) (pos 1024) = search rules in
    let from_4 : c.range-4.result ≡ Signed (pos 0) (pos 1023) = search rules in
    let one = add _ _ _ _ (number_option (codes "workers") 1 64) c.in_ok-arg.ensures c.number_option-workers.ensures.own c.empty_command.ensures (c.number_option-workers.ensures.rule 1 64 from_1) in
    let two = add _ _ _ _ (number_option (codes "batch") 1 65536) c.in_ok-arg-2.ensures c.number_option-batch.ensures.own one (c.number_option-batch.ensures.rule 1 65536 from_2) in
    let three = add _ _ _ _ (number_option (codes "pause") 1 1024) c.in_ok-arg-3.ensures c.number_option-pause.ensures.own two (c.number_option-pause.ensures.rule 1 1024 from_3) in
    add _ _ _ _ (number_option (codes "resume") 0 1023) c.in_ok-whole.ensures c.number_option-resume.ensures.own three (c.number_option-resume.ensures.rule 0 1023 from_4)
