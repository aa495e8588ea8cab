use Rattle.std.proofs.Common.{codes}
use Rattle.command_words.specs.Command.{command, text_option, flag, word, more_words}
use Rattle.command_words.proofs.CommandSteps.{add}
use Rattle.command_words.proofs.command.command.Goals as goal

pub returns : goal.returns
unfolding command
returns c =
    let five = add _ _ _ _ (text_option (codes "format")) c.in_ok-arg.ensures c.text_option.ensures.own c.in_ok-number_command.ensures c.text_option.ensures.rule in
    let six = add _ _ _ _ (flag (codes "explain")) c.in_ok-arg-2.ensures c.flag.ensures.own five c.flag.ensures.rule in
    let seven = add _ _ _ _ (flag (codes "report")) c.in_ok-arg-3.ensures c.flag-2.ensures.own six c.flag-2.ensures.rule in
    let eight = add _ _ _ _ (word (codes "SCRIPT")) c.in_ok-arg-4.ensures c.word.ensures.own seven c.word.ensures.rule in
    add _ _ _ _ (more_words (codes "TABLE")) c.in_ok-whole.ensures c.more_words.ensures.own eight c.more_words.ensures.rule
