-- A command with one more argument.
use Rattle.std.proofs.Common.{◌≡◌, ◌∙◌, ap₂, false}
use Rattle.clap.specs.Words.{App, Rule, AddsArg, app_of, rule_of, with_rule}
use Rattle.clap.specs.declared.builder.arg.Arg.{Arg}
use Rattle.clap.specs.declared.builder.command.Command.{Command}

pub add : (old new : Command) (a : Arg) (app : App) (r : Rule) → AddsArg old a new → a.global ≡ false → app_of old ≡ app → rule_of a ≡ r → app_of new ≡ with_rule app r
add old new a app r added own is rule = added.shape own ∙ ap₂ with_rule is rule
