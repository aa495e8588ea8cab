use Rattle.std.proofs.Common.{◌∙◌}
use Rattle.verb_arguments.proofs.VerbLists.{by_lists}
use Rattle.verb_arguments.proofs.names.known_by.Goals as goal

pub returns : goal.returns
returns c =
    c.known_of.ensures
    ∙ by_lists c.args.name.now c.verb_named.result c.later_named.result c.left_out_named.result c.verb_named.ensures c.later_named.ensures c.left_out_named.ensures
