use Rattle.group_rules.proofs.Names.{among-once, once-distinct, once-itself}
use Rattle.group_rules.proofs.laws.names_once.Goals as goal

pub returns : goal.returns
returns c = record { distinct = once-distinct; the_same = among-once; itself = once-itself }
