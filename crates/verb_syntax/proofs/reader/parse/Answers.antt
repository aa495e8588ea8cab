-- The laws on the definitions.
use Rattle.verb_syntax.proofs.Parses.{derive_one, open_one, opens_all}
use Rattle.verb_syntax.proofs.Counted.{counts_operators}
use Rattle.verb_syntax.proofs.Parsed.{by_grammar, gives_parsed}
use Rattle.verb_syntax.proofs.reader.parse.Goals as goal

pub returns-clause-parsed : goal.returns-clause-parsed
returns-clause-parsed c = gives_parsed c.args.tokens.now c.args.end c.read_all.result c.read_all.ensures

pub returns-clause-by_grammar : goal.returns-clause-by_grammar
returns-clause-by_grammar c = by_grammar

pub returns-clause-one_tree : goal.returns-clause-one_tree
returns-clause-one_tree c = derive_one

pub returns-clause-counted : goal.returns-clause-counted
returns-clause-counted c = counts_operators

pub returns-clause-one_opening : goal.returns-clause-one_opening
returns-clause-one_opening c = open_one

pub returns-clause-all_open : goal.returns-clause-all_open
returns-clause-all_open c = opens_all
