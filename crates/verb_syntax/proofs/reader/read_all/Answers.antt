-- The invariant of the loop, and what follows at each end.
use Rattle.std.proofs.Common.{◌≡◌, take, drop, suc, subst, sym, ◌∙◌, ap, arith, ◌+◌, Err}
use Rattle.scalar_value.specs.Gives.{Gives}
use Rattle.syntax_tree.specs.declared.tree.Script.{Script}
use Rattle.verb_syntax.specs.declared.fault.SyntaxFault.{SyntaxFault}
use Rattle.verb_syntax.specs.Parsed.{parsed, parsed_from, whole_or_unfinished}
use Rattle.verb_syntax.proofs.Parses.{IsAt, at_begin, reads_ok, token_next}
use Rattle.verb_syntax.proofs.Parsed.{opens, next_is, refused_is, whole_is}
use Rattle.verb_syntax.proofs.reader.read_all.Goals as goal

pub loop-token-init : goal.loop-token-init
loop-token-init c = (
  at_begin c.in_ok-begun.field-0 c.in_ok-begun.ensures,
  opens c.args.tokens.now c.args.end c.in_ok-begun.field-0 c.in_ok-begun.ensures,
)

pub loop-token-preserved : goal.loop-token-preserved
loop-token-preserved c = (
  subst (λ l. IsAt l c.in-Ok.next)
      (token_next c.args.tokens.now c.loop-token.token-index c.token-item.result c.loop-token-test.true c.token-item.is)
      (reads_ok (take c.loop-token.token-index c.args.tokens.now) c.token-item.result c.loop-token.reader c.in-Ok.next
      c.loop-token.invariant.0 c.in-Ok.ensures),
  c.loop-token.invariant.1
      ∙ (next_is c.args.end c.args.tokens.now c.loop-token.token-index c.token-item.result c.loop-token.reader c.in-Ok.next
      c.loop-token-test.true c.token-item.is c.in-Ok.ensures
      ∙ (let more : suc c.loop-token.token-index ≡ c.loop-token.token-index + 1 = omega arith in
      ap (λ i. parsed_from c.args.end (drop i c.args.tokens.now) c.in-Ok.next) more)),
)

pub returns-in-Err : goal.returns-in-Err
returns-in-Err c =
    subst (λ r. Gives {T = Script} (Err c.in-Err.why) r) (sym c.loop-token.invariant.1)
    (refused_is c.args.end c.args.tokens.now c.loop-token.token-index c.token-item.result c.loop-token.reader c.in-Err.why
    c.loop-token-test.true c.token-item.is c.in-Err.ensures)

pub returns-in-Ok-ended : goal.returns-in-Ok-ended
returns-in-Ok-ended c =
    c.loop-token.invariant.1
    ∙ (whole_is c.args.end c.args.tokens.now c.loop-token.token-index c.loop-token.reader c.loop-token-test.false
    ∙ ap (whole_or_unfinished c.args.end) c.in-Ok-ended.ensures)

pub returns-in-Err-Fault : goal.returns-in-Err-Fault
returns-in-Err-Fault c =
    c.loop-token.invariant.1
    ∙ (whole_is c.args.end c.args.tokens.now c.loop-token.token-index c.loop-token.reader c.loop-token-test.false
    ∙ ap (whole_or_unfinished c.args.end) (rw c.in-Err-Fault.field-0-is at c.in-Err-Fault.ensures))
