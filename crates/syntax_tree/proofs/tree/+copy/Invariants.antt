use Rattle.std.proofs.Common.{◌≡◌, take}
use Rattle.syntax_tree.proofs.tree.+copy.Given as goal

abbrev pub invariant-Call::copy-loop-arg : goal.invariant-Call::copy-loop-arg
invariant-Call::copy-loop-arg l = l.args ≡ take l.arg-index l.arg-items

abbrev pub invariant-Pipe::copy-loop-call : goal.invariant-Pipe::copy-loop-call
invariant-Pipe::copy-loop-call l = l.calls ≡ take l.call-index l.call-items
