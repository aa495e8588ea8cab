use Rattle.std.proofs.Common.{◌≡◌, drop}
use Rattle.selections.specs.Selectors.{selection, with_selectors}
use Rattle.selections.proofs.selector.selection.Given as goal

abbrev pub invariant-loop-selector : goal.invariant-loop-selector
invariant-loop-selector l =
    selection l.schema l.selectors ≡ with_selectors l.had (drop l.selector-index l.selectors)
