-- That what the laws ask can be met, by a plan with a fetch that stops its input.
use Rattle.std.specs.Prelude.{◌≡◌, ℕ, true, false, List, Some, Contains}
use Rattle.plan_machine.specs.declared.entry.Entry.{Entry}
use Rattle.plan_machine.specs.declared.entry.Entry.TheVariants.{Pause, Resume, Stop}
use Rattle.plan_machine.specs.Plan.{Plan, IsNode, Folds, OnlyStreams, folds_from}
use Rattle.plan_machine.specs.History.{IsHistory, state_after, IsEnded}
use Rattle.plan_machine.specs.WellFormed.{Lawful, WellFormed}
use Rattle.plan_machine.specs.Budget.{IsBudget}

-- A plan with a node that only streams, as a filter, one that makes an order of rows that have none, as an
-- order_by, and a fetch; and a history of it that ends, in which an edge was paused and resumed, and the
-- fetch stopped the nodes below it.
pub record IsStoppingExample (P : Plan ℕ) : Type 0 where
  pub lawful : Lawful P
  pub well_formed : WellFormed P
  pub filter : ℕ
  pub filter_node : IsNode P filter
  pub only_streams : OnlyStreams (P.node filter)
  pub sorter : ℕ
  pub sorter_node : IsNode P sorter
  pub sorter_folds : Folds (P.node sorter)
  pub sorter_orders : ((P.node (folds_from P sorter)).kept ≡ false) × ((P.node sorter).kept ≡ true)
  pub fetch : ℕ
  pub fetch_node : IsNode P fetch
  pub wanted : ℕ
  pub fetch_wants : (P.node fetch).wanted ≡ Some wanted
  pub rows : ℕ → ℕ
  pub batches : ℕ → ℕ
  pub budget : IsBudget P rows batches
  pub history : List Entry
  pub legal : IsHistory P history
  pub ended : IsEnded P (state_after P history)
  pub paused : ℕ
  pub pauses : Contains history (Pause paused)
  pub resumes : Contains history (Resume paused)
  pub stops : Contains history (Stop fetch)

abbrev pub StoppingPremisesCanBeMet : Type 0
StoppingPremisesCanBeMet = (P : Plan ℕ) × IsStoppingExample P
