-- Whole histories: when one is legal, the state that it leaves, how it ends, and how long each edge grew.
use Rattle.std.specs.Prelude.{◌≡◌, ℕ, true, false, List, [], ◌∷◌, length, max}
use Rattle.plan_machine.specs.declared.entry.Phase.TheVariants.{Done}
use Rattle.plan_machine.specs.declared.entry.Entry.{Entry}
use Rattle.plan_machine.specs.Plan.{Plan}
use Rattle.plan_machine.specs.State.{State, NothingInFlight, opening}
use Rattle.plan_machine.specs.Enabled.{Enabled}
use Rattle.plan_machine.specs.After.{after}

module _ {R : Type 0} (P : Plan R) where
  -- the state after a list of entries
  unfoldable pub replay : List Entry → State R → State R
  replay [] s = s
  replay (e ∷ es) s = replay es (after P s e)

  -- each entry was enabled in the state that it met
  abbrev pub IsLegal : List Entry → State R → Type 0
  IsLegal [] s = Unit {0}
  IsLegal (e ∷ es) s = Enabled P s e × IsLegal es (after P s e)

  -- a history of a run, and the state that it leaves
  abbrev pub IsHistory : List Entry → Type 0
  IsHistory es = IsLegal es (opening P)

  abbrev pub state_after : List Entry → State R
  state_after es = replay es (opening P)

  -- The run has ended: the sink is Done, no Fail came, and nothing is in flight.
  pub record IsEnded (s : State R) : Type 0 where
    pub done : s.phase P.sink ≡ Done
    pub sound : s.failed ≡ false
    pub idle : NothingInFlight P s

  -- The run has failed: a Fail came, and nothing is in flight.
  pub record HasFailed (s : State R) : Type 0 where
    pub failed : s.failed ≡ true
    pub idle : NothingInFlight P s

  -- the greatest number of batches that wait on edge e in any state of the replay
  unfoldable pub peak : ℕ → List Entry → State R → ℕ
  peak e [] s = length (s.waiting e)
  peak e (x ∷ xs) s = max (length (s.waiting e)) (peak e xs (after P s x))

  -- the rows of the result: what the sink built
  abbrev pub result_rows : State R → List R
  result_rows s = s.built P.sink
