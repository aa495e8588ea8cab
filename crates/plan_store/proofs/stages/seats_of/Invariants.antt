use Rattle.std.proofs.Common.{◌≡◌, ◌<◌, ℕ, length, slice_index_or, None, Option}
use Rattle.plan_store.specs.declared.stage.Flight.{Flight}
use Rattle.plan_store.proofs.stages.seats_of.Given as goal

abbrev pub invariant-loop-place : goal.invariant-loop-place
invariant-loop-place l = (length l.made.items ≡ l._place) × ((k : ℕ) (d : Option Flight) → k < l._place → slice_index_or l.made.items k d ≡ None)
