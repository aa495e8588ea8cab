-- A run that is played: what the workers have in hand, and how the run stands behind the last move.
use Rattle.std.specs.Prelude.{◌≡◌, ℕ, List, [], length, Option, Some, None, slice_index_or}
use Rattle.scalar_value.specs.declared.value.Value.{Value}
use Rattle.scalar_value.specs.declared.value.ColType.{ColType}
use Rattle.plan_machine.specs.Batch.{Batch}
use Rattle.plan_nodes.specs.Operators.{OpMeaning}
use Rattle.plan_store.specs.Told.{Given, Told}
use Rattle.run_state.specs.Calls.{IsInHand}
use Rattle.run_state.specs.Opening.{IsFinished}
use Rattle.run_state.specs.Stored.{Held}
use Rattle.played_runs.specs.declared.moves.Hand.{Hand}
use Rattle.played_runs.specs.declared.playing.Played.{Played}
use Rattle.played_runs.specs.declared.playing.Played.TheVariants.{Ended, Failed, Running}

module _ {O S L : Type 0}
    (meaning : O → OpMeaning)
    (local_is : OpMeaning → List ColType → L → List (Batch (List Value)) → Type 0)
    (shared_is : OpMeaning → List (List ColType) → S → List (List Value) → List (Batch (List Value)) → Type 0)
  where
    -- a worker has nothing in hand, or the work of its task in flight
    abbrev pub IsHand : Told → ℕ → Option (Hand O S L) → Type 0
    IsHand told worker None = Unit {0}
    IsHand told worker (Some h) = IsInHand meaning local_is shared_is told worker h.node h.kept h.batch h.work

    -- the hands of the workers, from the first
    abbrev pub AreHands : Told → List (Option (Hand O S L)) → Type 0
    AreHands told hands = Held (IsHand told) hands

-- Where the run has ended, what it gives is what every legal history gives.
abbrev pub IsPlayed : Given → Played → Type 0
IsPlayed given (Ended finished) = IsFinished given finished
IsPlayed given Failed = Unit {0}
IsPlayed given Running = Unit {0}
