-- What an edge counts: how many batches wait, whether it is paused, and how many waited at most.
use Rattle.std.specs.Prelude.{ℕ, ◌+◌, ◌-◌, Bool, true, false, max}

-- an edge as contracts see it
pub record EdgeValue : Type 0 where
  pub waiting : ℕ
  pub paused : Bool
  pub peak : ℕ

-- an edge on which nothing has waited
abbrev pub quiet : EdgeValue
quiet = record { waiting = 0; paused = false; peak = 0 }

-- one batch more waits: the peak is the greatest count so far
abbrev pub with_one_more : EdgeValue → EdgeValue
with_one_more e = record { waiting = e.waiting + 1; paused = e.paused; peak = max e.peak (e.waiting + 1) }

abbrev pub with_one_less : EdgeValue → EdgeValue
with_one_less e = record e { waiting = e.waiting - 1 }

-- emptied by a stop: nothing waits, and it isn't paused
abbrev pub emptied : EdgeValue → EdgeValue
emptied e = record e { waiting = 0; paused = false }
