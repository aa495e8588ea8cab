-- The entries that need no worker.
use Rattle.plan_machine.specs.declared.entry.Entry.{Entry}
use Rattle.plan_machine.specs.declared.entry.Entry.TheVariants.{Claim, Deliver, Pause, Resume, Finish, Stop, Fail}

-- Upkeep is Pause, Resume, Finish and Stop.
abbrev pub IsUpkeep : Entry → Type 0
IsUpkeep (Claim w n job k) = ⊥
IsUpkeep (Deliver w) = ⊥
IsUpkeep (Pause e) = Unit {0}
IsUpkeep (Resume e) = Unit {0}
IsUpkeep (Finish n) = Unit {0}
IsUpkeep (Stop n) = Unit {0}
IsUpkeep (Fail w) = ⊥
