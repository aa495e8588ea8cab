-- How a run stands.
use Rattle.std.specs.Prelude.{ℕ, Bool, cond, nat_lt}
use Rattle.plan_machine.specs.declared.entry.Phase.{Phase}
use Rattle.plan_machine.specs.After.{is_done}
use Rattle.plan_store.specs.declared.setting.Ending.{Ending}
use Rattle.plan_store.specs.declared.setting.Ending.TheVariants.{Running, Ended, Failed}

-- it goes on while anything is in flight, then has failed, or has ended once its sink is Done
abbrev pub ending_by : ℕ → Bool → Phase → Ending
ending_by flying failed sink = cond (nat_lt 0 flying) Running (cond failed Failed (cond (is_done sink) Ended Running))
