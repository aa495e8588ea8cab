-- What the calls on queues leave.
use Rattle.std.specs.Prelude.{Bool}
use Rattle.plan_store.specs.declared.queue.Queue.{Queue}

abbrev pub with_paused : Queue → Bool → Queue
with_paused q paused = record q { edge = record q.edge { paused = paused } }
