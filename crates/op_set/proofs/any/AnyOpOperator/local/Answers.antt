use Rattle.op_set.proofs.any.AnyOpOperator.local.Goals as goal

pub returns-in_ok-local-in-Join : goal.returns-in_ok-local-in-Join
returns-in_ok-local-in-Join c = rw c.in-Join.is c.in_ok-local-in-Join.ensures

pub returns-in_ok-local-in-Fetch : goal.returns-in_ok-local-in-Fetch
returns-in_ok-local-in-Fetch c = rw c.in-Fetch.is c.in_ok-local-in-Fetch.ensures

pub returns-in_ok-local-in-Sink : goal.returns-in_ok-local-in-Sink
returns-in_ok-local-in-Sink c = rw c.in-Sink.is c.in_ok-local-in-Sink.ensures
