use Rattle.op_set.proofs.any.AnyOpOperator.tails.Goals as goal

pub returns-in-Join-Join : goal.returns-in-Join-Join
returns-in-Join-Join c = rw (c.in-Join-Join.is-0, c.in-Join-Join.is-1) c.tails.ensures

pub returns-in-Fetch-Gathered : goal.returns-in-Fetch-Gathered
returns-in-Fetch-Gathered c = rw (c.in-Fetch-Gathered.is-0, c.in-Fetch-Gathered.is-1) c.tails-in-Fetch-Gathered.ensures

pub returns-in-Sink-Gathered : goal.returns-in-Sink-Gathered
returns-in-Sink-Gathered c = rw (c.in-Sink-Gathered.is-0, c.in-Sink-Gathered.is-1) c.tails-in-Sink-Gathered.ensures
