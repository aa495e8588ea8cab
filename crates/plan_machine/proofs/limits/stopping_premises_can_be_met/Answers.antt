-- A filter, an aggregate, an order_by and a fetch, and a history in which the fetch stops its input.
use Rattle.std.proofs.Common.{refl, lit≤, lit<}
use Rattle.plan_machine.proofs.WitnessStop.{plan, lawful, well_formed, most_rows, budget}
use Rattle.plan_machine.proofs.WitnessStopRun.{history, legal, ended}
use Rattle.plan_machine.proofs.limits.stopping_premises_can_be_met.Goals as goal

pub returns : goal.returns
returns c = (
  plan,
  record {
    lawful = lawful;
    well_formed = well_formed;
    filter = 2;
    filter_node = (lit≤ tt, lit≤ tt);
    only_streams = refl;
    sorter = 4;
    sorter_node = (lit≤ tt, lit≤ tt);
    sorter_folds = refl;
    sorter_orders = (refl, refl);
    fetch = 5;
    fetch_node = (lit≤ tt, lit≤ tt);
    wanted = 1;
    fetch_wants = refl;
    rows = most_rows;
    batches = most_rows;
    budget = budget;
    history = history;
    legal = legal;
    ended = ended;
    paused = 1;
    pauses = (4, lit< tt, refl);
    resumes = (11, lit< tt, refl);
    stops = (40, lit< tt, refl);
  },
)
