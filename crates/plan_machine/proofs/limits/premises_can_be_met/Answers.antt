-- The full join of two tables of one column.
use Rattle.std.proofs.Common.{refl, lit≤}
use Rattle.plan_machine.proofs.WitnessPlan.{plan, lawful, well_formed, most_rows, most_batches, budget}
use Rattle.plan_machine.proofs.WitnessRun.{history, legal, ended}
use Rattle.plan_machine.proofs.limits.premises_can_be_met.Goals as goal

pub returns : goal.returns
returns c = (
  plan,
  record {
    lawful = lawful;
    well_formed = well_formed;
    join = 3;
    join_node = (lit≤ tt, lit≤ tt);
    is_join = (refl, refl);
    tails = refl;
    rows = most_rows;
    batches = most_batches;
    budget = budget;
    history = history;
    legal = legal;
    ended = ended;
  },
)
