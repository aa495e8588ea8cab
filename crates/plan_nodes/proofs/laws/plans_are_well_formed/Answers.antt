use Rattle.row_table.proofs.Rows.{row_same-decides}
use Rattle.std.proofs.Common.{length, refl, arith}
use Rattle.row_table.specs.SameTables.{row_same}
use Rattle.plan_nodes.proofs.Placed.{placed, sink-placed, node-lawful}
use Rattle.plan_nodes.proofs.laws.plans_are_well_formed.Goals as goal

pub returns-clause-well_formed : goal.returns-clause-well_formed
returns-clause-well_formed c nodes tables pace is on = record {
  nodes = λ n here. placed nodes tables pace n (is.placed n here.0 here.1) (is.one_sink n here.0);
  sink = sink-placed nodes tables pace (length nodes) (is.placed (length nodes) is.some (omega arith)) is.last;
  sink_node = is.some;
  users = λ e edge. is.used e edge.0 edge.1;
  batch = on.batch;
  resume = on.resume;
}

pub returns-clause-lawful : goal.returns-clause-lawful
returns-clause-lawful c nodes tables pace is on = record {
  equality = record { same = row_same; tells = λ x y. (row_same-decides x y).0; self = λ x. (row_same-decides x x).1 refl };
  nodes = λ n here. node-lawful nodes tables pace n (is.placed n here.0 here.1);
}
