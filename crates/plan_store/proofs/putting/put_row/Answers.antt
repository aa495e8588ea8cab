use Rattle.std.proofs.Common.{◌-◌}
use Rattle.plan_store.proofs.RowsPut.{row_put_whole}
use Rattle.plan_store.proofs.putting.put_row.Goals as goal

pub returns : goal.returns
returns g c = row_put_whole c.args.shares.now.items (c.args.node - 1) c.args.row
