use Rattle.std.proofs.Common.{to_z-of_z}
use Rattle.jiff_core.proofs.DateLemmas.{civil}
use Rattle.scalar_fns.proofs.DayOrder.{has_date}
use Rattle.scalar_fns.proofs.day.day_has_date.Goals as goal

pub returns : goal.returns
returns c =
    let f = c.ranges.day in
    let date = c.date_of-date.result in
    has_date date.year date.month date.day c.args.day (civil date) (simp to_z-of_z at c.date_of-date.ensures) c.requires
