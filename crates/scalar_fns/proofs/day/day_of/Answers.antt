use Rattle.std.proofs.Common.{arith, to_z-of_z, ◌≡◌}
use Rattle.std.proofs.lemmas.Int.{ints}
use Rattle.jiff_core.proofs.DateLemmas.{civil}
use Rattle.scalar_fns.specs.Days.{month_day_of}
use Rattle.scalar_fns.proofs.Calendar.{month_day_is}
use Rattle.scalar_fns.proofs.day.day_of.Goals as goal

pub returns : goal.returns
returns c =
    let f = c.ranges.day in
    let date = c.date_of.result in
    let day = simp to_z-of_z at c.date_of.ensures in
    let same : date.day ≡ month_day_of c.args.day = month_day_is date.year date.month date.day c.args.day (civil date) day c.requires in
    omega (arith, ints, same, c.from.ensures, civil date)
