use Rattle.scalar_fns.proofs.DayOrder.{ordered, start}
use Rattle.scalar_fns.proofs.day.days_are_ordered.Goals as goal

pub returns-clause-ordered : goal.returns-clause-ordered
returns-clause-ordered c = ordered

pub returns-clause-start : goal.returns-clause-start
returns-clause-start c = start
