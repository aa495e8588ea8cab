use Rattle.std.proofs.Common.{sym, subst}
use Rattle.csv.specs.Records.{AllText}
use Rattle.table_print.proofs.Texts.{no-text}
use Rattle.table_print.proofs.cells.fill_values.Goals as goal

pub loop-value-init : goal.loop-value-init
loop-value-init c = record { cells = c.clear.ensures.fields; text = subst AllText (sym c.clear.ensures.fields) no-text }
