use Rattle.std.proofs.Common.{◌≡◌, Some, drop, All}
use Rattle.outside_io.specs.Counts.{NoneRose}
use Rattle.outside_io.specs.Outside.{Held}
use Rattle.row_table.specs.declared.table.Mark.TheVariants.{Kept}
use Rattle.script_session.proofs.TablesRead.{ReadSo}
use Rattle.script_session.proofs.tables.tables_of.Given as goal

abbrev pub invariant-loop-word : goal.invariant-loop-word
invariant-loop-word g l =
    (g.F.Files.held l.files ≡ g.F.Files.held l.fn.files)
    × NoneRose (g.F.Files.faults l.fn.files) (g.F.Files.faults l.files) (g.F.Files.faults_of l.fn.files) (g.F.Files.faults_of l.files)
    × All (λ t. t.1.mark ≡ Kept) l.tables
    × ((held : Held) → g.F.Files.held l.fn.files ≡ Some held → ReadSo l.words (drop l.word-index l.words) l.tables held)
