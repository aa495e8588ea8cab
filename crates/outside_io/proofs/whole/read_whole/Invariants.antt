use Rattle.std.proofs.Common.{◌≡◌, ◌≤◌, Some, length, ◌-◌}
use Rattle.outside_io.specs.Counts.{NoneRose}
use Rattle.outside_io.specs.Outside.{Held}
use Rattle.outside_io.proofs.Fronts.{IsFront}
use Rattle.outside_io.proofs.whole.read_whole.Given as goal

abbrev pub invariant-pieces : goal.invariant-pieces
invariant-pieces g l =
    record {
      in_buffer : l.filled ≤ length l.buffer.items;
      in_limit : l.filled ≤ l.limit;
      front : (held : Held) → g.F.Files.held l.fn.files ≡ Some held → IsFront (held l.name) l.filled l.buffer.items;
      held : g.F.Files.held l.files ≡ g.F.Files.held l.fn.files;
      counts : NoneRose (g.F.Files.faults l.fn.files) (g.F.Files.faults l.files) (g.F.Files.faults_of l.fn.files) (g.F.Files.faults_of l.files);
    }

abbrev pub decreases-pieces : goal.decreases-pieces
decreases-pieces g l = l.limit - l.filled
