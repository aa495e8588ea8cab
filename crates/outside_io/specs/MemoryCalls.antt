-- What the calls of files and of a sink in memory answer, and what stays from call to call.
use Rattle.std.specs.Prelude.{◌≡◌, ℕ, ◌+◌, ◌-◌, List, [], length, replicate, Result, slice_index}
use Rattle.outside_io.specs.declared.files.Failed.{Failed}
use Rattle.outside_io.specs.declared.mem_files.MemFiles.{MemFiles}
use Rattle.outside_io.specs.declared.mem_sink.MemSink.{MemSink}
use Rattle.outside_io.specs.Memory.{Named, file_named, place_named, is_to_fail, next_count, read_answer, write_answer}

-- the files, none of which was read, and the numbers of the reads that are to fail
pub record AreNewFiles (given : Named) (to_fail : List ℕ) (m : MemFiles) : Type 0 where
  pub files : m.files ≡ given
  pub failing : m.failing ≡ to_fail
  pub calls : m.calls ≡ 0
  pub faults : m.faults ≡ 0
  pub counts : m.counts.items ≡ replicate (length given + 1) 0

-- how many reads of this name failed; all names that are not there have one count
abbrev pub count_of : MemFiles → List ℕ → ℕ
count_of m name = slice_index m.counts.items (place_named m.files name)

-- what a read of this name from `at` answers, with room for so many bytes
abbrev pub next_read : MemFiles → List ℕ → ℕ → ℕ → Result ℕ Failed
next_read m name at room = read_answer (is_to_fail m.failing m.calls) (file_named m.files name) at room

-- one more read was made
pub record IsAfterRead (old new : MemFiles) : Type 0 where
  pub calls : new.calls ≡ next_count old.calls
  pub failing : new.failing ≡ old.failing
  pub files : new.files ≡ old.files

-- the bytes that a sink has taken
abbrev pub sink_bytes : MemSink → List ℕ
sink_bytes s = s.bytes.items

-- a sink that has taken nothing, and the numbers of the writes that are to fail
pub record IsNewSink (in_all at_once : ℕ) (to_fail : List ℕ) (s : MemSink) : Type 0 where
  pub bytes : sink_bytes s ≡ []
  pub room : s.room ≡ in_all
  pub most : s.most ≡ at_once
  pub failing : s.failing ≡ to_fail
  pub calls : s.calls ≡ 0
  pub faults : s.faults ≡ 0

-- what a write of so many bytes answers
abbrev pub next_write : MemSink → ℕ → Result ℕ Failed
next_write s n = write_answer (is_to_fail s.failing s.calls) (s.room - length (sink_bytes s)) s.most n

-- one more write was made
pub record IsAfterWrite (old new : MemSink) : Type 0 where
  pub calls : new.calls ≡ next_count old.calls
  pub failing : new.failing ≡ old.failing
  pub room : new.room ≡ old.room
  pub most : new.most ≡ old.most
