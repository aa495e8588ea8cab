-- What files hold, what a read gives, and what a sink has taken.
use Rattle.std.specs.Prelude.{◌≡◌, ◌≢◌, ℕ, ◌<◌, ◌≤◌, List, ◌++◌, length, take, drop, Option, Some, None, IsSome, Result, Ok, Err, option_map}
use Rattle.scalar_value.specs.declared.memory.Or.{Or}
use Rattle.scalar_value.specs.declared.memory.Or.TheVariants.{Fault, Memory}
use Rattle.outside_io.specs.declared.whole.ReadFault.{ReadFault}
use Rattle.outside_io.specs.declared.whole.ReadFault.TheVariants as read_fault

-- the bytes of a file by its name, and none for a name that is not there
abbrev pub Held : Type 0
Held = List ℕ → Option (List ℕ)

-- The first `n` bytes of `into` are those of the file from `at`.
-- None of them where there is room for one means that `at` is at the end of the file or behind it.
pub record FillsFrom (file : List ℕ) (at : ℕ) (into : List ℕ) (n : ℕ) : Type 0 where
  pub bytes : take n into ≡ take n (drop at file)
  pub ended : n ≡ 0 → 0 < length into → length file ≤ at

-- the same of a file that may not be there; a file that is not there gives nothing
abbrev pub FillsFromFile : Option (List ℕ) → ℕ → List ℕ → ℕ → Type 0
FillsFromFile (Some file) at into n = FillsFrom file at into n
FillsFromFile None at into n = ⊥

-- the same where the files tell their bytes
abbrev pub ReadsFrom : Option Held → List ℕ → ℕ → List ℕ → ℕ → Type 0
ReadsFrom (Some held) name at into n = FillsFromFile (held name) at into n
ReadsFrom None name at into n = Unit {0}

-- Where the files tell their bytes, the count of each other file that is there is as it was.
abbrev pub OthersKept : Option Held → List ℕ → (List ℕ → Option ℕ) → (List ℕ → Option ℕ) → Type 0
OthersKept (Some held) name of_before of_now =
    (other : List ℕ) → other ≢ name → IsSome (held other) → of_now other ≡ of_before other
OthersKept None name of_before of_now = Unit {0}

-- a sink that has taken `old` has taken these bytes behind it; where it doesn't tell, nothing is said
abbrev pub Takes : Option (List ℕ) → Option (List ℕ) → List ℕ → Type 0
Takes old new bytes = new ≡ option_map (λ taken. taken ++ bytes) old

-- it has taken a front part of these bytes
abbrev pub TakesPart : Option (List ℕ) → Option (List ℕ) → List ℕ → Type 0
TakesPart old new bytes = (n : ℕ) × (n ≤ length bytes) × Takes old new (take n bytes)

-- What the read of a whole file answers, where its bytes are told: all its bytes, which are at most `limit`,
-- or that it has more. A read that failed and want of memory are told elsewhere.
abbrev pub IsWhole : Result (List ℕ) (Or ReadFault) → Option (List ℕ) → ℕ → Type 0
IsWhole (Ok read) file limit = (file ≡ Some read) × (length read ≤ limit)
IsWhole (Err (Fault read_fault.TooLong)) file limit = (bytes : List ℕ) × (file ≡ Some bytes) × (limit < length bytes)
IsWhole (Err (Fault read_fault.Failed)) file limit = Unit {0}
IsWhole (Err Memory) file limit = Unit {0}

-- `failed` where a read of the file failed, and `others` with every other answer
abbrev pub ByFailed : Result (List ℕ) (Or ReadFault) → Type 0 → Type 0 → Type 0
ByFailed (Ok read) failed others = others
ByFailed (Err (Fault read_fault.TooLong)) failed others = others
ByFailed (Err (Fault read_fault.Failed)) failed others = failed
ByFailed (Err Memory) failed others = others

-- The next `n` bytes of the file behind its first `filled` stand in the buffer there;
-- where the buffer has room, there are none only where the file has no more.
abbrev pub IsNext : Option (List ℕ) → ℕ → List ℕ → ℕ → Type 0
IsNext (Some file) filled buffer n = FillsFrom file filled (drop filled buffer) n
IsNext None filled buffer n = ⊥
