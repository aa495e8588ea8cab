-- Files and a sink in memory, and when their calls fail.
use Rattle.std.specs.Prelude.{ℕ, ◌+◌, ◌-◌, ◌^◌, ◌==◌, ◌||◌, ◌&&◌, Bool, true, not, min, List, [], ◌∷◌, length, Option, Some, None, Result, Ok, Err, option_map, nat_lt, if◌then◌else◌}
use Rattle.std.specs.List.{position_or_len, list_any, find}
use Rattle.std.specs.Str.{bytes_eq}
use Rattle.outside_io.specs.declared.files.Failed.{Failed}

-- files by name
abbrev pub Named : Type 0
Named = List (List ℕ × List ℕ)

-- whether this name is that of the file
abbrev pub is_named : List ℕ → List ℕ × List ℕ → Bool
is_named name file = bytes_eq file.0 name

-- the place of the first file of this name, and the number of files where none has it
abbrev pub place_named : Named → List ℕ → ℕ
place_named files name = position_or_len (is_named name) files

-- the bytes of the file of this name, and none where no file has it
abbrev pub file_named : Named → List ℕ → Option (List ℕ)
file_named files name = option_map (λ file. file.1) (find (is_named name) files)

-- no two files have one name
abbrev pub are_distinct : Named → Bool
are_distinct [] = true
are_distinct (file ∷ files) = not (list_any (is_named file.0) files) && are_distinct files

-- a count of calls or faults after one more; it ends at 2 ^ 64 - 1
abbrev pub next_count : ℕ → ℕ
next_count count = min (count + 1) (2 ^ 64 - 1)

-- whether the next call is among those that are to fail
abbrev pub is_to_fail : List ℕ → ℕ → Bool
is_to_fail failing calls = list_any (λ n. n == next_count calls) failing

-- What a read of so many bytes from `at` answers: it fails where it is to fail and where no file has the name,
-- and else it gives as many bytes as there are and as there is room for.
abbrev pub read_answer : Bool → Option (List ℕ) → ℕ → ℕ → Result ℕ Failed
read_answer fails None at room = Err (record {})
read_answer fails (Some file) at room = if fails then Err (record {}) else Ok (min room (length file - at))

-- What a write of so many bytes answers: it fails where it is to fail and where there is no room for a byte,
-- and else it takes as many as there is room for, and at most `most`.
abbrev pub write_answer : Bool → ℕ → ℕ → ℕ → Result ℕ Failed
write_answer fails room most n = if (room == 0 && nat_lt 0 n) || fails then Err (record {}) else Ok (min (min n most) room)
