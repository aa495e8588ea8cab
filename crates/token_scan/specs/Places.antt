-- A place of a script as a reader counts it.
use Rattle.std.specs.Prelude.{ℕ, ◌+◌, Bool, ◌==◌, List, take, drop, length, count_by}
use Rattle.std.specs.List.{after_last}
use Rattle.std.specs.Str.{chars}
use Rattle.token_scan.specs.declared.token.Place.{Place}
use Rattle.token_scan.specs.Tokens.{mark_len}

abbrev pub is_line_feed : ℕ → Bool
is_line_feed b = b == 10

-- a script's front without the mark at its start
abbrev pub unmarked : List ℕ → List ℕ
unmarked front = drop (mark_len front) front

-- The line is one more than the line feeds before the place; the column is one more than the code points
-- between the line's start and the place, the mark not counted.
unfoldable pub place_at : List ℕ → ℕ → Place
place_at script at =
    let front = take at script in
    record { line = 1 + count_by is_line_feed front; column = 1 + length (chars (after_last is_line_feed (unmarked front))) }
