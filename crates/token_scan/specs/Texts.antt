-- What stands between the quotes of a text.
use Rattle.std.specs.Prelude.{ℕ, ◌+◌, Bool, not, ◌==◌, ◌||◌, if◌then◌else◌, List, [], ◌∷◌, Option, Some, None}

-- A text up to its closing quote, with its escapes undone and the number of its bytes, that quote among them;
-- or its first wrong escape, so many bytes on; or no closing quote.
pub data Quoted : Type 0 where
  closed : List ℕ → ℕ → Quoted
  wrong : ℕ → Quoted
  open_end : Quoted

-- a byte that stands for itself
abbrev pub is_plain : ℕ → ℕ → Bool
is_plain quote b = not (b == quote || b == 92)

-- the byte that a backslash and this byte stand for
abbrev pub escaped : ℕ → Option ℕ
escaped b =
    if b == 92 then Some 92 else
    if b == 34 then Some 34 else
    if b == 39 then Some 39 else
    if b == 110 then Some 10 else
    if b == 116 then Some 9 else
    if b == 114 then Some 13 else None

-- the same, so many bytes later, behind a byte of the text
abbrev pub behind : ℕ → ℕ → Quoted → Quoted
behind byte count (closed text n) = closed (byte ∷ text) (count + n)
behind byte count (wrong at) = wrong (count + at)
behind byte count open_end = open_end

abbrev pub behind_escape : Option ℕ → Quoted → Quoted
behind_escape (Some byte) rest = behind byte 2 rest
behind_escape None rest = wrong 0

-- what follows an opening quote
unfoldable pub quoted : ℕ → List ℕ → Quoted
quoted quote [] = open_end
quoted quote (b ∷ []) = if b == quote then closed [] 1 else open_end
quoted quote (b ∷ c ∷ bs) =
    if b == quote then closed [] 1 else
    if b == 92 then behind_escape (escaped c) (quoted quote bs) else behind b 1 (quoted quote (c ∷ bs))
