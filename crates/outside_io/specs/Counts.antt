-- Counts of faults. A count never falls, and ends at 2 ^ 64 - 1.
use Rattle.std.specs.Prelude.{◌≡◌, ℕ, ◌+◌, ◌-◌, ◌^◌, ◌<◌, ◌≤◌, min, List, Option, Some, None, Result, OnOk, OnErr}

-- the count rose in this call; at its end it stands still, and counts as risen
abbrev pub Rose : ℕ → ℕ → Type 0
Rose before now = min (before + 1) (2 ^ 64 - 1) ≤ now

-- A fault is answered only where the count rose, and any other answer leaves the count as it is.
pub record HasCause {T E : Type 0} (before now : ℕ) (result : Result T E) : Type 0 where
  pub later : before ≤ now
  pub failed : OnErr result (Rose before now)
  pub kept : OnOk result (now ≡ before)

-- A call on one name failed: the count of all faults rose, and that of the name with it where it is told.
-- First the count of the name, before and now, then that of all.
abbrev pub FailedAt : Option ℕ → Option ℕ → ℕ → ℕ → Type 0
FailedAt (Some a) (Some b) before now = Rose a b × Rose before now
FailedAt (Some a) None before now = ⊥
FailedAt None of_now before now = Rose before now

-- A call on one name has raised a count: that of the name where it is told, and else that of all.
-- Where the count stands at its end nothing has.
abbrev pub GrewAt : Option ℕ → Option ℕ → ℕ → ℕ → Type 0
GrewAt (Some a) (Some b) before now = a < b
GrewAt (Some a) None before now = ⊥
GrewAt None of_now before now = before < now

-- every count is as it was: that of all faults, and that of each name
pub record NoneRose (before now : ℕ) (of_before of_now : List ℕ → Option ℕ) : Type 0 where
  pub all : now ≡ before
  pub each : (name : List ℕ) → of_now name ≡ of_before name

-- what was told is told, and no less
abbrev pub NotBelow : Option ℕ → Option ℕ → Type 0
NotBelow (Some a) (Some b) = a ≤ b
NotBelow (Some a) None = ⊥
NotBelow None (Some b) = ⊥
NotBelow None None = Unit {0}

-- no count fell
pub record NoneFell (before now : ℕ) (of_before of_now : List ℕ → Option ℕ) : Type 0 where
  pub all : before ≤ now
  pub each : (name : List ℕ) → NotBelow (of_before name) (of_now name)
