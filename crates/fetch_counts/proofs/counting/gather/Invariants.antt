use Rattle.std.proofs.Common.{◌≡◌, ◌≤◌, ◌∷◌, ℕ, List, length, vec_capacity}
use Rattle.fetch_counts.specs.Counts.{AreOfAll, AreBehind, AreApart}
use Rattle.fetch_counts.proofs.counting.gather.Given as goal

abbrev pub invariant-loop-place : goal.invariant-loop-place
invariant-loop-place l = record {
  counts : (all : List (ℕ × ℕ)) → AreOfAll (l.fn.run ∷ l.fn.behind.items) all → AreOfAll (l.run ∷ l.behind.items) all;
  behind : (upto : ℕ) → AreBehind upto l.fn.behind.items → AreBehind upto l.behind.items;
  others : AreApart l.fn.behind.items → AreApart l.behind.items;
  length : length l.behind.items ≤ length l.fn.behind.items;
  capacity : vec_capacity l.behind ≡ vec_capacity l.fn.behind;
}

abbrev pub decreases-loop-place : goal.decreases-loop-place
decreases-loop-place l = length l.behind.items
