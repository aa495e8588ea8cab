-- What the program of the bound is asked, and what it answers.
use Rattle.std.specs.Prelude.{◌≡◌, ℕ, ◌<◌, ◌≤◌, ◌^◌, List, length, Option, Some, None, Contains}
use Rattle.plan_nodes.specs.declared.node.Node.{Node}
use Rattle.plan_nodes.specs.Plans.{IsPlan, node_at}
use Rattle.plan_bounds.specs.Bounds.{Bound}

-- The nodes are sorted topologically: each input stands before its user.
abbrev pub AreSorted : List Node → Type 0
AreSorted nodes = (n e : ℕ) → 1 ≤ n → n ≤ length nodes → Contains (node_at nodes n).inputs e → e < n

-- as those of every well-formed plan are
abbrev pub PlansAreSorted : Type 0
PlansAreSorted = (nodes : List Node) → IsPlan nodes → AreSorted nodes

-- the number itself, or none exactly where it is 2^64 or more
abbrev pub IsIn64Bits : ℕ → Option ℕ → Type 0
IsIn64Bits n (Some m) = m ≡ n
IsIn64Bits n None = 2 ^ 64 ≤ n

-- a node's bound, or none only where its batches are 2^64 or more
abbrev pub IsBoundIn64Bits : Bound → Option Bound → Type 0
IsBoundIn64Bits bound (Some b) = b ≡ bound
IsBoundIn64Bits bound None = 2 ^ 64 ≤ bound.batches
