use Rattle.std.proofs.Common.{◌≡◌, drop}
use Rattle.row_table.specs.Keys.{key_of, keys_match}
use Rattle.hash_join.proofs.matches.rows_match.Given as goal

-- the columns that are left decide
abbrev pub invariant-loop-k : goal.invariant-loop-k
invariant-loop-k l = keys_match l.spec.na_match (key_of l.left l.x) (key_of l.right l.y) ≡ keys_match l.spec.na_match (key_of (drop l.k l.left) l.x) (key_of (drop l.k l.right) l.y)
