-- What holds of names that are each taken once, and of groups after a summary.
use Rattle.std.specs.Prelude.{◌≡◌, ℕ, List, IsTrue}
use Rattle.row_table.specs.Tables.{among_texts}
use Rattle.group_rules.specs.declared.groups.Dropping.{Dropping}
use Rattle.group_rules.specs.Groups.{each_once, are_distinct, summarised_groups}

abbrev pub OnceDistinct : Type 0
OnceDistinct = (names : List (List ℕ)) → IsTrue (are_distinct (each_once names))

-- no name is lost and none is new
abbrev pub OnceAmong : Type 0
OnceAmong = (name : List ℕ) (names : List (List ℕ)) → among_texts name (each_once names) ≡ among_texts name names

abbrev pub OnceItself : Type 0
OnceItself = (names : List (List ℕ)) → IsTrue (are_distinct names) → each_once names ≡ names

abbrev pub SummarisedDistinct : Type 0
SummarisedDistinct = (how : Dropping) (groups : List (List ℕ)) → IsTrue (are_distinct groups) → IsTrue (are_distinct (summarised_groups how groups))
