-- The grouping columns of a table after a verb. A group is the name of its column.
use Rattle.std.specs.Prelude.{ℕ, ◌-◌, Bool, true, ◌&&◌, not, if◌then◌else◌, List, [], ◌∷◌, length, take, map, filter, Result, Ok, Err}
use Rattle.std.specs.Str.{bytes_eq}
use Rattle.row_table.specs.Tables.{among_texts}
use Rattle.group_rules.specs.declared.groups.Dropping.{Dropping}
use Rattle.group_rules.specs.declared.groups.Dropping.TheVariants.{DropLast, Drop, Keep}
use Rattle.group_rules.specs.declared.groups.GroupFault.{GroupFault}
use Rattle.group_rules.specs.declared.groups.GroupFault.TheVariants.{ByOnGroups}

-- a summary leaves all groups but the last, or none, or all
abbrev pub summarised_groups : Dropping → List (List ℕ) → List (List ℕ)
summarised_groups DropLast groups = take (length groups - 1) groups
summarised_groups Drop groups = []
summarised_groups Keep groups = groups

-- a group of the old name has the new name
abbrev pub renamed_groups : List ℕ → List ℕ → List (List ℕ) → List (List ℕ)
renamed_groups old new groups = map (λ group. if bytes_eq group old then new else group) groups

-- the new name of a column among pairs of an old and a new name; one that is in no pair keeps its name
abbrev pub new_name : List (List ℕ × List ℕ) → List ℕ → List ℕ
new_name [] name = name
new_name (pair ∷ pairs) name = if bytes_eq pair.0 name then pair.1 else new_name pairs name

-- a selection keeps every group, under its new name
abbrev pub selected_groups : List (List ℕ × List ℕ) → List (List ℕ) → List (List ℕ)
selected_groups kept groups = map (new_name kept) groups

-- each name once, where it first stands
abbrev pub each_once : List (List ℕ) → List (List ℕ)
each_once [] = []
each_once (name ∷ names) = name ∷ filter (λ other. not (bytes_eq name other)) (each_once names)

-- `.by` groups a table that has no groups
abbrev pub groups_by : List (List ℕ) → List (List ℕ) → Result (List (List ℕ)) GroupFault
groups_by [] by = Ok (each_once by)
groups_by (group ∷ groups) by = Err ByOnGroups

-- whether no two names are equal
abbrev pub are_distinct : List (List ℕ) → Bool
are_distinct [] = true
are_distinct (name ∷ names) = not (among_texts name names) && are_distinct names
