-- The verbs by their names: those that are built, those that are not built yet, and those that are left out.
use Rattle.std.specs.Prelude.{ℕ, List, [], ◌∷◌, codes, Option, Some, None, find}
use Rattle.std.specs.Str.{bytes_eq}
use Rattle.verb_arguments.specs.declared.names.VerbName.{VerbName}
use Rattle.verb_arguments.specs.declared.names.VerbName.TheVariants as verb
use Rattle.verb_arguments.specs.declared.names.Known.{Known}
use Rattle.verb_arguments.specs.declared.names.Known.TheVariants.{Built, Later, LeftOut, Unknown}

abbrev pub verb_name : VerbName → List ℕ
verb_name verb.Filter = codes "filter"
verb_name verb.Mutate = codes "mutate"
verb_name verb.Select = codes "select"
verb_name verb.Rename = codes "rename"
verb_name verb.Relocate = codes "relocate"
verb_name verb.GroupBy = codes "group_by"
verb_name verb.Ungroup = codes "ungroup"
verb_name verb.DropNa = codes "drop_na"
verb_name verb.ReplaceNa = codes "replace_na"

abbrev pub verbs : List VerbName
verbs = verb.Filter ∷ verb.Mutate ∷ verb.Select ∷ verb.Rename ∷ verb.Relocate ∷ verb.GroupBy ∷ verb.Ungroup ∷ verb.DropNa ∷ verb.ReplaceNa ∷ []

abbrev pub later_verbs : List (List ℕ)
later_verbs =
    codes "arrange" ∷ codes "summarise" ∷ codes "summarize" ∷ codes "count" ∷ codes "distinct" ∷ codes "head" ∷ codes "slice" ∷ codes "slice_head" ∷ codes "slice_tail" ∷ codes "slice_min" ∷ codes "slice_max" ∷ codes "inner_join" ∷ codes "left_join" ∷ codes "right_join" ∷ codes "full_join" ∷ codes "semi_join" ∷ codes "anti_join" ∷ codes "pivot_longer" ∷ codes "pivot_wider" ∷ codes "fill" ∷ []

abbrev pub left_out_verbs : List (List ℕ)
left_out_verbs =
    codes "across" ∷ codes "rowwise" ∷ codes "reframe" ∷ codes "nest" ∷ codes "unnest" ∷ codes "separate" ∷ codes "unite" ∷ codes "transmute" ∷ codes "bind_rows" ∷ codes "bind_cols" ∷ codes "union" ∷ codes "intersect" ∷ codes "setdiff" ∷ codes "group_modify" ∷ codes "do" ∷ codes "pull" ∷ codes "tally" ∷ codes "add_count" ∷ codes "tail" ∷ codes "slice_sample" ∷ codes "cross_join" ∷ []

abbrev pub known_by : Option VerbName → Option (List ℕ) → Option (List ℕ) → Known
known_by (Some v) later left_out = Built v
known_by None (Some name) left_out = Later
known_by None None (Some name) = LeftOut
known_by None None None = Unknown

-- what a name stands for behind a pipe
abbrev pub known : List ℕ → Known
known name = known_by (find (λ v. bytes_eq name (verb_name v)) verbs) (find (bytes_eq name) later_verbs) (find (bytes_eq name) left_out_verbs)
