-- Words of the proofs; no clause of a public function cites them.
use Rattle.std.specs.Prelude.{ℕ, Bool, true, not, ◌&&◌, if◌then◌else◌, codes, Option, Some, None, List, [], ◌∷◌}
use Rattle.syntax_tree.specs.declared.tree.Term.{Term}
use Rattle.syntax_tree.specs.declared.tree.Arg.{Arg}
use Rattle.verb_arguments.specs.declared.forms.OptionForm.{OptionForm}
use Rattle.verb_arguments.specs.declared.forms.OptionForm.TheVariants as form
use Rattle.verb_arguments.specs.declared.names.LaterVerb.{LaterVerb}
use Rattle.verb_arguments.specs.declared.names.LaterVerb.TheVariants as later
use Rattle.verb_arguments.specs.declared.names.LeftOutVerb.{LeftOutVerb}
use Rattle.verb_arguments.specs.declared.names.LeftOutVerb.TheVariants as left_out
use Rattle.verb_arguments.specs.Arguments.{value_of, is_named, is_names}
use Rattle.verb_arguments.specs.Forms.{is_truth, is_anchor}

-- ---- the form of an option

abbrev pub option_form : OptionForm → Term → Bool
option_form form.Names t = is_names t
option_form form.Truth t = is_truth t

-- the option so far: whether it stood already
abbrev pub option_left : Bool → List ℕ → (Term → Bool) → List Arg → Bool
option_left had name test [] = true
option_left had name test (a ∷ args) = if is_named name a then not had && (test (value_of a) && option_left true name test args) else option_left had name test args

-- at most one anchor, where one stood already
abbrev pub anchors_left : Bool → List Arg → Bool
anchors_left had [] = true
anchors_left had (a ∷ args) = if is_anchor a then not had && anchors_left true args else anchors_left had args

-- ---- the verbs that are not built yet, and those that are left out

abbrev pub later_name : LaterVerb → List ℕ
later_name later.Arrange = codes "arrange"
later_name later.Summarise = codes "summarise"
later_name later.Summarize = codes "summarize"
later_name later.Count = codes "count"
later_name later.Distinct = codes "distinct"
later_name later.Head = codes "head"
later_name later.Slice = codes "slice"
later_name later.SliceHead = codes "slice_head"
later_name later.SliceTail = codes "slice_tail"
later_name later.SliceMin = codes "slice_min"
later_name later.SliceMax = codes "slice_max"
later_name later.InnerJoin = codes "inner_join"
later_name later.LeftJoin = codes "left_join"
later_name later.RightJoin = codes "right_join"
later_name later.FullJoin = codes "full_join"
later_name later.SemiJoin = codes "semi_join"
later_name later.AntiJoin = codes "anti_join"
later_name later.PivotLonger = codes "pivot_longer"
later_name later.PivotWider = codes "pivot_wider"
later_name later.Fill = codes "fill"

abbrev pub laters : List LaterVerb
laters = later.Arrange ∷ later.Summarise ∷ later.Summarize ∷ later.Count ∷ later.Distinct ∷ later.Head ∷ later.Slice ∷ later.SliceHead ∷ later.SliceTail ∷ later.SliceMin ∷ later.SliceMax ∷ later.InnerJoin ∷ later.LeftJoin ∷ later.RightJoin ∷ later.FullJoin ∷ later.SemiJoin ∷ later.AntiJoin ∷ later.PivotLonger ∷ later.PivotWider ∷ later.Fill ∷ []

abbrev pub left_out_name : LeftOutVerb → List ℕ
left_out_name left_out.Across = codes "across"
left_out_name left_out.Rowwise = codes "rowwise"
left_out_name left_out.Reframe = codes "reframe"
left_out_name left_out.Nest = codes "nest"
left_out_name left_out.Unnest = codes "unnest"
left_out_name left_out.Separate = codes "separate"
left_out_name left_out.Unite = codes "unite"
left_out_name left_out.Transmute = codes "transmute"
left_out_name left_out.BindRows = codes "bind_rows"
left_out_name left_out.BindCols = codes "bind_cols"
left_out_name left_out.Union = codes "union"
left_out_name left_out.Intersect = codes "intersect"
left_out_name left_out.Setdiff = codes "setdiff"
left_out_name left_out.GroupModify = codes "group_modify"
left_out_name left_out.Do = codes "do"
left_out_name left_out.Pull = codes "pull"
left_out_name left_out.Tally = codes "tally"
left_out_name left_out.AddCount = codes "add_count"
left_out_name left_out.Tail = codes "tail"
left_out_name left_out.SliceSample = codes "slice_sample"
left_out_name left_out.CrossJoin = codes "cross_join"

abbrev pub left_outs : List LeftOutVerb
left_outs = left_out.Across ∷ left_out.Rowwise ∷ left_out.Reframe ∷ left_out.Nest ∷ left_out.Unnest ∷ left_out.Separate ∷ left_out.Unite ∷ left_out.Transmute ∷ left_out.BindRows ∷ left_out.BindCols ∷ left_out.Union ∷ left_out.Intersect ∷ left_out.Setdiff ∷ left_out.GroupModify ∷ left_out.Do ∷ left_out.Pull ∷ left_out.Tally ∷ left_out.AddCount ∷ left_out.Tail ∷ left_out.SliceSample ∷ left_out.CrossJoin ∷ []

-- what is found, under its name
abbrev pub named : {X : Type 0} → (X → List ℕ) → Option X → Option (List ℕ)
named f (Some x) = Some (f x)
named f None = None
