-- Of rows that stand equally often a verb gives rows that stand equally often.
use Rattle.std.proofs.Common.{◌≡◌, ℕ, ◌+◌, Bool, true, false, cond, List, [], ◌∷◌, map, filter, sum_by, refl, sym, ◌∙◌, ap, subst, arith}
use Rattle.std.proofs.lemmas.List.Sums.{sum_by-cons}
use Rattle.scalar_value.specs.declared.value.Value.{Value}
use Rattle.row_table.specs.declared.field.Field.{Field}
use Rattle.row_table.specs.declared.table.Mark.{Mark}
use Rattle.row_table.specs.declared.table.Mark.TheVariants.{Kept, Unordered}
use Rattle.row_table.specs.Tables.{TableValue}
use Rattle.row_table.specs.SameTables.{row_same, IsAsOften, SameRows, SameTables}
use Rattle.row_table.proofs.Rows.{sum_by-as_often}
use Rattle.verb_forms.specs.declared.part.Part.{Part}
use Rattle.verb_forms.specs.declared.verb.Verb.{Verb}
use Rattle.verb_forms.specs.declared.verb.Verb.TheVariants.{Filter, Mutate, Select, Rename, Relocate, GroupBy, Ungroup, DropNa, ReplaceNa}
use Rattle.verb_forms.specs.Shapes.{ShapeValue, shape_of}
use Rattle.verb_forms.specs.After.{with_part, after}
use Rattle.verb_meaning.specs.Rows.{passes, with_value, with_values, picked, is_whole, with_cells, rows_after}
use Rattle.verb_meaning.specs.Meaning.{meaning}

sum_by-map : {X Y : Type 0} (weight : Y → ℕ) (f : X → Y) (xs : List X) → sum_by weight (map f xs) ≡ sum_by (λ x. weight (f x)) xs
sum_by-map weight f [] = refl
sum_by-map weight f (x ∷ xs) =
    sum_by-cons weight (f x) (map f xs) ∙ ap (λ n. weight (f x) + n) (sum_by-map weight f xs) ∙ sym (sum_by-cons (λ x. weight (f x)) x xs)

sum_by-filter : {X : Type 0} (weight : X → ℕ) (p : X → Bool) (xs : List X) → sum_by weight (filter p xs) ≡ sum_by (λ x. cond (p x) (weight x) 0) xs
sum_by-filter weight p [] = refl
sum_by-filter weight p (x ∷ xs) =
    let rest : sum_by weight (filter p xs) ≡ sum_by (λ x. cond (p x) (weight x) 0) xs = sum_by-filter weight p xs in
    let first : sum_by weight (cond (p x) (x ∷ filter p xs) (filter p xs)) ≡ cond (p x) (weight x) 0 + sum_by weight (filter p xs) =
    elim (p x) as (λ b. sum_by weight (cond b (x ∷ filter p xs) (filter p xs)) ≡ cond b (weight x) 0 + sum_by weight (filter p xs)) [
      | true ↦ sum_by-cons weight x (filter p xs)
      | false ↦ omega arith
    ] in
    first ∙ ap (λ n. cond (p x) (weight x) 0 + n) rest ∙ sym (sum_by-cons (λ x. cond (p x) (weight x) 0) x xs)

mapped : (f : List Value → List Value) (xs ys : List (List Value)) → IsAsOften xs ys → IsAsOften (map f xs) (map f ys)
mapped f xs ys same row =
    sum_by-map (λ other. cond (row_same row other) 1 0) f xs
    ∙ sum_by-as_often (λ other. cond (row_same row (f other)) 1 0) xs ys same
    ∙ sym (sum_by-map (λ other. cond (row_same row other) 1 0) f ys)

kept : (p : List Value → Bool) (xs ys : List (List Value)) → IsAsOften xs ys → IsAsOften (filter p xs) (filter p ys)
kept p xs ys same row =
    sum_by-filter (λ other. cond (row_same row other) 1 0) p xs
    ∙ sum_by-as_often (λ other. cond (p other) (cond (row_same row other) 1 0) 0) xs ys same
    ∙ sym (sum_by-filter (λ other. cond (row_same row other) 1 0) p ys)

mutated : (schema : List Field) (values : List (List ℕ × Part)) (xs ys : List (List Value)) → IsAsOften xs ys → IsAsOften (with_values schema values xs) (with_values schema values ys)
mutated schema [] xs ys same = same
mutated schema (value ∷ values) xs ys same =
    mutated (with_part schema value) values (map (with_value schema value) xs) (map (with_value schema value) ys) (mapped (with_value schema value) xs ys same)

as_often-after : (v : Verb) (schema : List Field) (xs ys : List (List Value)) → IsAsOften xs ys → IsAsOften (rows_after v schema xs) (rows_after v schema ys)
as_often-after (Filter by conditions) schema xs ys same = kept (passes conditions) xs ys same
as_often-after (Mutate by values) schema xs ys same = mutated schema values xs ys same
as_often-after (Select chosen) schema xs ys same = mapped (picked chosen) xs ys same
as_often-after (Rename chosen) schema xs ys same = mapped (picked chosen) xs ys same
as_often-after (Relocate chosen) schema xs ys same = mapped (picked chosen) xs ys same
as_often-after (GroupBy columns) schema xs ys same = same
as_often-after Ungroup schema xs ys same = same
as_often-after (DropNa columns) schema xs ys same = kept (is_whole columns) xs ys same
as_often-after (ReplaceNa cells) schema xs ys same = mapped (with_cells cells) xs ys same
as_often-after v schema xs ys same = same

same_rows-after : (mark : Mark) (v : Verb) (schema : List Field) (xs ys : List (List Value)) → SameRows mark xs ys → SameRows mark (rows_after v schema xs) (rows_after v schema ys)
same_rows-after Kept v schema xs ys same = ap (rows_after v schema) same
same_rows-after Unordered v schema xs ys same = as_often-after v schema xs ys same

mark-after : (v : Verb) (x : ShapeValue) → x.mark ≡ (after v x).mark
mark-after (Filter by conditions) x = refl
mark-after (Mutate by values) x = refl
mark-after (Select chosen) x = refl
mark-after (Rename chosen) x = refl
mark-after (Relocate chosen) x = refl
mark-after (GroupBy columns) x = refl
mark-after Ungroup x = refl
mark-after (DropNa columns) x = refl
mark-after (ReplaceNa cells) x = refl
mark-after v x = refl

pub same_meaning : (v : Verb) (x y : TableValue) → SameTables x y → SameTables (meaning v x) (meaning v y)
same_meaning v x y same =
    let shapes : shape_of x ≡ shape_of y = λ i. record { schema = same.schema i; groups = same.groups i; mark = same.mark i } in
    let rows : SameRows x.mark (rows_after v x.schema x.rows) (rows_after v x.schema y.rows) = same_rows-after x.mark v x.schema x.rows y.rows same.rows in
    let marked : SameRows (after v (shape_of x)).mark (rows_after v x.schema x.rows) (rows_after v x.schema y.rows) =
    subst (λ mark. SameRows mark (rows_after v x.schema x.rows) (rows_after v x.schema y.rows)) (mark-after v (shape_of x)) rows in
    record {
      schema = ap (λ s. (after v s).schema) shapes;
      groups = ap (λ s. (after v s).groups) shapes;
      mark = ap (λ s. (after v s).mark) shapes;
      rows = subst (λ schema. SameRows (after v (shape_of x)).mark (rows_after v x.schema x.rows) (rows_after v schema y.rows)) same.schema marked;
    }
