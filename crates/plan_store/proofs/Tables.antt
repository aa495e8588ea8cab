-- The tables of a plan's nodes, node by node.
use Rattle.std.specs.Prelude.{slice_get, unwrap_or, option_map}
use Rattle.std.specs.declared.alloc.Global.{Global}
use Rattle.std.specs.declared.sync.Arc.{Arc}
use Rattle.std.specs.Arc.{arc_value}
use Rattle.row_table.specs.Tables.{TableValue}
use Rattle.plan_store.specs.Told.{rows_of_tables}
use Rattle.std.proofs.Common.{Option, Some, None, ◌≤◌, arith, ◌≡◌, ℕ, zero, suc, ◌+◌, Bool, true, false, cond, List, [], ◌∷◌, drop, refl, sym, ap, ◌∙◌}
use Rattle.scalar_value.specs.declared.value.Value.{Value}
use Rattle.plan_machine.specs.Lists.{at_or}
use Rattle.plan_nodes.specs.declared.node.Node.{Node}
use Rattle.plan_nodes.specs.Kinds.{is_source}
use Rattle.plan_nodes.specs.Plans.{tables_of}
use Rattle.plan_store.specs.Openings.{next_table}

pub at_drop : {A : Type 0} (d : A) (k : ℕ) (xs : List A) → at_or d k xs ≡ at_or d 0 (drop k xs)
at_drop d zero [] = refl
at_drop d (suc k) [] = refl
at_drop d zero (x ∷ xs) = refl
at_drop d (suc k) (x ∷ xs) = at_drop d k xs

pub drop_one : {A : Type 0} (k : ℕ) (xs : List A) → drop (suc k) xs ≡ drop 1 (drop k xs)
drop_one zero [] = refl
drop_one (suc k) [] = refl
drop_one zero (x ∷ xs) = refl
drop_one (suc k) (x ∷ xs) = drop_one k xs

head_by : (b : Bool) (xs ys : List (List (List Value))) (t : List (List Value)) → at_or [] 0 (cond b (t ∷ xs) ([] ∷ ys)) ≡ cond b t []
head_by true xs ys t = refl
head_by false xs ys t = refl

next_by : (b : Bool) (t : List (List Value)) (ts : List (List (List Value))) → next_table b (t ∷ ts) ≡ cond b t []
next_by true t ts = refl
next_by false t ts = refl

next_nil : (b : Bool) → next_table b [] ≡ []
next_nil true = refl
next_nil false = refl

rest_by : (b : Bool) (vs : List Node) (t : List (List Value)) (ts : List (List (List Value)))
    → drop 1 (cond b (t ∷ tables_of vs ts) ([] ∷ tables_of vs (t ∷ ts))) ≡ tables_of vs (cond b ts (t ∷ ts))
rest_by true vs t ts = refl
rest_by false vs t ts = refl

same_nil : (b : Bool) (vs : List Node) → tables_of vs [] ≡ tables_of vs (cond b [] [])
same_nil true vs = refl
same_nil false vs = refl

pub tables_head : (v : Node) (vs : List Node) (ts : List (List (List Value))) → at_or [] 0 (tables_of (v ∷ vs) ts) ≡ next_table (is_source v.kind) ts
tables_head v vs [] = sym (next_nil (is_source v.kind))
tables_head v vs (t ∷ ts) = head_by (is_source v.kind) (tables_of vs ts) (tables_of vs (t ∷ ts)) t ∙ sym (next_by (is_source v.kind) t ts)

pub tables_rest : (v : Node) (vs : List Node) (ts : List (List (List Value))) → drop 1 (tables_of (v ∷ vs) ts) ≡ tables_of vs (cond (is_source v.kind) (drop 1 ts) ts)
tables_rest v vs [] = same_nil (is_source v.kind) vs
tables_rest v vs (t ∷ ts) = rest_by (is_source v.kind) vs t ts

-- the next table, where there is one, and where there is none
pub next_there : (k : ℕ) (xs : List (Arc TableValue Global)) (t : Arc TableValue Global) → slice_get xs k ≡ Some t → next_table true (drop k (rows_of_tables xs)) ≡ (arc_value t).rows
next_there zero [] t e = ap (λ (o : Option (Arc TableValue Global)). unwrap_or (option_map (λ (u : Arc TableValue Global). (arc_value u).rows) o) []) e
next_there (suc k) [] t e = ap (λ (o : Option (Arc TableValue Global)). unwrap_or (option_map (λ (u : Arc TableValue Global). (arc_value u).rows) o) []) e
next_there zero (x ∷ xs) t e = ap (λ (o : Option (Arc TableValue Global)). unwrap_or (option_map (λ (u : Arc TableValue Global). (arc_value u).rows) o) []) e
next_there (suc k) (x ∷ xs) t e = next_there k xs t e

pub next_past : (k : ℕ) (xs : List (Arc TableValue Global)) → slice_get xs k ≡ None → next_table true (drop k (rows_of_tables xs)) ≡ []
next_past zero [] e = refl
next_past (suc k) [] e = refl
next_past zero (x ∷ xs) e = ap (λ (o : Option (Arc TableValue Global)). unwrap_or (option_map (λ (u : Arc TableValue Global). (arc_value u).rows) o) []) e
next_past (suc k) (x ∷ xs) e = next_past k xs e

-- One node further: its table, and what is left of the tables for the nodes behind it.
pub table_here : (nodes : List Node) (ts : List (List (List Value))) (k taken : ℕ) (v : Node) (vs : List Node)
    → drop k nodes ≡ v ∷ vs → drop k (tables_of nodes ts) ≡ tables_of (drop k nodes) (drop taken ts)
    → at_or [] k (tables_of nodes ts) ≡ next_table (is_source v.kind) (drop taken ts)
table_here nodes ts k taken v vs there so_far =
    at_drop [] k (tables_of nodes ts) ∙ (ap (λ (xs : List (List (List Value))). at_or [] 0 xs) (so_far ∙ ap (λ ns. tables_of ns (drop taken ts)) there) ∙ tables_head v vs (drop taken ts))

taken_by : (b : Bool) (taken : ℕ) (ts : List (List (List Value))) → cond b (drop 1 (drop taken ts)) (drop taken ts) ≡ drop (cond b (suc taken) taken) ts
taken_by true taken ts = sym (drop_one taken ts)
taken_by false taken ts = refl

pub tables_next : (nodes : List Node) (ts : List (List (List Value))) (k taken : ℕ) (v : Node) (vs : List Node)
    → drop k nodes ≡ v ∷ vs → drop k (tables_of nodes ts) ≡ tables_of (drop k nodes) (drop taken ts)
    → drop (suc k) (tables_of nodes ts) ≡ tables_of (drop (suc k) nodes) (drop (cond (is_source v.kind) (suc taken) taken) ts)
tables_next nodes ts k taken v vs there so_far =
    drop_one k (tables_of nodes ts)
    ∙ (ap (λ (xs : List (List (List Value))). drop 1 xs) (so_far ∙ ap (λ ns. tables_of ns (drop taken ts)) there)
    ∙ (tables_rest v vs (drop taken ts)
    ∙ (ap (λ us. tables_of vs us) (taken_by (is_source v.kind) taken ts)
    ∙ ap (λ ns. tables_of ns (drop (cond (is_source v.kind) (suc taken) taken) ts)) (sym (drop_one k nodes ∙ ap (λ (ns : List Node). drop 1 ns) there)))))

pub taken_within : (b : Bool) (taken k : ℕ) → taken ≤ k → cond b (suc taken) taken ≤ k + 1
taken_within true taken k le = omega arith
taken_within false taken k le = omega arith
