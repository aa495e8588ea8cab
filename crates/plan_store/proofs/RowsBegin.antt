-- The rows of shares as a run begins, node by node.
use Rattle.std.proofs.Common.{◌≡◌, ℕ, suc, ◌-◌, ◌<◌, Bool, true, false, not, cond, List, [], ◌∷◌, length, drop, Option, None, slice_index_or, refl, sym, ap, subst, ◌∙◌, arith}
use Rattle.std.specs.declared.alloc.Global.{Global}
use Rattle.std.specs.declared.sync.Arc.{Arc}
use Rattle.std.specs.Arc.{arc_value}
use Rattle.scalar_value.specs.declared.value.Value.{Value}
use Rattle.scalar_value.specs.declared.value.ColType.{ColType}
use Rattle.row_table.specs.Tables.{TableValue}
use Rattle.plan_machine.specs.Batch.{Batch}
use Rattle.plan_machine.specs.Lists.{at_or}
use Rattle.plan_nodes.specs.declared.node.Node.{Node}
use Rattle.plan_nodes.specs.Kinds.{is_source}
use Rattle.plan_nodes.specs.Plans.{IsSourceTable, node_at, no_node, meaning_at, tables_of}
use Rattle.plan_nodes.specs.Operators.{OpMeaning, Each}
use Rattle.task_work.specs.declared.work.Share.{Share}
use Rattle.plan_store.specs.Told.{rows_of_tables}
use Rattle.plan_store.specs.Beginning.{numbers_of}
use Rattle.plan_store.specs.Openings.{next_table}
use Rattle.plan_store.specs.Shares.{IsTableShare, IsPartShare, RowOpens}
use Rattle.plan_store.proofs.At.{some_of}
use Rattle.plan_store.proofs.Tables.{at_drop, drop_one, tables_head, tables_rest}

pub each_next : {A : Type 0} (R : A → ℕ → Type 0) (b : Bool) (n : ℕ) (ns : List ℕ) (xs : List A) → Each R xs (cond b (n ∷ ns) ns) → Each R (cond b (drop 1 xs) xs) ns
each_next R true n ns [] e = absurd e
each_next R true n ns (x ∷ xs) e = e.1
each_next R false n ns xs e = e

pub each_there : {A : Type 0} (R : A → ℕ → Type 0) (b : Bool) (n : ℕ) (ns : List ℕ) (xs : List A) → Each R xs (cond b (n ∷ ns) ns) → b ≡ true → 0 < length xs
each_there R true n ns [] e is = absurd e
each_there R true n ns (x ∷ xs) e is = omega arith
each_there R false n ns xs e is = cc

pub each_here : {A : Type 0} (R : A → ℕ → Type 0) (b : Bool) (n : ℕ) (ns : List ℕ) (xs : List A) (d : A) → Each R xs (cond b (n ∷ ns) ns) → b ≡ true → R (slice_index_or xs 0 d) n
each_here R true n ns [] d e is = absurd e
each_here R true n ns (x ∷ xs) d e is = e.0
each_here R false n ns xs d e is = cc

pub not_false : (b : Bool) → not b ≡ true → b ≡ false
not_false true e = cc
not_false false e = refl

pub not_true_is : (b : Bool) → b ≡ false → not b ≡ true
not_true_is true e = cc
not_true_is false e = refl

-- the node of the next number
pub node_here : (nodes : List Node) (k : ℕ) (v : Node) (vs : List Node) → drop k nodes ≡ v ∷ vs → node_at nodes (suc k) ≡ v
node_here nodes k v vs there = at_drop no_node k nodes ∙ ap (λ (ns : List Node). at_or no_node 0 ns) there

-- the first table's rows, and the rows of the others
pub first_rows : (b : Bool) (xs : List (Arc TableValue Global)) (d : Arc TableValue Global) → b ≡ true → 0 < length xs → next_table b (rows_of_tables xs) ≡ (arc_value (slice_index_or xs 0 d)).rows
first_rows true [] d is lt = absurd (let no : ⊥ = omega arith in no)
first_rows true (x ∷ xs) d is lt = refl
first_rows false xs d is lt = cc

pub other_rows : (b : Bool) (xs : List (Arc TableValue Global)) → cond b (drop 1 (rows_of_tables xs)) (rows_of_tables xs) ≡ rows_of_tables (cond b (drop 1 xs) xs)
other_rows true [] = refl
other_rows true (x ∷ xs) = refl
other_rows false xs = refl

-- the table of the next node, and what is left of them
table_there : (nodes : List Node) (ts us : List (List (List Value))) (k : ℕ) (v : Node) (vs : List Node) → drop k nodes ≡ v ∷ vs
    → drop k (tables_of nodes ts) ≡ tables_of (drop k nodes) us → at_or [] k (tables_of nodes ts) ≡ next_table (is_source v.kind) us
table_there nodes ts us k v vs there so_far =
    at_drop [] k (tables_of nodes ts) ∙ (ap (λ (xs : List (List (List Value))). at_or [] 0 xs) (so_far ∙ ap (λ ns. tables_of ns us) there) ∙ tables_head v vs us)

pub tables_left : (nodes : List Node) (ts us : List (List (List Value))) (k : ℕ) (v : Node) (vs : List Node) → drop k nodes ≡ v ∷ vs
    → drop k (tables_of nodes ts) ≡ tables_of (drop k nodes) us → drop (suc k) (tables_of nodes ts) ≡ tables_of vs (cond (is_source v.kind) (drop 1 us) us)
tables_left nodes ts us k v vs there so_far =
    drop_one k (tables_of nodes ts) ∙ (ap (λ (xs : List (List (List Value))). drop 1 xs) (so_far ∙ ap (λ ns. tables_of ns us) there) ∙ tables_rest v vs us)

module _ {O S L : Type 0}
    (meaning : O → OpMeaning)
    (local_is : OpMeaning → List ColType → L → List (Batch (List Value)) → Type 0)
    (shared_is : OpMeaning → List (List ColType) → S → List (List Value) → List (Batch (List Value)) → Type 0)
  where
    pub row_opens : (nodes : List Node) (ts : List (List (List Value))) (batch workers k : ℕ) (v : Node) (vs : List Node) (xs : List (Arc TableValue Global)) (ys : List (Arc O Global)) (row : List (Option (Share O S L)))
        → drop k nodes ≡ v ∷ vs
        → drop k (tables_of nodes ts) ≡ tables_of (drop k nodes) (rows_of_tables xs)
        → Each (λ t n. IsSourceTable (node_at nodes n) (arc_value t)) xs (numbers_of true (suc k) (drop k nodes))
        → Each (λ op n. meaning (arc_value op) ≡ meaning_at nodes batch n) ys (numbers_of false (suc k) (drop k nodes))
        → length row ≡ workers
        → (is_source v.kind ≡ true → (d : Arc TableValue Global) (w : ℕ) → w < workers → IsTableShare meaning local_is shared_is (arc_value (slice_index_or xs 0 d)) (slice_index_or row w None))
        → (is_source v.kind ≡ false → (d : Arc O Global) (w : ℕ) → w < workers → IsPartShare meaning local_is shared_is (arc_value (slice_index_or ys 0 d)) (slice_index_or row w None))
        → RowOpens meaning local_is shared_is nodes ts batch workers (suc k) row
    row_opens nodes ts batch workers k v vs xs ys row there so_far tables ops size table_shares part_shares =
        let node : node_at nodes (suc k) ≡ v = node_here nodes k v vs there in
        let tables' = subst (λ ns. Each (λ t n. IsSourceTable (node_at nodes n) (arc_value t)) xs (numbers_of true (suc k) ns)) there tables in
        let ops' = subst (λ ns. Each (λ op n. meaning (arc_value op) ≡ meaning_at nodes batch n) ys (numbers_of false (suc k) ns)) there ops in
        record {
          size = size;
          source = λ e.
              let is : is_source v.kind ≡ true = ap (λ (u : Node). is_source u.kind) (sym node) ∙ e in
              let some = each_there (λ t n. IsSourceTable (node_at nodes n) (arc_value t)) (is_source v.kind) (suc k) (numbers_of true (suc (suc k)) vs) xs tables' is in
              let d = some_of 0 xs some in (
                arc_value (slice_index_or xs 0 d),
                each_here (λ t n. IsSourceTable (node_at nodes n) (arc_value t)) (is_source v.kind) (suc k) (numbers_of true (suc (suc k)) vs) xs d tables' is,
                sym (ap (λ j. at_or [] j (tables_of nodes ts)) (let j : suc k - 1 ≡ k = omega arith in j) ∙ (table_there nodes ts (rows_of_tables xs) k v vs there so_far ∙ first_rows (is_source v.kind) xs d is some)),
                table_shares is d,
              );
          other = λ e.
              let is : is_source v.kind ≡ false = ap (λ (u : Node). is_source u.kind) (sym node) ∙ e in
              let is' = not_true_is (is_source v.kind) is in
              let some = each_there (λ op n. meaning (arc_value op) ≡ meaning_at nodes batch n) (not (is_source v.kind)) (suc k) (numbers_of false (suc (suc k)) vs) ys ops' is' in
              let d = some_of 0 ys some in (
                arc_value (slice_index_or ys 0 d),
                each_here (λ op n. meaning (arc_value op) ≡ meaning_at nodes batch n) (not (is_source v.kind)) (suc k) (numbers_of false (suc (suc k)) vs) ys d ops' is',
                part_shares is d,
              );
        }
