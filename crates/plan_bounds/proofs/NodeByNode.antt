-- The bounds of a plan's nodes, one after another.
use Rattle.std.proofs.Common.{◌≡◌, ℕ, zero, suc, ◌+◌, ◌-◌, ◌*◌, ◌^◌, ◌<◌, ◌≤◌, Bool, true, false, cond, Some, None, List, [], ◌∷◌, ◌++◌, length, drop, slice_index_or, ◌⊎◌, inl, inr, refl, sym, ap, subst, ◌∙◌, arith}
use Rattle.std.specs.Prelude.{slice_get, unwrap_or}
use Rattle.std.specs.List.{Contains}
use Rattle.std.proofs.lemmas.Bool.{cases_eq}
use Rattle.std.proofs.lemmas.List.{length-append}
use Rattle.scalar_value.specs.declared.value.Value.{Value}
use Rattle.plan_machine.specs.Lists.{at_or, sum_to}
use Rattle.plan_machine.specs.Phases.{part_count_of}
use Rattle.plan_nodes.specs.declared.node.Node.{Node}
use Rattle.plan_nodes.specs.declared.node.NodeKind.{NodeKind}
use Rattle.plan_nodes.specs.declared.node.NodeKind.TheVariants.{Source, Filter, Project, Longer, Aggregate, HashJoin, OrderBy, Fetch, Window, Sink}
use Rattle.plan_nodes.specs.Kinds.{is_source}
use Rattle.plan_nodes.specs.Plans.{node_at, no_node, input_at, tables_of}
use Rattle.plan_bounds.specs.Bounds.{Bound, nothing, of_table, of_kind, table_at, bound_within, batches_bound}
use Rattle.plan_bounds.specs.Computed.{AreSorted, PlansAreSorted}

pub plans-sorted : PlansAreSorted
plans-sorted nodes is n e low high there = let a = (is.placed n low high).inputs e there in a.1

-- ---- lists

at_drop : {A : Type 0} (d : A) (k : ℕ) (xs : List A) → at_or d k xs ≡ at_or d 0 (drop k xs)
at_drop d zero [] = refl
at_drop d (suc k) [] = refl
at_drop d zero (x ∷ xs) = refl
at_drop d (suc k) (x ∷ xs) = at_drop d k xs

drop_one : {A : Type 0} (k : ℕ) (xs : List A) → drop (suc k) xs ≡ drop 1 (drop k xs)
drop_one zero [] = refl
drop_one (suc k) [] = refl
drop_one zero (x ∷ xs) = refl
drop_one (suc k) (x ∷ xs) = drop_one k xs

at-before : {A : Type 0} (d : A) (k : ℕ) (xs : List A) (x : A) → k < length xs → at_or d k (xs ++ x ∷ []) ≡ at_or d k xs
at-before d k [] x lt = absurd (let no : ⊥ = omega arith in no)
at-before d zero (y ∷ xs) x lt = refl
at-before d (suc k) (y ∷ xs) x lt = at-before d k xs x (omega arith)

at-last : {A : Type 0} (d : A) (xs : List A) (x : A) → at_or d (length xs) (xs ++ x ∷ []) ≡ x
at-last d [] x = refl
at-last d (y ∷ xs) x = at-last d xs x

at_get : {A : Type 0} (d : A) (k : ℕ) (xs : List A) → at_or d k xs ≡ unwrap_or (slice_get xs k) d
at_get d k [] = refl
at_get d zero (x ∷ xs) = refl
at_get d (suc k) (x ∷ xs) = at_get d k xs

pub at_some : {A : Type 0} (d : A) (k : ℕ) (xs : List A) (x : A) → slice_get xs k ≡ Some x → at_or d k xs ≡ x
at_some d k xs x e = at_get d k xs ∙ ap (λ o. unwrap_or o d) e

pub at_none : {A : Type 0} (d : A) (k : ℕ) (xs : List A) → slice_get xs k ≡ None → at_or d k xs ≡ d
at_none d k xs e = at_get d k xs ∙ ap (λ o. unwrap_or o d) e

pub at_index : {A : Type 0} (d : A) (k : ℕ) (xs : List A) → at_or d k xs ≡ slice_index_or xs k d
at_index d zero [] = refl
at_index d (suc k) [] = refl
at_index d zero (x ∷ xs) = refl
at_index d (suc k) (x ∷ xs) = at_index d k xs

-- ---- sums

sum-grows : (d n : ℕ) (f : ℕ → ℕ) → sum_to n f ≤ sum_to (d + n) f
sum-grows zero n f = let e : 0 + n ≡ n = omega arith in rw e (omega arith)
sum-grows (suc d) n f = let e : suc d + n ≡ suc (d + n) = omega arith in let a = sum-grows d n f in rw e (omega arith)

pub sum-more : (n m : ℕ) (f : ℕ → ℕ) → n ≤ m → sum_to n f ≤ sum_to m f
sum-more n m f low = let e : (m - n) + n ≡ m = omega arith in subst (λ (k : ℕ). sum_to n f ≤ sum_to k f) e (sum-grows (m - n) n f)

-- ---- the tables of the sources

head_by : (b : Bool) (xs ys : List (List (List Value))) (t : List (List Value)) → b ≡ true → at_or [] 0 (cond b (t ∷ xs) ([] ∷ ys)) ≡ t
head_by true xs ys t is = refl
head_by false xs ys t is = cc

tables_head : (v : Node) (vs : List Node) (ts : List (List (List Value))) → is_source v.kind ≡ true → at_or [] 0 (tables_of (v ∷ vs) ts) ≡ at_or [] 0 ts
tables_head v vs [] is = refl
tables_head v vs (t ∷ ts) is = head_by (is_source v.kind) (tables_of vs ts) (tables_of vs (t ∷ ts)) t is

rest_by : (b : Bool) (vs : List Node) (t : List (List Value)) (ts : List (List (List Value)))
    → drop 1 (cond b (t ∷ tables_of vs ts) ([] ∷ tables_of vs (t ∷ ts))) ≡ tables_of vs (cond b ts (t ∷ ts))
rest_by true vs t ts = refl
rest_by false vs t ts = refl

same_nil : (b : Bool) (vs : List Node) → tables_of vs [] ≡ tables_of vs (cond b [] [])
same_nil true vs = refl
same_nil false vs = refl

tables_rest : (v : Node) (vs : List Node) (ts : List (List (List Value))) → drop 1 (tables_of (v ∷ vs) ts) ≡ tables_of vs (cond (is_source v.kind) (drop 1 ts) ts)
tables_rest v vs [] = same_nil (is_source v.kind) vs
tables_rest v vs (t ∷ ts) = rest_by (is_source v.kind) vs t ts

taken_by : (b : Bool) (taken : ℕ) (ts : List (List (List Value))) → cond b (drop 1 (drop taken ts)) (drop taken ts) ≡ drop (cond b (suc taken) taken) ts
taken_by true taken ts = sym (drop_one taken ts)
taken_by false taken ts = refl

table_here : (nodes : List Node) (ts : List (List (List Value))) (k taken : ℕ) (v : Node) (vs : List Node)
    → drop k nodes ≡ v ∷ vs → drop k (tables_of nodes ts) ≡ tables_of (drop k nodes) (drop taken ts) → is_source v.kind ≡ true
    → at_or [] k (tables_of nodes ts) ≡ at_or [] taken ts
table_here nodes ts k taken v vs there so_far is =
    at_drop [] k (tables_of nodes ts)
    ∙ (ap (λ (xs : List (List (List Value))). at_or [] 0 xs) (so_far ∙ ap (λ ns. tables_of ns (drop taken ts)) there)
    ∙ (tables_head v vs (drop taken ts) is ∙ sym (at_drop [] taken ts)))

tables_next : (nodes : List Node) (ts : List (List (List Value))) (k taken : ℕ) (v : Node) (vs : List Node)
    → drop k nodes ≡ v ∷ vs → drop k (tables_of nodes ts) ≡ tables_of (drop k nodes) (drop taken ts)
    → drop (suc k) (tables_of nodes ts) ≡ tables_of (drop (suc k) nodes) (drop (cond (is_source v.kind) (suc taken) taken) ts)
tables_next nodes ts k taken v vs there so_far =
    drop_one k (tables_of nodes ts)
    ∙ (ap (λ (xs : List (List (List Value))). drop 1 xs) (so_far ∙ ap (λ ns. tables_of ns (drop taken ts)) there)
    ∙ (tables_rest v vs (drop taken ts)
    ∙ (ap (λ us. tables_of vs us) (taken_by (is_source v.kind) taken ts)
    ∙ ap (λ ns. tables_of ns (drop (cond (is_source v.kind) (suc taken) taken) ts)) (sym (drop_one k nodes ∙ ap (λ (ns : List Node). drop 1 ns) there)))))

taken_within : (b : Bool) (taken k : ℕ) → taken ≤ k → cond b (suc taken) taken ≤ suc k
taken_within true taken k le = omega arith
taken_within false taken k le = omega arith

-- ---- a node by its inputs

abbrev made_of : ℕ → ℕ → Bound
made_of rows count = record { rows = rows; batches = count }

pub table-bound : (batch rows count : ℕ) (table : List (List Value)) → rows ≡ length table → count ≡ part_count_of rows batch → made_of rows count ≡ of_table batch table
table-bound batch rows count table e p =
    ap (λ (n : ℕ). made_of rows n) p ∙ ap (λ (n : ℕ). made_of n (part_count_of n batch)) e

-- an input stands before its user, and so does the 0 where there is none
first-before : (es : List ℕ) (n : ℕ) → 1 ≤ n → ((e : ℕ) → Contains es e → e < n) → input_at es 0 < n
first-before [] n low h = omega arith
first-before (a ∷ es) n low h = h a (0, omega arith, refl)

second-before : (es : List ℕ) (n : ℕ) → 1 ≤ n → ((e : ℕ) → Contains es e → e < n) → input_at es 1 < n
second-before [] n low h = omega arith
second-before (a ∷ []) n low h = omega arith
second-before (a ∷ b ∷ es) n low h = h b (1, omega arith, refl)

-- only a source has a table
by-table : (kind : NodeKind) (t u x y : Bound) → (is_source kind ≡ true → t ≡ u) → of_kind kind t x y ≡ of_kind kind u x y
by-table (Source name) t u x y h = h refl
by-table (Filter e) t u x y h = refl
by-table (Project es) t u x y h = refl
by-table (Longer s) t u x y h = refl
by-table (Aggregate s) t u x y h = refl
by-table (HashJoin j) t u x y h = refl
by-table (OrderBy ks) t u x y h = refl
by-table (Fetch offset count) t u x y h = refl
by-table (Window s) t u x y h = refl
by-table Sink t u x y h = refl

module _ (nodes : List Node) (tables : List (List (List Value))) (batch : ℕ) where
  abbrev bound : ℕ → ℕ → Bound
  bound = bound_within nodes tables batch

  abbrev entries_at : ℕ → ℕ
  entries_at n = 10 * batches_bound nodes tables batch n + 8

  -- no node has the number 0
  none : (k : ℕ) → bound k 0 ≡ nothing
  unfolding bound_within
  none zero = refl
  none (suc k) = refl

  -- n nodes on the way to node n are enough
  same : AreSorted nodes → (k j n : ℕ) → n ≤ k → n ≤ j → n ≤ length nodes → bound k n ≡ bound j n
  unfolding bound_within
  same is k j zero a b c = none k ∙ sym (none j)
  same is zero j (suc n) a b c = absurd (let no : ⊥ = omega arith in no)
  same is (suc k) zero (suc n) a b c = absurd (let no : ⊥ = omega arith in no)
  same is (suc k) (suc j) (suc n) a b c =
      let v = node_at nodes (suc n) in
      let t = of_table batch (table_at nodes tables batch (suc n)) in
      let p : input_at v.inputs 0 < suc n = first-before v.inputs (suc n) (omega arith) (λ e h. is (suc n) e (omega arith) c h) in
      let q : input_at v.inputs 1 < suc n = second-before v.inputs (suc n) (omega arith) (λ e h. is (suc n) e (omega arith) c h) in
      let x = same is k j (input_at v.inputs 0) (omega arith) (omega arith) (omega arith) in
      let y = same is k j (input_at v.inputs 1) (omega arith) (omega arith) (omega arith) in
      ap (λ (z : Bound). of_kind v.kind t z (bound k (input_at v.inputs 1))) x ∙ ap (λ (z : Bound). of_kind v.kind t (bound j (input_at v.inputs 0)) z) y

  -- what the loop knows behind k nodes
  pub record IsSoFar (k taken entries : ℕ) (bounds : List Bound) : Type 0 where
    pub size : length bounds ≡ suc k
    pub known : (e : ℕ) → e ≤ k → at_or nothing e bounds ≡ bound e e
    pub few : taken ≤ k
    pub left : drop k (tables_of nodes tables) ≡ tables_of (drop k nodes) (drop taken tables)
    pub sum : entries ≡ sum_to k entries_at

  pub begun : IsSoFar 0 0 0 (nothing ∷ [])
  begun = record {
    size = refl;
    known = λ e low. let z : e ≡ 0 = omega arith in subst (λ (n : ℕ). at_or nothing n (nothing ∷ []) ≡ bound n n) (sym z) (sym (none 0));
    few = omega arith;
    left = refl;
    sum = refl;
  }

  -- the bound of the next node, by what is known
  pub next-bound : AreSorted nodes → (k taken entries : ℕ) (bounds : List Bound) (v : Node) → k < length nodes → drop k nodes ≡ v ∷ drop (suc k) nodes → IsSoFar k taken entries bounds
      → (table : Bound) (all : List Bound) → table ≡ of_table batch (at_or [] taken tables) → all ≡ bounds
      → of_kind v.kind table (at_or nothing (input_at v.inputs 0) all) (at_or nothing (input_at v.inputs 1) all) ≡ bound (suc k) (suc k)
  unfolding bound_within
  next-bound is k taken entries bounds v lt there h table all table_is all_is =
      let here : node_at nodes (suc k) ≡ v = at_drop no_node k nodes ∙ ap (λ (ns : List Node). at_or no_node 0 ns) there in
      let before : (e : ℕ) → Contains v.inputs e → e < suc k = λ e c. is (suc k) e (omega arith) (omega arith) (subst (λ (u : Node). Contains u.inputs e) (sym here) c) in
      let p : input_at v.inputs 0 < suc k = first-before v.inputs (suc k) (omega arith) before in
      let q : input_at v.inputs 1 < suc k = second-before v.inputs (suc k) (omega arith) before in
      let x : at_or nothing (input_at v.inputs 0) all ≡ bound k (input_at v.inputs 0) =
      ap (λ (xs : List Bound). at_or nothing (input_at v.inputs 0) xs) all_is ∙ (h.known (input_at v.inputs 0) (omega arith) ∙ same is (input_at v.inputs 0) k (input_at v.inputs 0) (omega arith) (omega arith) (omega arith)) in
      let y : at_or nothing (input_at v.inputs 1) all ≡ bound k (input_at v.inputs 1) =
      ap (λ (xs : List Bound). at_or nothing (input_at v.inputs 1) xs) all_is ∙ (h.known (input_at v.inputs 1) (omega arith) ∙ same is (input_at v.inputs 1) k (input_at v.inputs 1) (omega arith) (omega arith) (omega arith)) in
      let own = of_table batch (table_at nodes tables batch (suc k)) in
      let t : is_source v.kind ≡ true → table ≡ own =
      λ s. table_is ∙ ap (of_table batch) (sym (ap (λ j. at_or [] j (tables_of nodes tables)) (let j : suc k - 1 ≡ k = omega arith in j) ∙ table_here nodes tables k taken v (drop (suc k) nodes) there h.left s)) in
      by-table v.kind table own (at_or nothing (input_at v.inputs 0) all) (at_or nothing (input_at v.inputs 1) all) t
      ∙ (ap (λ (z : Bound). of_kind v.kind own z (at_or nothing (input_at v.inputs 1) all)) x
      ∙ (ap (λ (z : Bound). of_kind v.kind own (bound k (input_at v.inputs 0)) z) y
      ∙ ap (λ (u : Node). of_kind u.kind own (bound k (input_at u.inputs 0)) (bound k (input_at u.inputs 1))) (sym here)))

  -- one node more
  pub one-more : (k taken entries : ℕ) (bounds : List Bound) (v : Node) (b : Bound) (more : ℕ) → drop k nodes ≡ v ∷ drop (suc k) nodes → IsSoFar k taken entries bounds
      → b ≡ bound (suc k) (suc k) → more ≡ entries + (10 * b.batches + 8) → IsSoFar (suc k) (cond (is_source v.kind) (suc taken) taken) more (bounds ++ b ∷ [])
  one-more k taken entries bounds v b more there h made counted = record {
    size = let a = length-append bounds (b ∷ []) in let s = h.size in omega arith;
    known = λ e low. by e low (cases_eq e (suc k));
    few = taken_within (is_source v.kind) taken k h.few;
    left = tables_next nodes tables k taken v (drop (suc k) nodes) there h.left;
    sum = let s = h.sum in let e = ap (λ (u : Bound). u.batches) made in omega arith;
  }
    where
      by : (e : ℕ) → e ≤ suc k → (e ≡ suc k) ⊎ (e ≡ suc k → ⊥) → at_or nothing e (bounds ++ b ∷ []) ≡ bound e e
      by e low (inl same) =
          subst (λ (n : ℕ). at_or nothing n (bounds ++ b ∷ []) ≡ bound n n) (sym same)
          (ap (λ (n : ℕ). at_or nothing n (bounds ++ b ∷ [])) (sym h.size) ∙ (at-last nothing bounds b ∙ made))
      by e low (inr other) = let s = h.size in let lt : e < suc k = omega arith in at-before nothing e bounds b (omega arith) ∙ h.known e (omega arith)

  -- where a node's batches, or the sum as far as a node, pass 64 bits, the whole sum does
  sum-passes : (k : ℕ) → k < length nodes → 2 ^ 64 ≤ sum_to (suc k) entries_at → 2 ^ 64 ≤ sum_to (length nodes) entries_at
  sum-passes k lt high = let a = sum-more (suc k) (length nodes) entries_at (omega arith) in omega arith

  pub sums-pass : (k entries : ℕ) (b : Bound) → k < length nodes → entries ≡ sum_to k entries_at → b ≡ bound (suc k) (suc k) → 2 ^ 64 ≤ entries + (10 * b.batches + 8) → 2 ^ 64 ≤ sum_to (length nodes) entries_at
  sums-pass k entries b lt sum made high = let e = ap (λ (u : Bound). u.batches) made in sum-passes k lt (omega arith)

  pub bound-passes : (k : ℕ) → k < length nodes → 2 ^ 64 ≤ (bound (suc k) (suc k)).batches → 2 ^ 64 ≤ sum_to (length nodes) entries_at
  bound-passes k lt high = sum-passes k lt (omega arith)
