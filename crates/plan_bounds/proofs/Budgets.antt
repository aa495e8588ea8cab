-- The bounds of a plan are a budget of it.
use Rattle.std.proofs.Common.{◌≡◌, ℕ, zero, suc, ◌+◌, ◌-◌, ◌<◌, ◌≤◌, true, false, cond, List, [], ◌∷◌, length, refl, arith, subst}
use Rattle.std.specs.List.{Contains}
use Rattle.scalar_value.specs.declared.value.Value.{Value}
use Rattle.plan_machine.specs.Plan.{Plan as MachinePlan, IsNode, IsEdge, IsSource, Folds, OnlyStreams, IsJoin}
use Rattle.plan_machine.specs.Meaning.{meaning_within}
use Rattle.plan_machine.specs.Budget.{IsBudget}
use Rattle.plan_machine.specs.Batch.{parts}
use Rattle.plan_nodes.specs.declared.node.Node.{Node}
use Rattle.plan_nodes.specs.declared.node.NodeKind.{NodeKind}
use Rattle.plan_nodes.specs.declared.node.NodeKind.TheVariants.{Source, Filter, Project, Longer, Aggregate, HashJoin, OrderBy, Fetch, Window, Sink}
use Rattle.plan_nodes.specs.Kinds.{is_source, input_count}
use Rattle.plan_nodes.specs.Plans.{Pace, IsPlan, node_at, input_at, input_schemas, meaning_at, machine_node_at, machine_plan}
use Rattle.plan_nodes.proofs.EachKind.{is_join}
use Rattle.plan_nodes.proofs.Inputs.{starts-folding, starts-streaming}
use Rattle.plan_bounds.specs.Bounds.{Bound, of_table, of_kind, table_at, bound_within, rows_bound, batches_bound}
use Rattle.plan_bounds.proofs.OfKind.{IsAtMost, of_kind-more, IsWithin, within}

-- a node that is no source has a first input, and a join a second
has-first : (kind : NodeKind) → is_source kind ≡ false → 1 ≤ input_count kind
has-first (Source name) e = absurd (cc)
has-first (Filter e) h = omega arith
has-first (Project es) h = omega arith
has-first (Longer s) h = omega arith
has-first (Aggregate s) h = omega arith
has-first (HashJoin j) h = omega arith
has-first (OrderBy ks) h = omega arith
has-first (Fetch offset count) h = omega arith
has-first (Window s) h = omega arith
has-first Sink h = omega arith

has-second : (kind : NodeKind) → is_join kind ≡ true → 2 ≤ input_count kind
has-second (Source name) e = absurd (cc)
has-second (Filter e) h = absurd (cc)
has-second (Project es) h = absurd (cc)
has-second (Longer s) h = absurd (cc)
has-second (Aggregate s) h = absurd (cc)
has-second (HashJoin j) h = omega arith
has-second (OrderBy ks) h = absurd (cc)
has-second (Fetch offset count) h = absurd (cc)
has-second (Window s) h = absurd (cc)
has-second Sink h = absurd (cc)

first-there : (es : List ℕ) → 1 ≤ length es → Contains es (input_at es 0)
first-there [] e = absurd (omega arith)
first-there (a ∷ es) e = (0, omega arith, refl)

second-there : (es : List ℕ) → 2 ≤ length es → Contains es (input_at es 1)
second-there [] e = absurd (omega arith)
second-there (a ∷ []) e = absurd (omega arith)
second-there (a ∷ b ∷ es) e = (1, omega arith, refl)

module _ (nodes : List Node) (tables : List (List (List Value))) (pace : Pace) where
  abbrev plan : MachinePlan (List Value)
  plan = machine_plan nodes tables pace

  abbrev bound : ℕ → ℕ → Bound
  bound = bound_within nodes tables pace.batch

  abbrev of_node : ℕ → Bound → Bound → Bound
  of_node n x y = of_kind (node_at nodes n).kind (of_table pace.batch (table_at nodes tables pace.batch n)) x y

  at-node : (n : ℕ) → IsWithin (node_at nodes n).kind (plan.node n) pace.batch
  unfolding machine_node_at
  at-node n = within (node_at nodes n) (input_schemas nodes (node_at nodes n)) pace.batch (table_at nodes tables pace.batch n)

  -- with more nodes on the way it is no less
  bound-more : (k n : ℕ) → IsAtMost (bound k n) (bound (suc k) n)
  unfolding bound_within
  bound-more zero n = record { rows = omega arith; batches = omega arith }
  bound-more (suc k) n =
      of_kind-more (node_at nodes n).kind (of_table pace.batch (table_at nodes tables pace.batch n))
      (bound k (input_at (node_at nodes n).inputs 0)) (bound k (input_at (node_at nodes n).inputs 1))
      (bound (suc k) (input_at (node_at nodes n).inputs 0)) (bound (suc k) (input_at (node_at nodes n).inputs 1))
      (bound-more k (input_at (node_at nodes n).inputs 0)) (bound-more k (input_at (node_at nodes n).inputs 1))

  bound-grows : (d k n : ℕ) → IsAtMost (bound k n) (bound (d + k) n)
  bound-grows zero k n = let e : 0 + k ≡ k = omega arith in rw e (record { rows = omega arith; batches = omega arith })
  bound-grows (suc d) k n =
      let e : suc d + k ≡ suc (d + k) = omega arith in
      let a = bound-grows d k n in
      let b = bound-more (d + k) n in
      let ar = a.rows in let ab = a.batches in let br = b.rows in let bb = b.batches in
      rw e (record { rows = omega arith; batches = omega arith })

  no-less : (k n : ℕ) → n ≤ k → IsAtMost (bound n n) (bound k n)
  no-less k n low =
      let e : (k - n) + n ≡ k = omega arith in
      subst (λ (m : ℕ). IsAtMost (bound n n) (bound m n)) e (bound-grows (k - n) n n)

  -- its inputs stand before a node
  first-before : IsPlan nodes → (n : ℕ) → IsNode plan n → is_source (node_at nodes n).kind ≡ false → (1 ≤ input_at (node_at nodes n).inputs 0) × (input_at (node_at nodes n).inputs 0 < n)
  first-before is n here other =
      let p = is.placed n here.0 here.1 in
      let h = has-first (node_at nodes n).kind other in
      let c = p.count in
      let a = p.inputs (input_at (node_at nodes n).inputs 0) (first-there (node_at nodes n).inputs (omega arith)) in
      (a.0, a.1)

  second-before : IsPlan nodes → (n : ℕ) → IsNode plan n → is_join (node_at nodes n).kind ≡ true → (1 ≤ input_at (node_at nodes n).inputs 1) × (input_at (node_at nodes n).inputs 1 < n)
  second-before is n here join =
      let p = is.placed n here.0 here.1 in
      let h = has-second (node_at nodes n).kind join in
      let c = p.count in
      let a = p.inputs (input_at (node_at nodes n).inputs 1) (second-there (node_at nodes n).inputs (omega arith)) in
      (a.0, a.1)

  rows-within : IsPlan nodes → (k n : ℕ) → IsEdge plan n → n ≤ k → length (meaning_within plan k n) ≤ (bound k n).rows
  unfolding meaning_within bound_within machine_node_at
  rows-within is zero n edge low = absurd (let a = edge.0 in omega arith)
  rows-within is (suc k) n edge low =
      let here : IsNode plan n = (edge.0, let a = edge.1 in omega arith) in
      (at-node n).rows (is.one_sink n edge.0 edge.1)
      (meaning_within plan k (input_at (node_at nodes n).inputs 0)) (meaning_within plan k (input_at (node_at nodes n).inputs 1))
      (bound k (input_at (node_at nodes n).inputs 0)) (bound k (input_at (node_at nodes n).inputs 1))
      (λ other. let b = first-before is n here other in let l = edge.1 in
      rows-within is k (input_at (node_at nodes n).inputs 0) (b.0, let c = b.1 in omega arith) (let c = b.1 in omega arith))
      (λ join. let b = second-before is n here join in let l = edge.1 in
      rows-within is k (input_at (node_at nodes n).inputs 1) (b.0, let c = b.1 in omega arith) (let c = b.1 in omega arith))

  -- the batches of the first input, as its user counts them
  first-batches : IsPlan nodes → (m : ℕ) → IsNode plan (suc m) → is_source (node_at nodes (suc m)).kind ≡ false → (bound (input_at (node_at nodes (suc m)).inputs 0) (input_at (node_at nodes (suc m)).inputs 0)).batches ≤ (bound m (input_at (node_at nodes (suc m)).inputs 0)).batches
  first-batches is m here other =
      let b = first-before is (suc m) here other in
      let c = b.1 in
      (no-less m (input_at (node_at nodes (suc m)).inputs 0) (omega arith)).batches

  source-at : (m : ℕ) → IsSource (plan.node (suc m)) → parts pace.batch (plan.node (suc m)).table ≤ (bound (suc m) (suc m)).batches
  unfolding bound_within machine_node_at
  source-at m s = (at-node (suc m)).source s (bound m (input_at (node_at nodes (suc m)).inputs 0)) (bound m (input_at (node_at nodes (suc m)).inputs 1))

  stream-at : IsPlan nodes → (m : ℕ) → IsNode plan (suc m) → OnlyStreams (plan.node (suc m)) → (bound (plan.node (suc m)).first (plan.node (suc m)).first).batches + cond (plan.node (suc m)).cuts (bound (suc m) (suc m)).rows 0 ≤ (bound (suc m) (suc m)).batches
  unfolding bound_within machine_node_at
  stream-at is m here s =
      let other = (starts-streaming (is_source (node_at nodes (suc m)).kind) (meaning_at nodes pace.batch (suc m)).shape s).0 in
      let a = first-batches is m here other in
      let b = (at-node (suc m)).stream s (bound m (input_at (node_at nodes (suc m)).inputs 0)) (bound m (input_at (node_at nodes (suc m)).inputs 1)) in
      omega arith

  join-at : IsPlan nodes → (m : ℕ) → IsNode plan (suc m) → IsJoin (plan.node (suc m)) → (bound (plan.node (suc m)).first (plan.node (suc m)).first).batches + (bound (suc m) (suc m)).rows ≤ (bound (suc m) (suc m)).batches
  unfolding bound_within machine_node_at
  join-at is m here s =
      let other = (starts-folding (is_source (node_at nodes (suc m)).kind) (meaning_at nodes pace.batch (suc m)).shape s.0).0 in
      let a = first-batches is m here other in
      let b = (at-node (suc m)).join s (bound m (input_at (node_at nodes (suc m)).inputs 0)) (bound m (input_at (node_at nodes (suc m)).inputs 1)) in
      omega arith

  fold-at : (m : ℕ) → Folds (plan.node (suc m)) → (plan.node (suc m)).streams ≡ false → cond (plan.node (suc m)).tails (bound (suc m) (suc m)).rows 0 ≤ (bound (suc m) (suc m)).batches
  unfolding bound_within machine_node_at
  fold-at m s t = (at-node (suc m)).fold s t (bound m (input_at (node_at nodes (suc m)).inputs 0)) (bound m (input_at (node_at nodes (suc m)).inputs 1))

  -- what holds of each number above 0
  above : (Q : ℕ → Type 0) → ((m : ℕ) → Q (suc m)) → (n : ℕ) → 1 ≤ n → Q n
  above Q q zero low = absurd (omega arith)
  above Q q (suc m) low = q m

  pub budget : IsPlan nodes → IsBudget plan (rows_bound nodes tables pace.batch) (batches_bound nodes tables pace.batch)
  budget is = record {
    of_rows = λ n edge. rows-within is n n edge (omega arith);
    of_source = λ n here. above (λ n. IsSource (plan.node n) → parts pace.batch (plan.node n).table ≤ (bound n n).batches) source-at n here.0;
    of_stream = λ n here. above (λ n. IsNode plan n → OnlyStreams (plan.node n) → (bound (plan.node n).first (plan.node n).first).batches + cond (plan.node n).cuts (bound n n).rows 0 ≤ (bound n n).batches) (stream-at is) n here.0 here;
    of_join = λ n here. above (λ n. IsNode plan n → IsJoin (plan.node n) → (bound (plan.node n).first (plan.node n).first).batches + (bound n n).rows ≤ (bound n n).batches) (join-at is) n here.0 here;
    of_fold = λ n here. above (λ n. Folds (plan.node n) → (plan.node n).streams ≡ false → cond (plan.node n).tails (bound n n).rows 0 ≤ (bound n n).batches) fold-at n here.0;
  }
