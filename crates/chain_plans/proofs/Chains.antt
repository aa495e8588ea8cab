-- A chain is a plan, and means what its steps give.
use Rattle.std.proofs.Common.{◌≡◌, ℕ, zero, suc, ◌+◌, ◌-◌, ◌<◌, ◌≤◌, inl, inr, true, false, nat_eq, IsTrue, List, [], ◌∷◌, length, drop, refl, sym, ap, subst, ◌∙◌, arith}
use Rattle.std.specs.List.{Contains}
use Rattle.std.proofs.lemmas.Bool.Decides.{eqb_tells}
use Rattle.scalar_value.specs.declared.value.Value.{Value}
use Rattle.row_table.specs.declared.field.Field.{Field}
use Rattle.row_table.specs.declared.table.Mark.{Mark}
use Rattle.column_batch.specs.Batches.{kinds_of}
use Rattle.plan_machine.specs.Lists.{at_or}
use Rattle.plan_machine.specs.Plan.{Plan as MachinePlan}
use Rattle.plan_machine.specs.Meaning.{meaning, whole}
use Rattle.plan_machine.specs.WellFormed.{WellFormed}
use Rattle.plan_machine.specs.Laws.{MeaningIsWhole}
use Rattle.plan_nodes.specs.declared.node.Node.{Node}
use Rattle.plan_nodes.specs.declared.node.NodeKind.{NodeKind}
use Rattle.plan_nodes.specs.declared.node.NodeKind.TheVariants.{Source, Filter, Project, Longer, Aggregate, HashJoin, OrderBy, Fetch, Window, Sink}
use Rattle.plan_nodes.specs.Kinds.{kind_meaning, input_count, is_sink, is_built, asks_order}
use Rattle.plan_nodes.specs.Plans.{Pace, IsPlan, IsNodeOf, node_at, no_node, user_from, user_of, mark_by, machine_plan, machine_node, machine_node_at, input_schemas, input_at, tables_of}
use Rattle.plan_nodes.specs.PlanLaws.{PlansAreWellFormed}
use Rattle.chain_plans.specs.declared.nodes.Step.{Step}
use Rattle.chain_plans.specs.Chains.{is_streaming, IsStep, AreSteps, nodes_behind, chain_nodes, step_rows, chain_rows}
use Rattle.chain_plans.specs.ChainLaws.{ChainsArePlans, ChainsMean}

-- ---- kinds

takes_one : (k : NodeKind) → is_streaming k ≡ true → input_count k ≡ 1
takes_one (Source name) e = cc
takes_one (Filter x) e = refl
takes_one (Project xs) e = refl
takes_one (Longer s) e = cc
takes_one (Aggregate s) e = cc
takes_one (HashJoin j) e = cc
takes_one (OrderBy ks) e = cc
takes_one (Fetch offset count) e = cc
takes_one (Window s) e = cc
takes_one Sink e = cc

no_sink : (k : NodeKind) → is_streaming k ≡ true → is_sink k ≡ false
no_sink (Source name) e = cc
no_sink (Filter x) e = refl
no_sink (Project xs) e = refl
no_sink (Longer s) e = cc
no_sink (Aggregate s) e = cc
no_sink (HashJoin j) e = cc
no_sink (OrderBy ks) e = cc
no_sink (Fetch offset count) e = cc
no_sink (Window s) e = cc
no_sink Sink e = cc

keeps_mark : (k : NodeKind) (m : Mark) → is_streaming k ≡ true → mark_by k (m ∷ []) ≡ m
keeps_mark (Source name) m e = cc
keeps_mark (Filter x) m e = refl
keeps_mark (Project xs) m e = refl
keeps_mark (Longer s) m e = cc
keeps_mark (Aggregate s) m e = cc
keeps_mark (HashJoin j) m e = cc
keeps_mark (OrderBy ks) m e = cc
keeps_mark (Fetch offset count) m e = cc
keeps_mark (Window s) m e = cc
keeps_mark Sink m e = cc

built : (k : NodeKind) → is_streaming k ≡ true → is_built k ≡ true
built (Source name) e = refl
built (Filter x) e = refl
built (Project xs) e = refl
built (Longer s) e = cc
built (Aggregate s) e = cc
built (HashJoin j) e = refl
built (OrderBy ks) e = cc
built (Fetch offset count) e = cc
built (Window s) e = cc
built Sink e = refl

asks_nothing : (k : NodeKind) (inputs : List (List Field)) → is_streaming k ≡ true → asks_order k inputs ≡ false
asks_nothing (Source name) inputs e = refl
asks_nothing (Filter x) inputs e = refl
asks_nothing (Project xs) inputs e = refl
asks_nothing (Longer s) inputs e = refl
asks_nothing (Aggregate s) inputs e = cc
asks_nothing (HashJoin j) inputs e = refl
asks_nothing (OrderBy ks) inputs e = cc
asks_nothing (Fetch offset count) inputs e = cc
asks_nothing (Window s) inputs e = cc
asks_nothing Sink inputs e = refl

gives : (k : NodeKind) (ins : List ℕ) (mark : Mark) (schema : List Field) (inputs : List (List Field)) (batch : ℕ) (table x y : List (List Value)) → is_streaming k ≡ true
    → whole (machine_node (record { kind = k; inputs = ins; mark = mark; schema = schema }) (kind_meaning k inputs batch) table) x y ≡ step_rows k x
gives (Source name) ins mark schema inputs batch table x y e = cc
gives (Filter c) ins mark schema inputs batch table x y e = refl
gives (Project cs) ins mark schema inputs batch table x y e = refl
gives (Longer s) ins mark schema inputs batch table x y e = cc
gives (Aggregate s) ins mark schema inputs batch table x y e = cc
gives (HashJoin j) ins mark schema inputs batch table x y e = cc
gives (OrderBy ks) ins mark schema inputs batch table x y e = cc
gives (Fetch offset count) ins mark schema inputs batch table x y e = cc
gives (Window s) ins mark schema inputs batch table x y e = cc
gives Sink ins mark schema inputs batch table x y e = cc

-- ---- lists

at_drop : {A : Type 0} (d v : A) (k : ℕ) (xs rest : List A) → drop k xs ≡ v ∷ rest → at_or d k xs ≡ v
at_drop d v zero [] rest e = cc
at_drop d v zero (x ∷ xs) rest e = cc
at_drop d v (suc k) [] rest e = cc
at_drop d v (suc k) (x ∷ xs) rest e = at_drop d v k xs rest e

drop_next : {A : Type 0} (v : A) (k : ℕ) (xs rest : List A) → drop k xs ≡ v ∷ rest → drop (suc k) xs ≡ rest
drop_next v zero [] rest e = cc
drop_next v zero (x ∷ xs) rest e = cc
drop_next v (suc k) [] rest e = cc
drop_next v (suc k) (x ∷ xs) rest e = drop_next v k xs rest e

in_one : (Q : ℕ → Type 0) (a : ℕ) → Q a → (e : ℕ) → Contains (a ∷ []) e → Q e
in_one Q a q e (zero, h, same) = subst Q same q
in_one Q a q e (suc k, h, same) = absurd (omega arith)

in_none : (e : ℕ) → Contains [] e → ⊥
in_none e h = let a = h.1 in omega arith

pub length_behind : (mark : Mark) (k : ℕ) (schema : List Field) (steps : List Step) → length (nodes_behind mark k schema steps) ≡ suc (length steps)
length_behind mark k schema [] = refl
length_behind mark k schema (s ∷ steps) = ap suc (length_behind mark (suc k) s.schema steps)

-- ---- users

same_number : (k : ℕ) → nat_eq k k ≡ true
same_number k = elim (eqb_tells k k) [ inl q ↦ q.0 | inr q ↦ absurd (let no = q.1 in omega arith) ]

here : (k n : ℕ) (v : Node) (vs : List Node) → v.inputs ≡ k ∷ [] → user_from n (v ∷ vs) k ≡ n
here k n v vs e = rw e (rw (same_number k) refl)

there : (k n e : ℕ) (v : Node) (vs : List Node) → v.inputs ≡ k ∷ [] → k < e → user_from n (v ∷ vs) e ≡ user_from (suc n) vs e
there k n e v vs same low =
    elim (eqb_tells k e) [
      | inl q ↦ absurd (let x = q.1 in omega arith)
      | inr q ↦ rw same (rw q.0 refl)
    ]

users : (mark : Mark) (k : ℕ) (schema : List Field) (steps : List Step) (e : ℕ) → k ≤ e → e ≤ k + length steps → user_from (suc k) (nodes_behind mark k schema steps) e ≡ suc e
users mark k schema [] e low up = let q : k ≡ e = omega arith in subst (λ x. user_from (suc k) (nodes_behind mark k schema []) x ≡ suc x) q (here k (suc k) (record { kind = Sink; inputs = k ∷ []; mark = mark; schema = schema }) [] refl)
users mark k schema (s ∷ steps) e low up =
    elim (eqb_tells k e) [
      | inl q ↦ subst (λ x. user_from (suc k) (nodes_behind mark k schema (s ∷ steps)) x ≡ suc x) q.1 (here k (suc k) (record { kind = s.kind; inputs = k ∷ []; mark = mark; schema = s.schema }) (nodes_behind mark (suc k) s.schema steps) refl)
      | inr q ↦
          let lt : k < e = omega arith in
          there k (suc k) e (record { kind = s.kind; inputs = k ∷ []; mark = mark; schema = s.schema }) (nodes_behind mark (suc k) s.schema steps) refl lt ∙ users mark (suc k) s.schema steps e lt (omega arith)
    ]

-- ---- the nodes in their places

-- what is known of node n of a plan
record Placed (all : List Node) (n : ℕ) : Type 0 where
  of : IsNodeOf all n (node_at all n)
  inner : n < length all → is_sink (node_at all n).kind ≡ false
  end : n ≡ length all → is_sink (node_at all n).kind ≡ true

module _ (all : List Node) (mark : Mark) where
  step_placed : (k : ℕ) (schema : List Field) (s : Step) → 1 ≤ k → (node_at all k).schema ≡ schema → (node_at all k).mark ≡ mark → user_of all k ≡ suc k → IsStep schema s
      → IsNodeOf all (suc k) (record { kind = s.kind; inputs = k ∷ []; mark = mark; schema = s.schema })
  step_placed k schema s low columns kept used h =
      record {
        count = sym (takes_one s.kind h.streams);
        inputs = in_one (λ e. (1 ≤ e) × (e < suc k) × (user_of all e ≡ suc k)) k (low, omega arith, used);
        apart = refl;
        fits = subst (λ f. IsTrue ((kind_meaning s.kind (f ∷ []) 1).fits (kinds_of f ∷ []))) (sym columns) h.fits;
        columns = λ other. subst (λ f. kinds_of s.schema ≡ (kind_meaning s.kind (f ∷ []) 1).columns (kinds_of f ∷ [])) (sym columns) h.columns;
        mark = inr (inr (sym (ap (λ m. mark_by s.kind (m ∷ [])) kept ∙ keeps_mark s.kind mark h.streams)));
        ordered = λ asks. absurd (let none = asks_nothing s.kind ((node_at all k).schema ∷ []) h.streams in cc);
        built = built s.kind h.streams;
      }

  sink_placed : (k : ℕ) (schema : List Field) → 1 ≤ k → (node_at all k).schema ≡ schema → (node_at all k).mark ≡ mark → user_of all k ≡ suc k
      → IsNodeOf all (suc k) (record { kind = Sink; inputs = k ∷ []; mark = mark; schema = schema })
  sink_placed k schema low columns kept used =
      record {
        count = refl;
        inputs = in_one (λ e. (1 ≤ e) × (e < suc k) × (user_of all e ≡ suc k)) k (low, omega arith, used);
        apart = refl;
        fits = refl;
        columns = λ other. ap kinds_of (sym columns);
        mark = inr (inr (sym kept));
        ordered = λ asks. absurd (cc);
        built = refl;
      }

  placed_behind : (k : ℕ) (schema : List Field) (steps : List Step)
      → 1 ≤ k → (node_at all k).schema ≡ schema → (node_at all k).mark ≡ mark → drop k all ≡ nodes_behind mark k schema steps → length all ≡ suc (k + length steps)
      → ((e : ℕ) → 1 ≤ e → e ≤ k + length steps → user_of all e ≡ suc e) → AreSteps schema steps
      → (n : ℕ) → k < n → n ≤ length all → Placed all n
  placed_behind k schema [] low columns kept rest size used h n above up =
      let v : Node = record { kind = Sink; inputs = k ∷ []; mark = mark; schema = schema } in
      let is : node_at all (suc k) ≡ v = at_drop no_node v k all [] rest in
      let at : suc k ≡ n = omega arith in
      subst (λ m. Placed all m) at
      record {
        of = subst (λ x. IsNodeOf all (suc k) x) (sym is) (sink_placed k schema low columns kept (used k low (omega arith)));
        inner = λ lt. absurd (omega arith);
        end = λ e. ap (λ (x : Node). is_sink x.kind) is;
      }
  placed_behind k schema (s ∷ steps) low columns kept rest size used h n above up =
      let v : Node = record { kind = s.kind; inputs = k ∷ []; mark = mark; schema = s.schema } in
      let is : node_at all (suc k) ≡ v = at_drop no_node v k all (nodes_behind mark (suc k) s.schema steps) rest in
      let sink : is_sink (node_at all (suc k)).kind ≡ false = ap (λ (x : Node). is_sink x.kind) is ∙ no_sink s.kind h.0.streams in
      elim (eqb_tells (suc k) n) [
        | inl q ↦
            subst (λ m. Placed all m) q.1
            record {
              of = subst (λ x. IsNodeOf all (suc k) x) (sym is) (step_placed k schema s low columns kept (used k low (omega arith)) h.0);
              inner = λ lt. sink;
              end = λ e. absurd (omega arith);
            }
        | inr q ↦
            placed_behind (suc k) s.schema steps (omega arith) (ap (λ (x : Node). x.schema) is) (ap (λ (x : Node). x.mark) is)
            (drop_next v k all (nodes_behind mark (suc k) s.schema steps) rest) (omega arith) (λ e a b. used e a (omega arith)) h.1 n (omega arith) up
      ]

module _ (name : List ℕ) (mark : Mark) (schema : List Field) (steps : List Step) (h : AreSteps schema steps) where
  abbrev all : List Node
  all = chain_nodes name mark schema steps

  size : length all ≡ suc (1 + length steps)
  size = let a = length_behind mark 1 schema steps in omega arith

  used : (e : ℕ) → 1 ≤ e → e ≤ 1 + length steps → user_of all e ≡ suc e
  used e low up = users mark 1 schema steps e low up

  first_placed : Placed all 1
  first_placed =
      record {
        of = record {
          count = refl;
          inputs = λ e c. absurd (in_none e c);
          apart = refl;
          fits = refl;
          columns = λ source. absurd (cc);
          mark = inl refl;
          ordered = λ asks. absurd (cc);
          built = refl;
        };
        inner = λ lt. refl;
        end = λ e. absurd (let a = size in omega arith);
      }

  placed_at : (n : ℕ) → 1 ≤ n → n ≤ length all → Placed all n
  placed_at n low up =
      elim (eqb_tells 1 n) [
        | inl q ↦ subst (λ m. Placed all m) q.1 first_placed
        | inr q ↦ placed_behind all mark 1 schema steps (omega arith) refl refl refl size used h n (omega arith) up
      ]

  is_plan : IsPlan all
  is_plan =
      record {
        placed = λ n low up. (placed_at n low up).of;
        some = (let a = size in omega arith);
        last = (placed_at (length all) (let a = size in omega arith) (omega arith)).end refl;
        one_sink = λ n low up. (placed_at n low (omega arith)).inner up;
        used = λ e low up.
            let u = used e low (let a = size in omega arith) in
            (subst (λ m. e < m) (sym u) (omega arith), subst (λ m. m ≤ length all) (sym u) (omega arith));
      }

pub chains_are_plans : ChainsArePlans
chains_are_plans name mark schema steps h = is_plan name mark schema steps h

-- ---- what a chain means

module _ (all : List Node) (mark : Mark) (tables : List (List (List Value))) (pace : Pace) (W : WellFormed (machine_plan all tables pace)) (wholes : MeaningIsWhole (List Value)) where
  abbrev P : MachinePlan (List Value)
  P = machine_plan all tables pace

  -- node n's rows, where it is this node
  abbrev rows_by : ℕ → Node → List (List Value)
  rows_by n x = whole (machine_node x (kind_meaning x.kind (input_schemas all x) pace.batch) (at_or [] (n - 1) (tables_of all tables))) (meaning P (input_at x.inputs 0)) (meaning P (input_at x.inputs 1))

  means_by : (n : ℕ) (v : Node) → 1 ≤ n → n ≤ length all → node_at all n ≡ v → meaning P n ≡ rows_by n v
  unfolding machine_node_at
  means_by n v low up is = wholes P W n (low, up) ∙ ap (rows_by n) is

  means_behind : (k : ℕ) (schema : List Field) (steps : List Step) (rows : List (List Value))
      → 1 ≤ k → drop k all ≡ nodes_behind mark k schema steps → length all ≡ suc (k + length steps) → AreSteps schema steps → meaning P k ≡ rows
      → meaning P (length all) ≡ chain_rows steps rows
  means_behind k schema [] rows low rest size h before =
      let v : Node = record { kind = Sink; inputs = k ∷ []; mark = mark; schema = schema } in
      let is : node_at all (suc k) ≡ v = at_drop no_node v k all [] rest in
      let at : suc k ≡ length all = omega arith in
      ap (meaning P) (sym at) ∙ (means_by (suc k) v (omega arith) (omega arith) is ∙ before)
  means_behind k schema (s ∷ steps) rows low rest size h before =
      let v : Node = record { kind = s.kind; inputs = k ∷ []; mark = mark; schema = s.schema } in
      let is : node_at all (suc k) ≡ v = at_drop no_node v k all (nodes_behind mark (suc k) s.schema steps) rest in
      means_behind (suc k) s.schema steps (step_rows s.kind rows) (omega arith) (drop_next v k all (nodes_behind mark (suc k) s.schema steps) rest) (omega arith) h.1
      (means_by (suc k) v (omega arith) (omega arith) is
      ∙ (gives s.kind (k ∷ []) mark s.schema (input_schemas all v) pace.batch (at_or [] (suc k - 1) (tables_of all tables)) (meaning P k) (meaning P 0) h.0.streams
      ∙ ap (step_rows s.kind) before))

pub chains_mean : PlansAreWellFormed → MeaningIsWhole (List Value) → ChainsMean
chains_mean well wholes name mark schema steps rows pace h on =
    let all : List Node = chain_nodes name mark schema steps in
    let W = well all (rows ∷ []) pace (is_plan name mark schema steps h) on in
    means_behind all mark (rows ∷ []) pace W wholes 1 schema steps rows (omega arith) refl (size name mark schema steps h) h
    (means_by all mark (rows ∷ []) pace W wholes 1 (record { kind = Source name; inputs = []; mark = mark; schema = schema }) (omega arith) (let a = size name mark schema steps h in omega arith) refl)
