-- Which fetch stops what it reads.
use Rattle.std.proofs.Common.{◌≡◌, ℕ, suc, ◌+◌, ◌-◌, ◌<◌, ◌^◌, Bool, true, false, ◌↔◌, IsTrue, List, [], length, Option, Some, None, refl, sym, ap, subst, ◌∙◌, arith, slice_index_or}
use Rattle.std.proofs.lemmas.Bool.{leb-true}
use Rattle.scalar_value.specs.declared.value.Value.{Value}
use Rattle.plan_machine.specs.declared.entry.Phase.TheVariants.{Folding, Done}
use Rattle.plan_machine.specs.Batch.{Batch}
use Rattle.plan_machine.specs.Plan.{Plan as MachinePlan, IsNode, folds_from}
use Rattle.plan_machine.specs.State.{State}
use Rattle.plan_machine.specs.declared.entry.Entry.TheVariants.{Stop}
use Rattle.plan_machine.specs.Enabled.{Enabled, HasFront}
use Rattle.plan_nodes.specs.declared.node.Node.{Node}
use Rattle.plan_nodes.specs.declared.node.NodeKind.{NodeKind}
use Rattle.plan_nodes.specs.declared.node.NodeKind.TheVariants.{Source, Filter, Project, Longer, Aggregate, HashJoin, OrderBy, Fetch, Window, Sink}
use Rattle.row_table.specs.declared.field.Field.{Field}
use Rattle.scalar_value.specs.declared.value.ColType.{ColType}
use Rattle.plan_nodes.specs.Kinds.{kind_meaning}
use Rattle.plan_nodes.specs.Plans.{IsPlan, no_node, node_at, input_schemas, input_kinds, machine_node_at}
use Rattle.plan_store.specs.Told.{Given, plan_of}
use Rattle.plan_store.proofs.At.{at_slice}
use Rattle.fetch_counts.specs.declared.front.Front.{Front}
use Rattle.fetch_counts.specs.Counts.{FrontIs}
use Rattle.task_core.specs.Fronts.{FrontStands}

-- ---- what a fetch wants

-- it is the same over all inputs and for all batches, and within 64 bits where the node fits its inputs
pub wants_same : (kind : NodeKind) (inputs : List (List Field)) (batch : ℕ) → (kind_meaning kind inputs batch).wanted ≡ (kind_meaning kind [] 1).wanted
wants_same (Source name) inputs batch = refl
wants_same (Filter e) inputs batch = refl
wants_same (Project es) inputs batch = refl
wants_same (Longer s) inputs batch = refl
wants_same (Aggregate s) inputs batch = refl
wants_same (HashJoin j) inputs batch = refl
wants_same (OrderBy ks) inputs batch = refl
wants_same (Fetch offset count) inputs batch = refl
wants_same (Window s) inputs batch = refl
wants_same Sink inputs batch = refl

within : (kind : NodeKind) (inputs : List (List Field)) (kinds : List (List ColType)) (m : ℕ) → IsTrue ((kind_meaning kind inputs 1).fits kinds) → (kind_meaning kind [] 1).wanted ≡ Some m → m < 2 ^ 64
within (Source name) inputs kinds m fits e = absurd (cc)
within (Filter c) inputs kinds m fits e = absurd (cc)
within (Project es) inputs kinds m fits e = absurd (cc)
within (Longer s) inputs kinds m fits e = absurd (cc)
within (Aggregate s) inputs kinds m fits e = absurd (cc)
within (HashJoin j) inputs kinds m fits e = absurd (cc)
within (OrderBy ks) inputs kinds m fits e = absurd (cc)
within (Fetch offset count) inputs kinds m fits e =
    let is : offset + count ≡ m = cc in
    let le = leb-true (offset + count) (2 ^ 64 - 1) fits in
    omega arith
within (Window s) inputs kinds m fits e = absurd (cc)
within Sink inputs kinds m fits e = absurd (cc)

pub plan_wants : (nodes : List Node) → IsPlan nodes → (k m : ℕ) (d : Node) → k < length nodes → (kind_meaning (slice_index_or nodes k d).kind [] 1).wanted ≡ Some m → m < 2 ^ 64
plan_wants nodes planned k m d lt e =
    let p = planned.placed (suc k) (omega arith) (omega arith) in
    let v = node_at nodes (suc k) in
    within v.kind (input_schemas nodes v) (input_kinds nodes v) m p.fits (ap (λ (x : Node). (kind_meaning x.kind [] 1).wanted) (at_slice no_node d k nodes lt) ∙ e)

pub node_wants : (g : Given) (k : ℕ) (d : Node) → k < length g.nodes → (kind_meaning (slice_index_or g.nodes k d).kind [] 1).wanted ≡ ((plan_of g).node (suc k)).wanted
unfolding machine_node_at
node_wants g k d lt =
    let v = node_at g.nodes (suc k) in
    sym (ap (λ (x : Node). (kind_meaning x.kind [] 1).wanted) (at_slice no_node d k g.nodes lt)) ∙ sym (wants_same v.kind (input_schemas g.nodes v) g.pace.batch)

-- ---- when it stops

-- a fetch that has folded what it wants
abbrev pub IsMet : MachinePlan (List Value) → State (List Value) → ℕ → Type 0
IsMet P s n = (m : ℕ) × ((P.node n).wanted ≡ Some m) × HasFront (s.folded n) m

pub met_is : (P : MachinePlan (List Value)) (s : State (List Value)) (room n : ℕ) (f : Front) (met : Bool) → FrontStands P s room n f
    → ((folded : List (Batch (List Value))) (wanted : ℕ) → f.wanted ≡ Some wanted → wanted < 2 ^ 64 → FrontIs folded f → IsTrue met ↔ HasFront folded wanted)
    → (f.wanted ≡ None → met ≡ false)
    → IsTrue met ↔ IsMet P s n
met_is P s room n f met h fetch other = by f.wanted refl
  where
    by : (o : Option ℕ) → f.wanted ≡ o → IsTrue met ↔ IsMet P s n
    by None e = (
      λ t. let no = sym (other e) ∙ t in absurd (cc),
      λ is. let no = sym e ∙ (h.wanted ∙ is.1) in absurd (cc),
    )
    by (Some m) e =
        let wants : (P.node n).wanted ≡ Some m = sym h.wanted ∙ e in
        let is = fetch (s.folded n) m e (h.few m wants) (h.counts m wants) in (
          λ t. (m, wants, is.0 t),
          λ there.
              let both : Some there.0 ≡ Some m = sym there.1 ∙ wants in
              let same : there.0 ≡ m = cc in
              is.1 (subst (λ k. HasFront (s.folded n) k) same there.2),
        )

module _ (P : MachinePlan (List Value)) (s : State (List Value)) (n : ℕ) (met : Bool) (told : IsTrue met ↔ IsMet P s n) where
  -- one that has, while its input goes on
  pub stops_met : (gathers : Bool) → IsNode P n → s.failed ≡ false → met ≡ true
      → (IsTrue gathers ↔ ((s.phase n ≡ Folding) × (s.phase (folds_from P n) ≡ Done → ⊥)))
      → IsTrue gathers ↔ Enabled P s (Stop n)
  stops_met gathers node sound t on =
      let m = told.0 t in (
        λ g. let a = on.0 g in (sound, record { node = node; wanted = m.0; is_fetch = m.1; folding = a.0; open_input = a.1; front = m.2 }),
        λ can. on.1 (can.1.folding, can.1.open_input),
      )

  -- any other
  pub stops_unmet : met ≡ false → IsTrue met ↔ Enabled P s (Stop n)
  stops_unmet f = (
    λ t. let no = sym f ∙ t in absurd (cc),
    λ can. told.1 (can.1.wanted, can.1.is_fetch, can.1.front),
  )
