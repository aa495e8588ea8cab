-- The numbers of the nodes that are no sources, and what stands for each of them.
use Rattle.std.proofs.Common.{Result, Ok, Err, OnOk, ◌≡◌, ℕ, zero, suc, ◌+◌, ◌-◌, ◌<◌, ◌≤◌, ◌^◌, IsTrue, Bool, true, false, cond, not, List, [], ◌∷◌, ◌++◌, length, take, refl, sym, ap, subst, ◌∙◌, arith, slice_index_or}
use Rattle.std.specs.List.{Contains}
use Rattle.std.proofs.lemmas.Bool.{leb-true}
use Rattle.std.proofs.lemmas.List.{append-nil}
use Rattle.std.proofs.lemmas.List.Elements.{Contains-get_or}
use Rattle.std.specs.declared.alloc.Global.{Global}
use Rattle.std.specs.declared.sync.Arc.{Arc}
use Rattle.std.specs.Arc.{arc_value}
use Rattle.plan_machine.specs.Lists.{at_or}
use Rattle.plan_nodes.specs.declared.node.Node.{Node}
use Rattle.plan_nodes.specs.declared.node.NodeKind.TheVariants.{Fetch}
use Rattle.plan_nodes.specs.Kinds.{is_source, is_built, kind_meaning}
use Rattle.plan_nodes.specs.Operators.{OpMeaning, Each}
use Rattle.plan_nodes.specs.Plans.{IsPlan, node_at, no_node, meaning_at, user_of, input_schemas, input_kinds}
use Rattle.plan_store.specs.Beginning.{numbers_of}
use Rattle.plan_store.proofs.At.{at_slice}
use Rattle.plan_runs.specs.SoFar.{AreFirst}

cond_append : (b : Bool) (k : ℕ) (M Z : List ℕ) → cond b (k ∷ (M ++ Z)) (M ++ Z) ≡ cond b (k ∷ M) M ++ Z
cond_append true k M Z = refl
cond_append false k M Z = refl

numbers_next : (k i : ℕ) (nodes : List Node) → i < length nodes
    → numbers_of false k (take (suc i) nodes) ≡ numbers_of false k (take i nodes) ++ cond (not (is_source (at_or no_node i nodes).kind)) ((k + i) ∷ []) []
numbers_next k i [] l = absurd (omega arith)
numbers_next k zero (x ∷ xs) l = let e : k + 0 ≡ k = omega arith in rw e refl
numbers_next k (suc i) (x ∷ xs) l =
    let h = numbers_next (suc k) i xs (omega arith) in
    let e : suc k + i ≡ k + suc i = omega arith in
    ap (λ ns. cond (not (is_source x.kind)) (k ∷ ns) ns) (h ∙ ap (λ m. numbers_of false (suc k) (take i xs) ++ cond (not (is_source (at_or no_node i xs).kind)) (m ∷ []) []) e)
    ∙ cond_append (not (is_source x.kind)) k (numbers_of false (suc k) (take i xs)) (cond (not (is_source (at_or no_node i xs).kind)) ((k + suc i) ∷ []) [])

each_more : {A B : Type 0} (R : A → B → Type 0) (xs : List A) (ys : List B) (x : A) (y : B) → Each R xs ys → R x y → Each R (xs ++ x ∷ []) (ys ++ y ∷ [])
each_more R [] [] x y h r = (r, tt)
each_more R [] (b ∷ ys) x y h r = absurd h
each_more R (a ∷ xs) [] x y h r = absurd h
each_more R (a ∷ xs) (b ∷ ys) x y h r = (h.0, each_more R xs ys x y h.1 r)

module _ {O : Type 0} (meaning : O → OpMeaning) (nodes : List Node) (batch : ℕ) where
  pub first_none : AreFirst meaning nodes batch 0 []
  first_none = tt

  pub past_source : (k : ℕ) (ops : List (Arc O Global)) → k < length nodes → is_source (node_at nodes (suc k)).kind ≡ true → AreFirst meaning nodes batch k ops → AreFirst meaning nodes batch (suc k) ops
  past_source k ops l source h =
      let e : numbers_of false 1 (take (suc k) nodes) ≡ numbers_of false 1 (take k nodes) =
      numbers_next 1 k nodes l ∙ (ap (λ b. numbers_of false 1 (take k nodes) ++ cond (not b) ((1 + k) ∷ []) []) source ∙ append-nil (numbers_of false 1 (take k nodes))) in
      subst (λ ns. Each (λ op n. meaning (arc_value op) ≡ meaning_at nodes batch n) ops ns) (sym e) h

  pub past_other : (k : ℕ) (ops : List (Arc O Global)) (op : Arc O Global) → k < length nodes → is_source (node_at nodes (suc k)).kind ≡ false → meaning (arc_value op) ≡ meaning_at nodes batch (suc k)
      → AreFirst meaning nodes batch k ops → AreFirst meaning nodes batch (suc k) (ops ++ op ∷ [])
  past_other k ops op l other is h =
      let at : 1 + k ≡ suc k = omega arith in
      let e : numbers_of false 1 (take (suc k) nodes) ≡ numbers_of false 1 (take k nodes) ++ suc k ∷ [] =
      numbers_next 1 k nodes l ∙ (ap (λ b. numbers_of false 1 (take k nodes) ++ cond (not b) ((1 + k) ∷ []) []) other ∙ ap (λ m. numbers_of false 1 (take k nodes) ++ m ∷ []) at) in
      subst (λ ns. Each (λ op n. meaning (arc_value op) ≡ meaning_at nodes batch n) (ops ++ op ∷ []) ns) (sym e)
      (each_more (λ op n. meaning (arc_value op) ≡ meaning_at nodes batch n) ops (numbers_of false 1 (take k nodes)) op (suc k) h is)

-- the node of a number
pub node_is : (nodes : List Node) (e k : ℕ) (v : Node) → suc k ≡ e → k < length nodes → v ≡ slice_index_or nodes k v → node_at nodes e ≡ v
node_is nodes e k v at l is = ap (node_at nodes) (sym at) ∙ (at_slice no_node v k nodes l ∙ sym is)

-- a plan's nodes are of kinds that are built
pub built_at : (nodes : List Node) (k : ℕ) → IsPlan nodes → k < length nodes → is_built (node_at nodes (suc k)).kind ≡ true
built_at nodes k plan l = (plan.placed (suc k) (omega arith) (omega arith)).built

-- a fetch of a plan wants to see no more rows than 64 bits count
pub within_at : (nodes : List Node) (k : ℕ) → IsPlan nodes → k < length nodes → (offset count : ℕ) → (node_at nodes (suc k)).kind ≡ Fetch offset count → offset + count ≤ 2 ^ 64 - 1
within_at nodes k plan l offset count is =
    let v = node_at nodes (suc k) in
    leb-true (offset + count) (2 ^ 64 - 1)
    (subst (λ kind. IsTrue ((kind_meaning kind (input_schemas nodes v) 1).fits (input_kinds nodes v))) is (plan.placed (suc k) (omega arith) (omega arith)).fits)

pub on_ok : {T E : Type 0} (r : Result T E) (A B : Type 0) → (A → B) → OnOk r A → OnOk r B
on_ok (Ok x) A B f h = f h
on_ok (Err e) A B f h = tt

-- the inputs of a plan's node are nodes of the plan
pub inputs_within : (nodes : List Node) (k : ℕ) (v : Node) → IsPlan nodes → k < length nodes → node_at nodes (suc k) ≡ v
    → (j d : ℕ) → j < length v.inputs → (1 ≤ slice_index_or v.inputs j d) × (slice_index_or v.inputs j d ≤ length nodes)
inputs_within nodes k v plan l is j d at =
    let of = plan.placed (suc k) (omega arith) (omega arith) in
    let there = subst (λ (x : Node). (e : ℕ) → Contains x.inputs e → (1 ≤ e) × (e < suc k) × (user_of nodes e ≡ suc k)) is of.inputs in
    let e = there (slice_index_or v.inputs j d) (Contains-get_or v.inputs j d at) in
    (e.0, (let below = e.1 in omega arith))
