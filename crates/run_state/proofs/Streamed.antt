-- What a Stream gives and what it leaves, in the machine's words.
use Rattle.std.proofs.Common.{◌≡◌, ℕ, ◌+◌, ◌-◌, ◌^◌, ◌<◌, Bool, true, false, cond, ◌&&◌, nat_lt, nat_eq, eq-eqb, List, [], ◌∷◌, length, map, take, Option, Some, None, refl, sym, ap, subst, ◌∙◌, ◌⊎◌, inl, inr, slice_index_or}
use Rattle.plan_machine.proofs.Pass.{true_or_false}
use Rattle.std.specs.VecDeque.{deque_len, deque_capacity}
use Rattle.scalar_value.specs.declared.value.Value.{Value}
use Rattle.scalar_value.specs.declared.value.ColType.{ColType}
use Rattle.column_batch.specs.Batches.{BatchValue, kinds_of}
use Rattle.plan_machine.specs.Batch.{Batch}
use Rattle.plan_machine.specs.Plan.{streams_from}
use Rattle.plan_machine.specs.State.{Task}
use Rattle.plan_machine.specs.After.{sent, back, left_of}
use Rattle.plan_nodes.specs.declared.node.Node.{Node}
use Rattle.plan_nodes.specs.Operators.{OpMeaning, item, first_of, sent_rows, next_from, size_of}
use Rattle.plan_nodes.specs.Plans.{machine_node_at, node_at, input_at}
use Rattle.task_work.specs.Sites.{Site}
use Rattle.task_work.specs.declared.work.Waiting.{Waiting}
use Rattle.task_work.specs.Work.{IsOut, IsRest}
use Rattle.plan_store.specs.declared.queue.Queue.{Queue}
use Rattle.plan_store.specs.Told.{Given, plan_of, site_of}
use Rattle.run_state.specs.Stored.{waiting_item, goes_on}
use Rattle.plan_store.specs.Putting.{HasRoom}
use Rattle.run_state.proofs.Sizes.{size_cuts}
use Rattle.run_state.proofs.Giving.{item_is}

-- the columns of what a node streams are those of its first input
columns_by : (nodes : List Node) (inputs : List ℕ) → kinds_of (node_at nodes (input_at inputs 0)).schema ≡ first_of (map (λ (e : ℕ). kinds_of (node_at nodes e).schema) inputs)
columns_by nodes [] = refl
columns_by nodes (x ∷ xs) = refl

pub first_columns : (g : Given) (n : ℕ) → (site_of g (streams_from (plan_of g) n)).columns ≡ first_of (site_of g n).inputs
unfolding site_of machine_node_at
first_columns g n = columns_by g.nodes (node_at g.nodes n).inputs

node_streams : (g : Given) (n : ℕ) → ((plan_of g).node n).streams ≡ (site_of g n).meaning.shape.streams
unfolding site_of machine_node_at
node_streams g n = refl

node_cuts : (g : Given) (n : ℕ) → ((plan_of g).node n).cuts ≡ (site_of g n).meaning.cuts
unfolding site_of machine_node_at
node_cuts g n = refl

all_true : (a b c : Bool) → a ≡ true → b ≡ true → c ≡ true → (a && (b && c)) ≡ true
all_true true true true x y z = refl
all_true true true false x y z = z
all_true true false c x y z = y
all_true false b c x y z = x

-- the edge whose batches a node that cuts streams
pub cut_edge : (g : Given) (n e : ℕ) → (plan_of g).user e ≡ n → streams_from (plan_of g) n ≡ e → (site_of g n).meaning.cuts ≡ true → goes_on (plan_of g) e ≡ true
cut_edge g n e user from cuts =
    subst (λ (m : ℕ). (((plan_of g).node m).streams && (nat_eq (streams_from (plan_of g) m) e && ((plan_of g).node m).cuts)) ≡ true) (sym user)
    (all_true _ _ _ (node_streams g n ∙ (size_cuts g n cuts).1) (eq-eqb (streams_from (plan_of g) n) e from) (node_cuts g n ∙ cuts))

-- what is sent
sent_by : (m : OpMeaning) (batch : ℕ) (xs : List (List Value)) → (m.cuts ≡ true → size_of m ≡ batch) → cond m.cuts (take (size_of m) xs) xs ≡ cond m.cuts (take batch xs) xs
sent_by m batch xs size =
    elim (true_or_false m.cuts) [
      | inl cuts ↦ ap (λ (k : ℕ). cond m.cuts (take k xs) xs) (size cuts)
      | inr whole ↦ ap (λ (b : Bool). cond b (take (size_of m) xs) xs) whole ∙ sym (ap (λ (b : Bool). cond b (take batch xs) xs) whole)
    ]

-- what is left of a batch: nothing, or the batch from where its output goes on
pub record IsLeft (t : Task (List Value)) (batches : List (Batch (List Value))) (cuts : Bool) (kinds : List ColType) (rest : Option Waiting) (w : Waiting) : Type 0 where
  pub is : rest ≡ Some w
  pub batch : batches ≡ waiting_item w ∷ []
  pub columns : w.batch.kinds ≡ kinds
  pub cut : cuts ≡ true

abbrev pub Left : Task (List Value) → List (Batch (List Value)) → Bool → List ColType → Option Waiting → Type 0
Left t batches cuts kinds rest = ((rest ≡ None) × (batches ≡ [])) ⊎ ((w : Waiting) × IsLeft t batches cuts kinds rest w)

module _ {O S L : Type 0}
    (meaning : O → OpMeaning)
    (local_is : OpMeaning → List ColType → L → List (Batch (List Value)) → Type 0)
    (shared_is : OpMeaning → List (List ColType) → S → List (List Value) → List (Batch (List Value)) → Type 0)
  where
    pub sent_is : (g : Given) (n : ℕ) (t : Task (List Value)) (out : BatchValue)
        → IsOut meaning local_is shared_is (site_of g n) t.batch.index (sent_rows (site_of g n).meaning t.built t.batch.rows t.batch.from) out
        → item out 0 ≡ sent (plan_of g) (record t { node = n })
    unfolding site_of machine_node_at
    sent_is g n t out is =
        item_is out 0 _ _ is.at
        (is.given ∙ sent_by (site_of g n).meaning (plan_of g).batch (left_of (plan_of g) (record t { node = n })) (λ e. (size_cuts g n e).0))

    left_by : (v : Site) (t : Task (List Value)) (c more : Bool) (size : ℕ) (rest : Option Waiting)
        → IsRest meaning local_is shared_is v t (cond (c && more) (Some (t.batch.from + size)) None) rest
        → Left t (cond (c && more) (record { index = t.batch.index; rows = t.batch.rows; from = t.batch.from + size } ∷ []) []) c (first_of v.inputs) rest
    left_by v t true true size None is = absurd is
    left_by v t true true size (Some w) is = inr (w, record { is = refl; batch = ap (λ (b : Batch (List Value)). b ∷ []) (sym (ap (λ (k : ℕ). item w.batch k) is.3 ∙ item_is w.batch (t.batch.from + size) t.batch.index t.batch.rows is.0 is.1)); columns = is.2; cut = refl })
    left_by v t true false size None is = inl (refl, refl)
    left_by v t true false size (Some w) is = absurd is
    left_by v t false more size None is = inl (refl, refl)
    left_by v t false more size (Some w) is = absurd is

    -- the same where the operator's size is only that of the run where it cuts
    left_sized : (v : Site) (t : Task (List Value)) (c : Bool) (size batch long : ℕ) (rest : Option Waiting)
        → (c ≡ true → size ≡ batch)
        → IsRest meaning local_is shared_is v t (cond (c && nat_lt size long) (Some (t.batch.from + size)) None) rest
        → Left t (cond (c && nat_lt batch long) (record { index = t.batch.index; rows = t.batch.rows; from = t.batch.from + batch } ∷ []) []) c (first_of v.inputs) rest
    left_sized v t true size batch long rest same is =
        left_by v t true (nat_lt batch long) batch rest
        (subst (λ (k : ℕ). IsRest meaning local_is shared_is v t (cond (true && nat_lt k long) (Some (t.batch.from + k)) None) rest) (same refl) is)
    left_sized v t false size batch long rest same is = left_by v t false (nat_lt batch long) batch rest is

    pub left_is : (g : Given) (n : ℕ) (t : Task (List Value)) (rest : Option Waiting)
        → IsRest meaning local_is shared_is (site_of g n) t (next_from (site_of g n).meaning t.built t.batch.rows t.batch.from) rest
        → Left t (back (plan_of g) (record t { node = n })) (site_of g n).meaning.cuts (first_of (site_of g n).inputs) rest
    unfolding site_of machine_node_at
    left_is g n t rest is =
        left_sized (site_of g n) t (site_of g n).meaning.cuts (size_of (site_of g n).meaning) (plan_of g).batch (length (left_of (plan_of g) (record t { node = n }))) rest (λ e. (size_cuts g n e).0) is

-- a queue that was not written has the room that it had
pub room_moved : (queues queues' : List Queue) (n : ℕ) → HasRoom queues n → length queues' ≡ length queues → ((d : Queue) → slice_index_or queues' (n - 1) d ≡ slice_index_or queues (n - 1) d) → HasRoom queues' n
room_moved queues queues' n h long same =
    record {
      edges = h.edges;
      place = subst (λ m. n - 1 < m) (sym long) h.place;
      room = λ d. subst (λ (q : Queue). deque_len q.waiting < deque_capacity q.waiting) (sym (same d)) (h.room d);
      count = λ d. subst (λ (q : Queue). q.edge.waiting < 2 ^ 32 - 1) (sym (same d)) (h.count d);
    }
