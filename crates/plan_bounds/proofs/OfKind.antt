-- What each kind of node gives is within its bound.
use Rattle.std.proofs.Common.{◌≡◌, ℕ, ◌+◌, ◌*◌, ◌≤◌, true, false, cond, List, length, refl, arith}
use Rattle.std.proofs.lemmas.List.{length-map}
use Rattle.std.proofs.Math.Nat.{mul-le-mul}
use Rattle.scalar_value.specs.declared.value.Value.{Value}
use Rattle.row_table.specs.declared.field.Field.{Field}
use Rattle.row_table.specs.declared.table.Mark.{Mark}
use Rattle.scalar_value.specs.Truths.{is_true}
use Rattle.na_expr.specs.Evaluation.{val}
use Rattle.column_batch.specs.Batches.{kinds_of}
use Rattle.plan_machine.specs.Batch.{parts}
use Rattle.plan_machine.specs.Plan.{Node as MachineNode, IsSource, Folds, OnlyStreams, IsJoin}
use Rattle.plan_machine.specs.Meaning.{whole}
use Rattle.plan_nodes.specs.declared.node.Node.{Node}
use Rattle.plan_nodes.specs.declared.node.NodeKind.{NodeKind}
use Rattle.plan_nodes.specs.declared.node.NodeKind.TheVariants.{Source, Filter, Project, Longer, Aggregate, HashJoin, OrderBy, Fetch, Window, Sink}
use Rattle.plan_nodes.specs.Operators.{first_of, second_of}
use Rattle.plan_nodes.specs.Kinds.{kind_meaning, is_source, is_sink}
use Rattle.plan_nodes.specs.Plans.{machine_node}
use Rattle.plan_nodes.proofs.EachKind.{is_join}
use Rattle.plan_bounds.specs.Bounds.{Bound, of_table, of_kind}
use Rattle.plan_bounds.proofs.Joined.{fewer-filter, fewer-all}
use Rattle.plan_bounds.proofs.Gathered.{fewer-longer, fewer-aggregated, length-ordered, fewer-fetched, length-windowed}

-- no more, in rows and in batches
pub record IsAtMost (x y : Bound) : Type 0 where
  pub rows : x.rows ≤ y.rows
  pub batches : x.batches ≤ y.batches

-- more from the inputs is no less from the node
pub of_kind-more : (kind : NodeKind) (table x y x' y' : Bound) → IsAtMost x x' → IsAtMost y y' → IsAtMost (of_kind kind table x y) (of_kind kind table x' y')
of_kind-more (Source name) table x y x' y' p q = record { rows = omega arith; batches = omega arith }
of_kind-more (Filter e) table x y x' y' p q = p
of_kind-more (Project es) table x y x' y' p q = p
of_kind-more (Longer s) table x y x' y' p q =
    let n : length s.chosen ≤ length s.chosen = omega arith in
    record { rows = mul-le-mul p.rows n; batches = p.batches }
of_kind-more (Aggregate s) table x y x' y' p q = let a = p.rows in record { rows = omega arith; batches = omega arith }
of_kind-more (HashJoin j) table x y x' y' p q =
    let s : y.rows + 1 ≤ y'.rows + 1 = let h = q.rows in omega arith in
    let m : x.rows * (y.rows + 1) ≤ x'.rows * (y'.rows + 1) = mul-le-mul p.rows s in
    let a = p.batches in let b = q.rows in
    record { rows = omega arith; batches = omega arith }
of_kind-more (OrderBy ks) table x y x' y' p q = record { rows = p.rows; batches = p.rows }
of_kind-more (Fetch offset count) table x y x' y' p q = record { rows = p.rows; batches = p.rows }
of_kind-more (Window s) table x y x' y' p q = record { rows = p.rows; batches = p.rows }
of_kind-more Sink table x y x' y' p q = record { rows = omega arith; batches = omega arith }

-- What a budget asks of a node, from what its inputs give.
pub record IsWithin (kind : NodeKind) (v : MachineNode (List Value)) (batch : ℕ) : Type 0 where
  pub rows : is_sink kind ≡ false → (xs ys : List (List Value)) (x y : Bound) → (is_source kind ≡ false → length xs ≤ x.rows) → (is_join kind ≡ true → length ys ≤ y.rows) → length (whole v xs ys) ≤ (of_kind kind (of_table batch v.table) x y).rows
  pub source : IsSource v → (x y : Bound) → parts batch v.table ≤ (of_kind kind (of_table batch v.table) x y).batches
  pub stream : OnlyStreams v → (x y : Bound) → x.batches + cond v.cuts (of_kind kind (of_table batch v.table) x y).rows 0 ≤ (of_kind kind (of_table batch v.table) x y).batches
  pub join : IsJoin v → (x y : Bound) → x.batches + (of_kind kind (of_table batch v.table) x y).rows ≤ (of_kind kind (of_table batch v.table) x y).batches
  pub fold : Folds v → v.streams ≡ false → (x y : Bound) → cond v.tails (of_kind kind (of_table batch v.table) x y).rows 0 ≤ (of_kind kind (of_table batch v.table) x y).batches

abbrev made : NodeKind → List ℕ → Mark → List Field → List (List Field) → ℕ → List (List Value) → MachineNode (List Value)
made kind inputs mark schema given batch table = machine_node (record { kind = kind; inputs = inputs; mark = mark; schema = schema }) (kind_meaning kind given batch) table

of-kind : (kind : NodeKind) (inputs : List ℕ) (mark : Mark) (schema : List Field) (given : List (List Field)) (batch : ℕ) (table : List (List Value)) → IsWithin kind (made kind inputs mark schema given batch table) batch
of-kind (Source name) inputs mark schema given batch table = record {
  rows = λ sink xs ys x y p q. omega arith;
  source = λ s x y. omega arith;
  stream = λ s x y. absurd (cc);
  join = λ s x y. absurd (let a = s.0 in cc);
  fold = λ s t x y. absurd (cc);
}
of-kind (Filter e) inputs mark schema given batch table = record {
  rows = λ sink xs ys x y p q. let a = fewer-filter (λ row. is_true (val row e)) xs in let b = p refl in omega arith;
  source = λ s x y. absurd (cc);
  stream = λ s x y. omega arith;
  join = λ s x y. absurd (let a = s.0 in cc);
  fold = λ s t x y. absurd (cc);
}
of-kind (Project es) inputs mark schema given batch table = record {
  rows = λ sink xs ys x y p q. let b = p refl in rw length-map b;
  source = λ s x y. absurd (cc);
  stream = λ s x y. omega arith;
  join = λ s x y. absurd (let a = s.0 in cc);
  fold = λ s t x y. absurd (cc);
}
of-kind (Longer s) inputs mark schema given batch table = record {
  rows = λ sink xs ys x y p q.
      let a = fewer-longer (first_of given) s xs in
      let n : length s.chosen ≤ length s.chosen = omega arith in
      let b : length xs * length s.chosen ≤ x.rows * length s.chosen = mul-le-mul (p refl) n in
      omega arith;
  source = λ t x y. absurd (cc);
  stream = λ t x y. omega arith;
  join = λ t x y. absurd (let a = t.0 in cc);
  fold = λ t u x y. absurd (cc);
}
of-kind (Aggregate s) inputs mark schema given batch table = record {
  rows = λ sink xs ys x y p q. let a = fewer-aggregated s xs in let b = p refl in omega arith;
  source = λ t x y. absurd (cc);
  stream = λ t x y. absurd (cc);
  join = λ t x y. absurd (let a = t.1 in cc);
  fold = λ t u x y. omega arith;
}
of-kind (HashJoin j) inputs mark schema given batch table = record {
  rows = λ sink xs ys x y p q. fewer-all j (kinds_of (first_of given)) (kinds_of (second_of given)) xs ys x.rows y.rows (p refl) (q refl);
  source = λ s x y. absurd (cc);
  stream = λ s x y. absurd (cc);
  join = λ s x y. omega arith;
  fold = λ s t x y. absurd (cc);
}
of-kind (OrderBy ks) inputs mark schema given batch table = record {
  rows = λ sink xs ys x y p q. let a = length-ordered ks xs in let b = p refl in omega arith;
  source = λ s x y. absurd (cc);
  stream = λ s x y. absurd (cc);
  join = λ s x y. absurd (let a = s.1 in cc);
  fold = λ s t x y. omega arith;
}
of-kind (Fetch offset count) inputs mark schema given batch table = record {
  rows = λ sink xs ys x y p q. let a = fewer-fetched offset count xs in let b = p refl in omega arith;
  source = λ s x y. absurd (cc);
  stream = λ s x y. absurd (cc);
  join = λ s x y. absurd (let a = s.1 in cc);
  fold = λ s t x y. omega arith;
}
of-kind (Window w) inputs mark schema given batch table = record {
  rows = λ sink xs ys x y p q. let a = length-windowed w xs in let b = p refl in omega arith;
  source = λ s x y. absurd (cc);
  stream = λ s x y. absurd (cc);
  join = λ s x y. absurd (let a = s.1 in cc);
  fold = λ s t x y. omega arith;
}
of-kind Sink inputs mark schema given batch table = record {
  rows = λ sink xs ys x y p q. absurd (cc);
  source = λ s x y. absurd (cc);
  stream = λ s x y. absurd (cc);
  join = λ s x y. absurd (let a = s.1 in cc);
  fold = λ s t x y. omega arith;
}

pub within : (v : Node) (given : List (List Field)) (batch : ℕ) (table : List (List Value)) → IsWithin v.kind (machine_node v (kind_meaning v.kind given batch) table) batch
within v given batch table = of-kind v.kind v.inputs v.mark v.schema given batch table
