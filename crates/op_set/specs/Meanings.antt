-- What each operator computes, and what its parts stand for.
use Rattle.std.specs.Arc.{arc_value}
use Rattle.std.specs.Prelude.{Bool, true, false, List, []}
use Rattle.scalar_value.specs.declared.value.Value.{Value}
use Rattle.scalar_value.specs.declared.value.ColType.{ColType}
use Rattle.column_batch.specs.Batches.{BatchValue, kinds_of}
use Rattle.plan_machine.specs.Batch.{Batch}
use Rattle.plan_nodes.specs.Operators.{OpMeaning}
use Rattle.plan_nodes.specs.Kinds.{filter_meaning, project_meaning, join_meaning, fetch_meaning, sink_meaning}
use Rattle.plan_nodes.specs.Examples.{Keeps}
use Rattle.order_fetch.specs.Sinks.{HoldsRows}
use Rattle.hash_join.specs.Parts.{HoldsRight}
use Rattle.op_set.specs.declared.any.AnyOp.{AnyOp}
use Rattle.op_set.specs.declared.any.AnyOp.TheVariants as op
use Rattle.op_set.specs.declared.any.AnyLocal.{AnyLocal}
use Rattle.op_set.specs.declared.any.AnyLocal.TheVariants as local
use Rattle.op_set.specs.declared.any.AnyShared.{AnyShared}
use Rattle.op_set.specs.declared.any.AnyShared.TheVariants as shared

abbrev pub meaning_of : AnyOp → OpMeaning
meaning_of (op.Filter o) = filter_meaning o.condition
meaning_of (op.Project o) = project_meaning o.list (kinds_of o.schema)
meaning_of (op.Join o) = join_meaning o.spec (kinds_of o.left) (kinds_of o.right) o.batch
meaning_of (op.Fetch o) = fetch_meaning o.offset o.count o.batch
meaning_of (op.Sink o) = sink_meaning o.batch

-- what is said of the parts of an operator that gathers; those of any other hold nothing
abbrev pub WhereGathered : Bool → Type 0 → Type 0
WhereGathered true P = P
WhereGathered false P = Unit {0}

-- of the operators that gather, a hashjoin streams and the others don't
abbrev pub WhereStreamed : Bool → Type 0 → Type 0 → Type 0
WhereStreamed true P Q = P
WhereStreamed false P Q = Q

abbrev pub PartKeeps : List ColType → AnyLocal → List (Batch (List Value)) → Type 0
PartKeeps kinds local.Nothing taken = ⊥
PartKeeps kinds (local.Batches part) taken = Keeps kinds part taken

-- the rows that it gives at its end, of those that it gathered
abbrev pub EndHolds : OpMeaning → List (List ColType) → AnyShared → List (List Value) → Type 0
EndHolds m inputs shared.Nothing built = ⊥
EndHolds m inputs (shared.Join b) built = ⊥
EndHolds m inputs (shared.Gathered g) built = HoldsRows inputs g.kinds g.rows (m.rest built [])

abbrev pub JoinHolds : OpMeaning → List (List ColType) → AnyShared → List (List Value) → List (Batch (List Value)) → Type 0
JoinHolds m inputs shared.Nothing built streamed = ⊥
JoinHolds m inputs (shared.Join b) built streamed = HoldsRight m inputs (arc_value b.rows) b.ends built streamed
JoinHolds m inputs (shared.Gathered g) built streamed = ⊥

abbrev pub LocalIs : OpMeaning → List ColType → AnyLocal → List (Batch (List Value)) → Type 0
LocalIs m kinds part taken = WhereGathered m.shape.folds (PartKeeps kinds part taken)

abbrev pub SharedIs : OpMeaning → List (List ColType) → AnyShared → List (List Value) → List (Batch (List Value)) → Type 0
SharedIs m inputs part built streamed = WhereGathered m.shape.folds (WhereStreamed m.shape.streams (JoinHolds m inputs part built streamed) (EndHolds m inputs part built))

-- the batches of a part that keeps them
abbrev pub batches_of : AnyLocal → List BatchValue
batches_of local.Nothing = []
batches_of (local.Batches part) = part
