-- What the tests' operator computes, and what the tests give it to work on.
use Rattle.std.specs.Prelude.{◌≡◌, ℕ, ◌<◌, ◌≤◌, true, List, [], ◌∷◌, length, Some, None, pos}
use Rattle.std.specs.Arc.{arc_value}
use Rattle.scalar_value.specs.declared.value.Value.{Value}
use Rattle.scalar_value.specs.declared.value.Value.TheVariants.{Int}
use Rattle.scalar_value.specs.declared.value.ColType.{ColType}
use Rattle.scalar_value.specs.declared.value.ColType.TheVariants as type
use Rattle.column_batch.specs.Batches.{kinds_of}
use Rattle.plan_machine.specs.Batch.{Batch, parts}
use Rattle.plan_nodes.specs.Kinds.{same_kinds}
use Rattle.plan_nodes.specs.Operators.{OpMeaning, first_of}
use Rattle.task_work.specs.Rows.{AreParts}
use Rattle.task_work.specs.declared.work.Work.{Work}
use Rattle.task_work.specs.declared.work.Work.TheVariants as work

-- one column of whole numbers
abbrev pub numbers : List ColType
numbers = type.Int ∷ []

-- The rows that it streams, one in a batch, and at its end a row with 7.
abbrev pub copying : OpMeaning
copying =
    record {
      shape = record { folds = true; streams = true; tails = true };
      wanted = None;
      size = Some 1;
      cuts = true;
      part = λ built rows. rows;
      rest = λ built streamed. (Int (pos 7) ∷ []) ∷ [];
      fits = λ inputs. same_kinds numbers (first_of inputs);
      columns = λ inputs. numbers;
    }

-- Its parts hold the batches that they took; no clause says so.
abbrev pub AnyLocal : {L : Type 0} → OpMeaning → List ColType → L → List (Batch (List Value)) → Type 0
AnyLocal m kinds l taken = Unit {0}

abbrev pub AnyShared : {S : Type 0} → OpMeaning → List (List ColType) → S → List (List Value) → List (Batch (List Value)) → Type 0
AnyShared m inputs s built streamed = Unit {0}

-- work on columns of these types
abbrev pub IsExample : {O S L : Type 0} → ℕ → Work O S L → Type 0
IsExample size (work.Emit table number) = (kinds_of (arc_value table).schema ≡ numbers) × (number < parts size (arc_value table).rows)
IsExample size (work.Fold part batch) = batch.kinds ≡ numbers
IsExample size (work.Seal row) = AreParts row.items × (1 ≤ length row.items)
IsExample size (work.Stream part batch from) = batch.kinds ≡ numbers
IsExample size (work.Close row) = AreParts row.items × (1 ≤ length row.items)
IsExample size (work.Tail part number) = number ≡ 0
