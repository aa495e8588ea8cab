-- The batches of an operator that keeps them, among the parts of any operator.
use Rattle.std.proofs.Common.{List, [], ◌∷◌, map}
use Rattle.scalar_value.specs.declared.value.Value.{Value}
use Rattle.scalar_value.specs.declared.value.ColType.{ColType}
use Rattle.plan_machine.specs.Batch.{Batch}
use Rattle.plan_nodes.specs.Operators.{Each}
use Rattle.plan_nodes.specs.Examples.{Keeps}
use Rattle.op_set.specs.declared.any.AnyLocal.{AnyLocal}
use Rattle.op_set.specs.declared.any.AnyLocal.TheVariants as local
use Rattle.op_set.specs.Meanings.{PartKeeps, batches_of}

pub parts-kept : (kinds : List ColType) (locals : List AnyLocal) (lists : List (List (Batch (List Value)))) → Each (PartKeeps kinds) locals lists → Each (Keeps kinds) (map batches_of locals) lists
parts-kept kinds [] [] each = tt
parts-kept kinds [] (taken ∷ lists) each = absurd each
parts-kept kinds (part ∷ locals) [] each = absurd each
parts-kept kinds (local.Nothing ∷ locals) (taken ∷ lists) each = absurd each.0
parts-kept kinds (local.Batches part ∷ locals) (taken ∷ lists) each = (each.0, parts-kept kinds locals lists each.1)
