-- A row of all workers' parts, taken apart and made anew.
use Rattle.std.specs.Prelude.{◌≡◌, List, [], ◌∷◌, Option, Some, None}
use Rattle.std.specs.Arc.{arc_value}
use Rattle.scalar_value.specs.declared.value.Value.{Value}
use Rattle.scalar_value.specs.declared.value.ColType.{ColType}
use Rattle.plan_machine.specs.Batch.{Batch}
use Rattle.plan_nodes.specs.Operators.{OpMeaning}
use Rattle.task_work.specs.declared.work.Part.{Part}
use Rattle.task_work.specs.declared.work.Share.{Share}
use Rattle.task_work.specs.declared.work.Share.TheVariants as share
use Rattle.task_work.specs.declared.row.Shares.{Shares}

module _ {O S L : Type 0} where
  -- each worker's share is a part
  abbrev pub AreParts : List (Option (Share O S L)) → Type 0
  AreParts [] = Unit {0}
  AreParts (None ∷ row) = ⊥
  AreParts (Some (share.Table t) ∷ row) = ⊥
  AreParts (Some (share.Part p) ∷ row) = AreParts row

  -- the shares of the operator and of what all share, and the local parts
  abbrev pub shares_of : List (Option (Share O S L)) → List (Shares O S)
  shares_of [] = []
  shares_of (None ∷ row) = shares_of row
  shares_of (Some (share.Table t) ∷ row) = shares_of row
  shares_of (Some (share.Part p) ∷ row) = record { op = p.op; shared = p.shared } ∷ shares_of row

  abbrev pub locals_of : List (Option (Share O S L)) → List L
  locals_of [] = []
  locals_of (None ∷ row) = locals_of row
  locals_of (Some (share.Table t) ∷ row) = locals_of row
  locals_of (Some (share.Part p) ∷ row) = p.local ∷ locals_of row

  -- a new part: the share of the operator, a share of what was made, and a local part that stands for no batch
  pub record IsNew (meaning : O → OpMeaning) (local_is : OpMeaning → List ColType → L → List (Batch (List Value)) → Type 0) (made : S) (old : Shares O S) (p : Part O S L) : Type 0 where
    pub op : p.op ≡ old.op
    pub shared : arc_value p.shared ≡ made
    pub local : (kinds : List ColType) → local_is (meaning (arc_value p.op)) kinds p.local []

  abbrev pub IsNewOf : (O → OpMeaning) → (OpMeaning → List ColType → L → List (Batch (List Value)) → Type 0) → S → Shares O S → Option (Share O S L) → Type 0
  IsNewOf meaning local_is made old None = ⊥
  IsNewOf meaning local_is made old (Some (share.Table t)) = ⊥
  IsNewOf meaning local_is made old (Some (share.Part p)) = IsNew meaning local_is made old p
