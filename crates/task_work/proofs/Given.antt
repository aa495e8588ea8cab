-- The tests' work is work on a site.
use Rattle.std.proofs.Common.{◌≡◌, ℕ, ◌<◌, Bool, true, false, List, [], ◌∷◌, length, refl, subst, sym, inl, lit<}
use Rattle.std.specs.Prelude.{Option, Some, None}
use Rattle.std.specs.Arc.{arc_value}
use Rattle.scalar_value.specs.declared.value.Value.{Value}
use Rattle.plan_machine.specs.declared.entry.Job.{Job}
use Rattle.plan_machine.specs.declared.entry.Job.TheVariants as job
use Rattle.plan_machine.specs.Batch.{Batch, blank}
use Rattle.plan_machine.specs.State.{Task}
use Rattle.plan_nodes.specs.Operators.{Each, flat, item, end_count}
use Rattle.task_work.specs.declared.work.Part.{Part}
use Rattle.task_work.specs.declared.work.Share.{Share}
use Rattle.task_work.specs.declared.work.Share.TheVariants as share
use Rattle.task_work.specs.declared.work.Work.{Work}
use Rattle.task_work.specs.declared.work.Work.TheVariants as work
use Rattle.task_work.specs.Rows.{AreParts}
use Rattle.task_work.specs.Sites.{Site}
use Rattle.task_work.specs.Work.{IsShared, IsPart, IsPartOf, IsRow, IsWork}
use Rattle.task_work.specs.Examples.{numbers, copying, AnyLocal, AnyShared, IsExample}

abbrev site : Bool → ℕ → Bool → List (List Value) → ℕ → Site
site kept size source table workers =
    record { source = source; table = table; meaning = copying; inputs = numbers ∷ numbers ∷ []; columns = numbers; kept = kept; batch = size; workers = workers }

abbrev task : Job → ℕ → Batch (List Value) → Task (List Value)
task kind number batch = record { node = 1; job = kind; number = number; batch = batch; took = []; built = []; streamed = [] }

module _ (O S L : Type 0) (kept : Bool) (size : ℕ) where
  any_shared : (workers : ℕ) (p : Part O S L) → IsShared (λ o. copying) AnyLocal AnyShared (site kept size false [] workers) [] [] p
  any_shared workers p = record { source = refl; op = refl; fits = refl; columns = refl; shared = tt }

  any_part : (workers : ℕ) (p : Part O S L) → IsPart (λ o. copying) AnyLocal AnyShared (site kept size false [] workers) numbers [] [] [] p
  any_part workers p = record { is_shared = any_shared workers p; local = tt }

  abbrev empties : List (Option (Share O S L)) → List (List (Batch (List Value)))
  empties [] = []
  empties (x ∷ xs) = [] ∷ empties xs

  flat-empties : (row : List (Option (Share O S L))) → flat (empties row) ≡ []
  flat-empties [] = refl
  flat-empties (x ∷ xs) = flat-empties xs

  any_parts : (workers : ℕ) (row : List (Option (Share O S L))) → AreParts row → Each (IsPartOf (λ o. copying) AnyLocal AnyShared (site kept size false [] workers) numbers [] []) row (empties row)
  any_parts workers [] h = tt
  any_parts workers (None ∷ row) h = absurd h
  any_parts workers (Some (share.Table t) ∷ row) h = absurd h
  any_parts workers (Some (share.Part p) ∷ row) h = (any_part workers p, any_parts workers row h)

  any_row : (row : List (Option (Share O S L))) → AreParts row → IsRow (λ o. copying) AnyLocal AnyShared (site kept size false [] (length row)) numbers [] [] [] row
  any_row row h = record { lists = empties row; parts = any_parts (length row) row h; all = flat-empties row; workers = refl }

  pub example_works : (w : Work O S L) → IsExample size w → (v : Site) × (t : Task (List Value)) × (v.kept ≡ kept) × (v.batch ≡ size) × IsWork (λ o. copying) AnyLocal AnyShared v t w
  example_works (work.Emit table number) h =
      (site kept size true (arc_value table).rows 1, task job.Emit number blank, refl, refl, (refl, record { source = refl; rows = refl; columns = h.0 }, refl, h.1))
  example_works (work.Fold part batch) h =
      (site kept size false [] 1, task job.Fold 0 (item batch 0), refl, refl, (refl, any_part 1 part, record { folds = refl; batch = refl; columns = h }))
  example_works (work.Seal row) h =
      (site kept size false [] (length row.items), task job.Seal 0 blank, refl, refl, (refl, any_row row.items h.0, h.1, refl))
  example_works (work.Stream part batch from) h =
      (site kept size false [] 1, task job.Stream 0 (item batch from), refl, refl, (refl, any_part 1 part, record { streams = refl; batch = refl; columns = h; starts = inl refl }))
  example_works (work.Close row) h =
      (site kept size false [] (length row.items), task job.Close 0 blank, refl, refl, (refl, any_row row.items h.0, h.1, refl, refl))
  example_works (work.Tail part number) h =
      let one : 0 < 1 = lit< tt in
      (site kept size false [] 1, task job.Tail number blank, refl, refl, (refl, any_shared 1 part, refl, inl refl, subst (λ k. k < end_count copying [] []) (sym h) one))
