-- A claim that was chosen gives the work of its task.
use Rattle.std.proofs.Common.{◌≡◌, ℕ, Bool, List, Option, Some, Vec, sym, ap, subst, ◌∙◌, inl, inr, arith}
use Rattle.std.specs.declared.alloc.Global.{Global}
use Rattle.std.specs.declared.sync.Arc.{Arc}
use Rattle.scalar_value.specs.declared.value.Value.{Value}
use Rattle.scalar_value.specs.declared.value.ColType.{ColType}
use Rattle.row_table.specs.Tables.{TableValue}
use Rattle.plan_machine.specs.declared.entry.Job.{Job}
use Rattle.plan_machine.specs.declared.entry.Job.TheVariants as job
use Rattle.plan_machine.specs.declared.entry.Entry.TheVariants.{Claim}
use Rattle.plan_machine.specs.Batch.{Batch}
use Rattle.plan_machine.specs.Enabled.{Enabled}
use Rattle.plan_machine.specs.Driver.{IsClaimChoice, place_of}
use Rattle.plan_machine.specs.History.{IsHistory}
use Rattle.plan_machine.specs.WellFormed.{Lawful, WellFormed}
use Rattle.plan_nodes.specs.Operators.{OpMeaning}
use Rattle.plan_nodes.specs.Plans.{IsPlan}
use Rattle.task_work.specs.declared.work.Part.{Part}
use Rattle.task_work.specs.declared.work.Share.{Share}
use Rattle.task_work.specs.declared.work.Share.TheVariants as share
use Rattle.task_work.specs.declared.work.Work.{Work}
use Rattle.task_work.specs.declared.work.Work.TheVariants as work
use Rattle.task_work.specs.declared.work.Waiting.{Waiting}
use Rattle.plan_store.specs.declared.queue.Queue.{Queue}
use Rattle.plan_store.specs.declared.stage.Stage.{Stage}
use Rattle.plan_store.specs.declared.stage.NodeInfo.{NodeInfo}
use Rattle.plan_store.specs.declared.stage.Flight.{Flight}
use Rattle.plan_store.specs.Told.{Told, plan_of, state_of, with_entry}
use Rattle.run_state.specs.Stored.{Stands}
use Rattle.run_state.specs.Claiming.{IsShareOf, IsRowOf, IsOldest, IsWorkOf, HasTable, HasPart}
use Rattle.run_state.proofs.Working.{table_there, folded_there, streamed_there, tailed_there, emit_work, fold_work, seal_work, stream_work, close_work, tail_work}

-- what is always known of what a plan's state tells
pub record Run (told : Told) : Type 0 where
  pub planned : IsPlan told.given.nodes
  pub well : WellFormed (plan_of told.given)
  pub lawful : Lawful (plan_of told.given)
  pub legal : IsHistory (plan_of told.given) told.history

module _ {O S L : Type 0}
    (meaning : O → OpMeaning)
    (local_is : OpMeaning → List ColType → L → List (Batch (List Value)) → Type 0)
    (shared_is : OpMeaning → List (List ColType) → S → List (List Value) → List (Batch (List Value)) → Type 0)
  where
    pub run_of : (told : Told) (infos : List NodeInfo) (stages : List Stage) (queues : List Queue) (rows : List (List (Option (Share O S L)))) (seats : List (Option Flight)) (failed : Bool) (flying capacity : ℕ)
        → Stands meaning local_is shared_is told.given told.history infos stages queues rows seats failed flying told.room capacity → Run told
    run_of told infos stages queues rows seats failed flying capacity h = record { planned = h.planned; well = h.well; lawful = h.lawful; legal = h.legal }

    module _ (told : Told) (r : Run told) (w : ℕ) (f : Flight) (chosen : IsClaimChoice (plan_of told.given) (state_of told) w f.node f.job f.number) where
      can_as : (j : Job) → f.job ≡ j → Enabled (plan_of told.given) (state_of told) (Claim w f.node j f.number)
      can_as j e = subst (λ x. Enabled (plan_of told.given) (state_of told) (Claim w f.node x f.number)) e chosen.0

      named : (j : Job) (now : Told) (x : Work O S L) → f.job ≡ j → now ≡ with_entry told (Claim w f.node f.job f.number) 2
          → IsWorkOf meaning local_is shared_is (with_entry told (Claim w f.node j f.number) 2) w f.node x → IsWorkOf meaning local_is shared_is now w f.node x
      named j now x e is h = subst (λ t. IsWorkOf meaning local_is shared_is t w f.node x) (sym (is ∙ ap (λ y. with_entry told (Claim w f.node y f.number) 2) e)) h

      least : (j : Job) → f.job ≡ j → Enabled (plan_of told.given) (state_of told) (Claim w f.node j 0) → f.number ≡ 0
      least j e can = elim (chosen.1 f.node j 0 can) [
        | inl lt ↦ absurd (omega arith)
        | inr x ↦ elim x.1 [ inl lt ↦ (let same = ap place_of e in absurd (omega arith)) | inr y ↦ (let z = y.1 in omega arith) ]
      ]

      pub fold_first : f.job ≡ job.Fold → f.number ≡ 0
      fold_first e = let c = can_as job.Fold e in least job.Fold e (c.0, (c.1.0, let k = c.1.1 in omega arith))

      pub stream_first : f.job ≡ job.Stream → f.number ≡ 0
      stream_first e = let c = can_as job.Stream e in least job.Stream e (c.0, (c.1.0, (let k = c.1.1 in omega arith), c.1.2))

      pub has_table : f.job ≡ job.Emit → (slot : Option (Share O S L)) → IsShareOf meaning local_is shared_is told w f.node slot → HasTable slot
      has_table e slot h = let x = table_there meaning local_is shared_is told r.planned r.well r.lawful r.legal w f.node (can_as job.Emit e).1.0 slot h in (x.0, x.1)

      pub fold_has : f.job ≡ job.Fold → (slot : Option (Share O S L)) → IsShareOf meaning local_is shared_is told w f.node slot → HasPart slot
      fold_has e slot h = let x = folded_there meaning local_is shared_is told r.planned r.well r.lawful r.legal w f.node (can_as job.Fold e).1.0 slot h in (x.0, x.1)

      pub stream_has : f.job ≡ job.Stream → (slot : Option (Share O S L)) → IsShareOf meaning local_is shared_is told w f.node slot → HasPart slot
      stream_has e slot h = let x = streamed_there meaning local_is shared_is told r.planned r.well r.lawful r.legal w f.node (can_as job.Stream e).1.0 slot h in (x.0, x.1)

      pub tail_has : f.job ≡ job.Tail → (slot : Option (Share O S L)) → IsShareOf meaning local_is shared_is told w f.node slot → HasPart slot
      tail_has e slot h = let x = tailed_there meaning local_is shared_is told r.planned r.well r.lawful r.legal w f.node (can_as job.Tail e).1.0 slot h in (x.0, x.1)

      pub emitting : f.job ≡ job.Emit → (slot : Option (Share O S L)) (table : Arc TableValue Global) (now : Told)
          → IsShareOf meaning local_is shared_is told w f.node slot → slot ≡ Some (share.Table table) → now ≡ with_entry told (Claim w f.node f.job f.number) 2
          → IsWorkOf meaning local_is shared_is now w f.node (work.Emit table f.number)
      emitting e slot table now h is at = named job.Emit now (work.Emit table f.number) e at (emit_work meaning local_is shared_is told r.planned r.well r.lawful r.legal w f.node f.number (can_as job.Emit e) slot table is h)

      pub tailing : f.job ≡ job.Tail → (slot : Option (Share O S L)) (part : Part O S L) (now : Told)
          → IsShareOf meaning local_is shared_is told w f.node slot → slot ≡ Some (share.Part part) → now ≡ with_entry told (Claim w f.node f.job f.number) 2
          → IsWorkOf meaning local_is shared_is now w f.node (work.Tail part f.number)
      tailing e slot part now h is at = named job.Tail now (work.Tail part f.number) e at (tail_work meaning local_is shared_is told r.planned r.well r.lawful r.legal w f.node f.number (can_as job.Tail e) slot part is h)

      pub folding : f.job ≡ job.Fold → (slot : Option (Share O S L)) (part : Part O S L) (x : Waiting) (now : Told)
          → IsShareOf meaning local_is shared_is told w f.node slot → IsOldest told f.node x → slot ≡ Some (share.Part part) → now ≡ with_entry told (Claim w f.node f.job f.number) 2
          → IsWorkOf meaning local_is shared_is now w f.node (work.Fold part x.batch)
      folding e slot part x now h o is at = named job.Fold now (work.Fold part x.batch) e at (fold_work meaning local_is shared_is told r.planned r.well r.lawful r.legal w f.node f.number (fold_first e) (can_as job.Fold e) slot part x is h o)

      pub streaming : f.job ≡ job.Stream → (slot : Option (Share O S L)) (part : Part O S L) (x : Waiting) (now : Told)
          → IsShareOf meaning local_is shared_is told w f.node slot → IsOldest told f.node x → slot ≡ Some (share.Part part) → now ≡ with_entry told (Claim w f.node f.job f.number) 2
          → IsWorkOf meaning local_is shared_is now w f.node (work.Stream part x.batch x.from)
      streaming e slot part x now h o is at = named job.Stream now (work.Stream part x.batch x.from) e at (stream_work meaning local_is shared_is told r.planned r.well r.lawful r.legal w f.node f.number (stream_first e) (can_as job.Stream e) slot part x is h o)

      pub sealing : f.job ≡ job.Seal → (row : Vec (Option (Share O S L)) Global) (now : Told)
          → IsRowOf meaning local_is shared_is told f.node row.items → now ≡ with_entry told (Claim w f.node f.job f.number) 2
          → IsWorkOf meaning local_is shared_is now w f.node (work.Seal row)
      sealing e row now h at = named job.Seal now (work.Seal row) e at (seal_work meaning local_is shared_is told r.planned r.well r.lawful r.legal w f.node f.number (can_as job.Seal e) row h)

      pub closing : f.job ≡ job.Close → (row : Vec (Option (Share O S L)) Global) (now : Told)
          → IsRowOf meaning local_is shared_is told f.node row.items → now ≡ with_entry told (Claim w f.node f.job f.number) 2
          → IsWorkOf meaning local_is shared_is now w f.node (work.Close row)
      closing e row now h at = named job.Close now (work.Close row) e at (close_work meaning local_is shared_is told r.planned r.well r.lawful r.legal w f.node f.number (can_as job.Close e) row h)
