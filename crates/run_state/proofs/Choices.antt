-- What is stored of a node says what can be done first there.
use Rattle.std.proofs.Common.{◌≡◌, ◌≢◌, ℕ, ◌+◌, ◌-◌, ◌<◌, ◌≤◌, Bool, false, cond, List, length, ◌⊎◌, ◌↔◌, IsTrue, inl, inr, Option, refl, sym, ap, subst, ◌∙◌, arith, slice_index_or}
use Rattle.std.proofs.lemmas.Bool.{both_ways, false_from_ne_true}
use Rattle.scalar_value.specs.declared.value.Value.{Value}
use Rattle.scalar_value.specs.declared.value.ColType.{ColType}
use Rattle.plan_machine.specs.declared.entry.Entry.{Entry}
use Rattle.plan_machine.specs.declared.entry.Phase.{Phase}
use Rattle.plan_machine.specs.declared.entry.Phase.TheVariants.{Emitting, Folding, Streaming, Tailing, Sealed, Done}
use Rattle.plan_machine.specs.declared.entry.Job.{Job}
use Rattle.plan_machine.specs.Batch.{Batch}
use Rattle.plan_machine.specs.Plan.{Plan as MachinePlan, IsNode, folds_from}
use Rattle.plan_machine.specs.State.{State, tasks_at, IsEndedEdge, opening}
use Rattle.plan_machine.specs.History.{state_after}
use Rattle.plan_machine.proofs.Weigh.{same_or}
use Rattle.plan_machine.proofs.Turn.{folds_input, streams_input, Started}
use Rattle.plan_machine.proofs.Steps.{run, good-opening}
use Rattle.plan_nodes.specs.Operators.{OpMeaning}
use Rattle.task_work.specs.declared.work.Share.{Share}
use Rattle.plan_store.specs.declared.queue.Queue.{Queue}
use Rattle.plan_store.specs.declared.stage.Stage.{Stage}
use Rattle.plan_store.specs.declared.stage.NodeInfo.{NodeInfo}
use Rattle.plan_store.specs.declared.stage.Flight.{Flight}
use Rattle.plan_store.specs.Told.{Given, plan_of, site_of}
use Rattle.run_state.specs.Stored.{Stands, StageIs, InfoIs}
use Rattle.run_state.specs.Choosing.{job_by, input_by, number_by, NoJob, IsFirstJob}
use Rattle.run_state.proofs.Held.{held_at}
use Rattle.run_state.proofs.Choosing.{Offers, JobIs, job_is}

-- ---- what is stored of a node

from_true : (waits ended : Bool) (P : MachinePlan (List Value)) (s : State (List Value)) (e : ℕ) → (IsTrue waits ↔ (0 < length (s.waiting e))) → (IsTrue ended ↔ IsEndedEdge P s e) → Offers P s e waits ended
from_true waits ended P s e w d =
    record {
      some = w.0;
      none = λ f. none waits f w.1;
      over = d.0;
      going = λ f is. let t = sym f ∙ d.1 is in cc;
    }
  where
    none : (b : Bool) → b ≡ false → (0 < length (s.waiting e) → IsTrue b) → length (s.waiting e) ≡ 0
    none b f back = at (same_or (length (s.waiting e)) 0)
      where
        at : (length (s.waiting e) ≡ 0) ⊎ (length (s.waiting e) ≢ 0) → length (s.waiting e) ≡ 0
        at (inl z) = z
        at (inr nz) = let t = sym f ∙ back (omega arith) in cc

module _ {O S L : Type 0}
    (meaning : O → OpMeaning)
    (local_is : OpMeaning → List ColType → L → List (Batch (List Value)) → Type 0)
    (shared_is : OpMeaning → List (List ColType) → S → List (List Value) → List (Batch (List Value)) → Type 0)
    (g : Given) (es : List Entry) (infos : List NodeInfo) (stages : List Stage) (queues : List Queue) (rows : List (List (Option (Share O S L)))) (seats : List (Option Flight)) (failed : Bool) (flying room capacity : ℕ)
    (h : Stands meaning local_is shared_is g es infos stages queues rows seats failed flying room capacity)
    (sound : (state_after (plan_of g) es).failed ≡ false)
    (n : ℕ) (node : IsNode (plan_of g) n)
    (stage : Stage) (is_stage : stage ≡ slice_index_or stages (n - 1) stage)
    (info : NodeInfo) (is_info : info ≡ slice_index_or infos (n - 1) info)
  where
    pub started : Started (plan_of g) h.lawful h.well (state_after (plan_of g) es)
    started = (run (plan_of g) h.lawful h.well es (opening (plan_of g)) (good-opening (plan_of g) h.lawful h.well) h.legal sound).good.sound.fit.started

    pub stage_at : StageIs (plan_of g) n ((state_after (plan_of g) es).phase n) ((state_after (plan_of g) es).next n) ((state_after (plan_of g) es).built n) ((state_after (plan_of g) es).streamed n) (length (tasks_at (plan_of g) (state_after (plan_of g) es) n)) stage
    stage_at =
        let s = state_after (plan_of g) es in
        let all = h.stored.all_stages in
        held_at (λ m st. StageIs (plan_of g) m (s.phase m) (s.next m) (s.built m) (s.streamed m) (length (tasks_at (plan_of g) s m)) st) stages n stage h.stored.stages_are node.0 (let up = node.1 in omega arith) is_stage

    pub info_at : InfoIs (plan_of g) (site_of g n) n info
    info_at =
        let all = h.stored.all_infos in
        held_at (λ m i. InfoIs (plan_of g) (site_of g m) m i) infos n info h.stored.infos_are node.0 (let up = node.1 in omega arith) is_info

    pub folds_is : cond info.shape.streams info.second info.first ≡ folds_from (plan_of g) n
    folds_is = let a = info_at.streams in let b = info_at.first in let c = info_at.second in rw (a, b, c) refl

    input_at : (p : Phase) → stage.phase ≡ p → IsNode (plan_of g) (input_by p info.shape.streams info.first info.second n)
    input_at Emitting at = node
    input_at Folding at =
        let i = folds_input (plan_of g) h.well n node (started.folding n node (sym stage_at.is_phase ∙ at)) in
        subst (λ e. IsNode (plan_of g) e) (sym folds_is) (i.node, (let b = i.before in let c = node.1 in omega arith))
    input_at Streaming at =
        let i = streams_input (plan_of g) h.well n node (started.streaming n node (sym stage_at.is_phase ∙ at)) in
        subst (λ e. IsNode (plan_of g) e) info_at.first (i.node, (let b = i.before in let c = node.1 in omega arith))
    input_at Tailing at = node
    input_at Sealed at = node
    input_at Done at = node

    pub input_node : (input : ℕ) → input ≡ input_by stage.phase info.shape.streams info.first info.second n → IsNode (plan_of g) input
    input_node input is = subst (λ e. IsNode (plan_of g) e) (sym is) (input_at stage.phase refl)

    -- it gathers, and the input that it gathers has not ended
    pub gathers_stand : (input : ℕ) (ended r : Bool)
        → input ≡ input_by stage.phase info.shape.streams info.first info.second n
        → (IsTrue ended ↔ ((state_after (plan_of g) es).phase input ≡ Done))
        → (IsTrue r ↔ ((stage.phase ≡ Folding) × (ended ≡ false)))
        → IsTrue r ↔ (((state_after (plan_of g) es).phase n ≡ Folding) × ((state_after (plan_of g) es).phase (folds_from (plan_of g) n) ≡ Done → ⊥))
    gathers_stand input ended r at_input over is =
        let s = state_after (plan_of g) es in
        let same : stage.phase ≡ Folding → input ≡ folds_from (plan_of g) n = λ at. at_input ∙ ap (λ p. input_by p info.shape.streams info.first info.second n) at ∙ folds_is in (
          λ t. let m = is.0 t in (sym stage_at.is_phase ∙ m.0, λ d. both_ways ended m.1 (over.1 (ap s.phase (same m.0) ∙ d))),
          λ c. let at = stage_at.is_phase ∙ c.0 in is.1 (at, false_from_ne_true ended (λ t. c.1 (sym (ap s.phase (same at)) ∙ over.0 t))),
        )

    pub job_stands : (input : ℕ) (waits ended paused : Bool) (job : Option Job)
        → input ≡ input_by stage.phase info.shape.streams info.first info.second n
        → (IsTrue waits ↔ (0 < length ((state_after (plan_of g) es).waiting input)))
        → (IsTrue ended ↔ IsEndedEdge (plan_of g) (state_after (plan_of g) es) input)
        → paused ≡ (state_after (plan_of g) es).paused n
        → job ≡ job_by stage.phase stage.next stage.count stage.busy info.shape.tails paused waits ended
        → JobIs (plan_of g) (state_after (plan_of g) es) n stage.next job
    job_stands input waits ended paused job at_input w d b is =
        let P = plan_of g in
        let s = state_after (plan_of g) es in
        let o = from_true waits ended P s input w d in
        subst (λ j. JobIs P s n stage.next j) (sym is)
        (job_is P s n stage.next stage.count stage.busy info.shape.tails paused waits ended
        (record {
          next_is = stage_at.is_next;
          emits = stage_at.emits;
          ends = stage_at.ends;
          busy_is = stage_at.busy;
          tails_is = info_at.tails;
          paused_is = b;
          folds = λ at. subst (λ e. Offers P s e waits ended) (at_input ∙ ap (λ p. input_by p info.shape.streams info.first info.second n) (stage_at.is_phase ∙ at) ∙ folds_is) o;
          streams = λ at. subst (λ e. Offers P s e waits ended) (at_input ∙ ap (λ p. input_by p info.shape.streams info.first info.second n) (stage_at.is_phase ∙ at) ∙ sym info_at.first) o;
        })
        stage.phase stage_at.is_phase)

-- one node more at which nothing can be done
pub none_more : (P : MachinePlan (List Value)) (s : State (List Value)) (k : ℕ) → ((m : ℕ) → IsNode P m → m ≤ k → NoJob P s m) → NoJob P s (k + 1) → (m : ℕ) → IsNode P m → m ≤ k + 1 → NoJob P s m
none_more P s k before here m node low = at (same_or m (k + 1))
  where
    at : (m ≡ k + 1) ⊎ (m ≢ k + 1) → NoJob P s m
    at (inl e) = subst (λ j. NoJob P s j) (sym e) here
    at (inr ne) = before m node (omega arith)

pub number_is : (P : MachinePlan (List Value)) (s : State (List Value)) (n : ℕ) (job : Job) (k next : ℕ) → k ≡ number_by job next → IsFirstJob P s n job (number_by job next) → IsFirstJob P s n job k
number_is P s n job k next is h = subst (λ m. IsFirstJob P s n job m) (sym is) h
