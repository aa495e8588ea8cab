-- What can be done at a node in its phase.
use Rattle.std.proofs.Common.{◌≡◌, ℕ, ◌-◌, Bool, true, false, not, List, length, ◌↔◌, IsTrue, Option, refl, sym, ap, subst, ◌∙◌, arith, slice_index_or}
use Rattle.std.proofs.lemmas.List.{nil_from_length}
use Rattle.scalar_value.specs.declared.value.Value.{Value}
use Rattle.scalar_value.specs.declared.value.ColType.{ColType}
use Rattle.plan_machine.specs.declared.entry.Phase.{Phase}
use Rattle.plan_machine.specs.declared.entry.Phase.TheVariants.{Emitting, Folding, Streaming, Tailing}
use Rattle.plan_machine.specs.declared.entry.Job.{Job}
use Rattle.plan_machine.specs.declared.entry.Job.TheVariants.{Emit, Fold, Seal, Stream, Close, Tail}
use Rattle.plan_machine.specs.declared.entry.Entry.{Entry}
use Rattle.plan_machine.specs.Batch.{Batch, parts}
use Rattle.plan_machine.specs.Plan.{Plan as MachinePlan, IsNode, folds_from, streams_from}
use Rattle.plan_machine.specs.State.{State, tasks_at, tail_rows, IsEndedEdge}
use Rattle.plan_machine.specs.Enabled.{CanDo}
use Rattle.plan_machine.specs.InFlight.{phase_of}
use Rattle.plan_machine.specs.History.{state_after}
use Rattle.plan_nodes.specs.Operators.{OpMeaning}
use Rattle.task_work.specs.declared.work.Share.{Share}
use Rattle.plan_store.specs.declared.queue.Queue.{Queue}
use Rattle.plan_store.specs.declared.stage.Stage.{Stage}
use Rattle.plan_store.specs.declared.stage.NodeInfo.{NodeInfo}
use Rattle.plan_store.specs.declared.stage.Flight.{Flight}
use Rattle.plan_store.specs.Told.{Given, plan_of}
use Rattle.run_state.specs.Stored.{Stands}
use Rattle.run_state.specs.Choosing.{input_by}
use Rattle.run_state.specs.Legal.{MayDo}
use Rattle.run_state.proofs.Choices.{stage_at, info_at, folds_is}

pub not_false : (b : Bool) → false ≡ not b → b ≡ true
not_false true e = refl
not_false false e = cc

module _ {R : Type 0} (P : MachinePlan R) (s : State R) where
  -- how many batches wait on an edge, and whether it has ended
  pub record Counts (e waiting : ℕ) (ended : Bool) : Type 0 where
    pub count : waiting ≡ length (s.waiting e)
    pub over : IsTrue ended ↔ IsEndedEdge P s e

  module _ (n next count busy : ℕ) (tails paused : Bool) (waiting : ℕ) (ended : Bool) (k : ℕ)
      (next_is : next ≡ s.next n)
      (emits : s.phase n ≡ Emitting → count ≡ parts P.batch (P.node n).table)
      (ends : s.phase n ≡ Tailing → count ≡ parts P.batch (tail_rows P s n))
      (busy_is : busy ≡ length (tasks_at P s n))
      (tails_is : (P.node n).tails ≡ tails)
      (paused_is : paused ≡ s.paused n)
      (folds : s.phase n ≡ Folding → Counts (folds_from P n) waiting ended)
      (streams : s.phase n ≡ Streaming → Counts (streams_from P n) waiting ended)
    where
      pub do_is : (job : Job) → s.phase n ≡ phase_of job → MayDo job next count busy tails paused waiting ended k ↔ CanDo P s n job k
      do_is Emit at = (
        λ m. let e = emits at in let lt = m.1 in (at, sym next_is ∙ m.0, omega arith, sym paused_is ∙ m.2),
        λ c. let e = emits at in let lt = c.2 in (next_is ∙ c.1, omega arith, paused_is ∙ c.3),
      )
      do_is Fold at = (λ m. let e = (folds at).count in (at, omega arith), λ c. let e = (folds at).count in let lt = c.1 in omega arith)
      do_is Seal at = (
        λ m. (at, nil_from_length (tasks_at P s n) (sym busy_is ∙ m.0), (folds at).over.0 m.1, m.2),
        λ c. (busy_is ∙ ap length c.1, (folds at).over.1 c.2, c.3),
      )
      do_is Stream at = (
        λ m. let e = (streams at).count in let lt = m.0 in (at, omega arith, sym paused_is ∙ m.1),
        λ c. let e = (streams at).count in let lt = c.1 in (omega arith, paused_is ∙ c.2),
      )
      do_is Close at = (
        λ m. (at, nil_from_length (tasks_at P s n) (sym busy_is ∙ m.0), (streams at).over.0 m.1, m.2, tails_is ∙ m.3),
        λ c. (busy_is ∙ ap length c.1, (streams at).over.1 c.2, c.3, sym tails_is ∙ c.4),
      )
      do_is Tail at = (
        λ m. let e = ends at in let lt = m.1 in (at, sym next_is ∙ m.0, omega arith, sym paused_is ∙ m.2),
        λ c. let e = ends at in let lt = c.2 in (next_is ∙ c.1, omega arith, paused_is ∙ c.3),
      )

module _ {O S L : Type 0}
    (meaning : O → OpMeaning)
    (local_is : OpMeaning → List ColType → L → List (Batch (List Value)) → Type 0)
    (shared_is : OpMeaning → List (List ColType) → S → List (List Value) → List (Batch (List Value)) → Type 0)
    (g : Given) (es : List Entry) (infos : List NodeInfo) (stages : List Stage) (queues : List Queue) (rows : List (List (Option (Share O S L)))) (seats : List (Option Flight)) (failed : Bool) (flying room capacity : ℕ)
    (h : Stands meaning local_is shared_is g es infos stages queues rows seats failed flying room capacity)
    (sound : (state_after (plan_of g) es).failed ≡ false)
    (n : ℕ) (node : IsNode (plan_of g) n)
    (stage : Stage) (is_stage : stage ≡ slice_index_or stages (n - 1) stage)
    (info : NodeInfo) (is_info : info ≡ slice_index_or infos (n - 1) info)
  where
    pub do_stands : (input waiting : ℕ) (ended paused : Bool) (job : Job) (k : ℕ) (p : Phase) (r : Bool)
        → p ≡ phase_of job → stage.phase ≡ p
        → input ≡ input_by stage.phase info.shape.streams info.first info.second n
        → waiting ≡ length ((state_after (plan_of g) es).waiting input)
        → (IsTrue ended ↔ IsEndedEdge (plan_of g) (state_after (plan_of g) es) input)
        → paused ≡ (state_after (plan_of g) es).paused n
        → (IsTrue r ↔ MayDo job stage.next stage.count stage.busy info.shape.tails paused waiting ended k)
        → IsTrue r ↔ CanDo (plan_of g) (state_after (plan_of g) es) n job k
    do_stands input waiting ended paused job k p r is at at_input w d b does =
        let P = plan_of g in
        let s = state_after P es in
        let st = stage_at meaning local_is shared_is g es infos stages queues rows seats failed flying room capacity h sound n node stage is_stage info is_info in
        let i = info_at meaning local_is shared_is g es infos stages queues rows seats failed flying room capacity h sound n node stage is_stage info is_info in
        let f = folds_is meaning local_is shared_is g es infos stages queues rows seats failed flying room capacity h sound n node stage is_stage info is_info in
        let o : Counts P s input waiting ended = record { count = w; over = d } in
        let x = do_is P s n stage.next stage.count stage.busy info.shape.tails paused waiting ended k st.is_next st.emits st.ends st.busy i.tails b
        (λ a. subst (λ e. Counts P s e waiting ended) (at_input ∙ ap (λ q. input_by q info.shape.streams info.first info.second n) (st.is_phase ∙ a) ∙ f) o)
        (λ a. subst (λ e. Counts P s e waiting ended) (at_input ∙ ap (λ q. input_by q info.shape.streams info.first info.second n) (st.is_phase ∙ a) ∙ sym i.first) o)
        job (sym st.is_phase ∙ at ∙ is) in
        (λ t. x.0 (does.0 t), λ c. does.1 (x.1 c))
