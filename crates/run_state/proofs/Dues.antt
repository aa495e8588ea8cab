-- When a node may end, by what is stored of it.
use Rattle.std.proofs.Common.{◌≡◌, ℕ, ◌-◌, Bool, false, not, nat_eq, List, length, ◌↔◌, IsTrue, Option, refl, sym, ap, subst, ◌∙◌, slice_index_or, eqb-true, eq-eqb}
use Rattle.std.proofs.lemmas.List.{nil_from_length}
use Rattle.scalar_value.specs.declared.value.Value.{Value}
use Rattle.scalar_value.specs.declared.value.ColType.{ColType}
use Rattle.plan_machine.specs.declared.entry.Phase.{Phase}
use Rattle.plan_machine.specs.declared.entry.Phase.TheVariants.{Emitting, Folding, Streaming, Tailing, Sealed, Done}
use Rattle.plan_machine.specs.declared.entry.Entry.{Entry}
use Rattle.plan_machine.specs.declared.entry.Entry.TheVariants.{Finish}
use Rattle.plan_machine.specs.Batch.{Batch, parts}
use Rattle.plan_machine.specs.Plan.{Plan as MachinePlan, IsNode, streams_from}
use Rattle.plan_machine.specs.State.{State, tasks_at, tail_rows, IsIdle, IsEndedEdge}
use Rattle.plan_machine.specs.Enabled.{Enabled, MayFinish}
use Rattle.plan_machine.specs.History.{state_after}
use Rattle.plan_nodes.specs.Operators.{OpMeaning}
use Rattle.task_work.specs.declared.work.Share.{Share}
use Rattle.plan_store.specs.declared.queue.Queue.{Queue}
use Rattle.plan_store.specs.declared.stage.Stage.{Stage}
use Rattle.plan_store.specs.declared.stage.NodeInfo.{NodeInfo}
use Rattle.plan_store.specs.declared.stage.Flight.{Flight}
use Rattle.plan_store.specs.Told.{Given, plan_of}
use Rattle.run_state.specs.Stored.{Stands}
use Rattle.run_state.specs.Choosing.{input_by}
use Rattle.run_state.specs.Due.{left_by, finish_by}
use Rattle.run_state.proofs.Choosing.{and_left, and_right, and_both, not_true}
use Rattle.run_state.proofs.Choices.{stage_at, info_at}

module _ {R : Type 0} (P : MachinePlan R) (s : State R) (n next count busy : ℕ) (tails ended : Bool)
    (next_is : next ≡ s.next n)
    (emits : s.phase n ≡ Emitting → count ≡ parts P.batch (P.node n).table)
    (ends : s.phase n ≡ Tailing → count ≡ parts P.batch (tail_rows P s n))
    (busy_is : busy ≡ length (tasks_at P s n))
    (tails_is : (P.node n).tails ≡ tails)
    (ended_is : s.phase n ≡ Streaming → IsTrue ended ↔ IsEndedEdge P s (streams_from P n))
  where
    left_is : (p : Phase) → s.phase n ≡ p → IsTrue (left_by p next count tails ended) ↔ MayFinish P s n p
    left_is Emitting at = (λ t. sym next_is ∙ eqb-true next count t ∙ emits at, λ m. eq-eqb next count (next_is ∙ m ∙ sym (emits at)))
    left_is Folding at = (λ t. cc, λ m. absurd m)
    left_is Streaming at = (
      λ t. (tails_is ∙ not_true tails (and_left (not tails) ended t), (ended_is at).0 (and_right (not tails) ended t)),
      λ m. and_both (not tails) ended (ap not (sym tails_is ∙ m.0)) ((ended_is at).1 m.1),
    )
    left_is Tailing at = (λ t. sym next_is ∙ eqb-true next count t ∙ ends at, λ m. eq-eqb next count (next_is ∙ m ∙ sym (ends at)))
    left_is Sealed at = (λ t. tt, λ m. refl)
    left_is Done at = (λ t. cc, λ m. absurd m)

    pub finish_is : (p : Phase) → s.phase n ≡ p → IsTrue (finish_by p next count busy tails ended) ↔ (IsIdle P s n × MayFinish P s n p)
    finish_is p at =
        let l = left_is p at in (
          λ t.
              let z = eqb-true busy 0 (and_left (nat_eq busy 0) (left_by p next count tails ended) t) in
              (nil_from_length (tasks_at P s n) (sym busy_is ∙ z), l.0 (and_right (nat_eq busy 0) (left_by p next count tails ended) t)),
          λ m. and_both (nat_eq busy 0) (left_by p next count tails ended) (eq-eqb busy 0 (busy_is ∙ ap length m.0)) (l.1 m.1),
        )

module _ {O S L : Type 0}
    (meaning : O → OpMeaning)
    (local_is : OpMeaning → List ColType → L → List (Batch (List Value)) → Type 0)
    (shared_is : OpMeaning → List (List ColType) → S → List (List Value) → List (Batch (List Value)) → Type 0)
    (g : Given) (es : List Entry) (infos : List NodeInfo) (stages : List Stage) (queues : List Queue) (rows : List (List (Option (Share O S L)))) (seats : List (Option Flight)) (failed : Bool) (flying room capacity : ℕ)
    (h : Stands meaning local_is shared_is g es infos stages queues rows seats failed flying room capacity)
    (sound : (state_after (plan_of g) es).failed ≡ false)
    (n : ℕ) (node : IsNode (plan_of g) n)
    (stage : Stage) (is_stage : stage ≡ slice_index_or stages (n - 1) stage)
    (info : NodeInfo) (is_info : info ≡ slice_index_or infos (n - 1) info)
  where
    pub finish_stands : (input : ℕ) (ended r : Bool)
        → input ≡ input_by stage.phase info.shape.streams info.first info.second n
        → (IsTrue ended ↔ IsEndedEdge (plan_of g) (state_after (plan_of g) es) input)
        → r ≡ finish_by stage.phase stage.next stage.count stage.busy info.shape.tails ended
        → IsTrue r ↔ Enabled (plan_of g) (state_after (plan_of g) es) (Finish n)
    finish_stands input ended r at_input d is =
        let P = plan_of g in
        let s = state_after P es in
        let st = stage_at meaning local_is shared_is g es infos stages queues rows seats failed flying room capacity h sound n node stage is_stage info is_info in
        let i = info_at meaning local_is shared_is g es infos stages queues rows seats failed flying room capacity h sound n node stage is_stage info is_info in
        let f = finish_is P s n stage.next stage.count stage.busy info.shape.tails ended st.is_next st.emits st.ends st.busy i.tails
        (λ at. subst (λ e. IsTrue ended ↔ IsEndedEdge P s e) (at_input ∙ ap (λ p. input_by p info.shape.streams info.first info.second n) (st.is_phase ∙ at) ∙ sym i.first) d)
        (s.phase n) refl in
        let same : r ≡ finish_by (s.phase n) stage.next stage.count stage.busy info.shape.tails ended = is ∙ ap (λ p. finish_by p stage.next stage.count stage.busy info.shape.tails ended) st.is_phase in
        (λ t. let m = f.0 (sym same ∙ t) in (sound, node, m.0, m.1), λ e. same ∙ f.1 (e.2, e.3))
