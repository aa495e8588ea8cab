-- Histories that grow by an entry, and what is stored then.
use Rattle.std.proofs.Common.{◌≡◌, ℕ, ◌+◌, ◌≤◌, max, Bool, List, [], ◌∷◌, ◌++◌, length, Option, sym, subst, arith}
use Rattle.std.proofs.Math.Nat.{le-max_right}
use Rattle.std.proofs.lemmas.List.{length-append}
use Rattle.scalar_value.specs.declared.value.Value.{Value}
use Rattle.scalar_value.specs.declared.value.ColType.{ColType}
use Rattle.plan_machine.specs.declared.entry.Entry.{Entry}
use Rattle.plan_machine.specs.Batch.{Batch}
use Rattle.plan_machine.specs.Plan.{Plan as MachinePlan}
use Rattle.plan_machine.specs.State.{State, opening}
use Rattle.plan_machine.specs.Enabled.{Enabled}
use Rattle.plan_machine.specs.After.{after}
use Rattle.plan_machine.specs.History.{replay, state_after, peak}
use Rattle.plan_machine.proofs.DriverHistory.{grows}
use Rattle.plan_nodes.specs.Operators.{OpMeaning}
use Rattle.task_work.specs.declared.work.Share.{Share}
use Rattle.plan_store.specs.declared.queue.Queue.{Queue}
use Rattle.plan_store.specs.declared.stage.Stage.{Stage}
use Rattle.plan_store.specs.declared.stage.NodeInfo.{NodeInfo}
use Rattle.plan_store.specs.declared.stage.Flight.{Flight}
use Rattle.plan_store.specs.Told.{Given, plan_of, site_of}
use Rattle.run_state.specs.Stored.{Stored, Stands, QueueIs, goes_on}
use Rattle.run_state.proofs.Held.{held_map}

-- no more batches wait on an edge than its peak says
pub peak_covers : (P : MachinePlan (List Value)) (es : List Entry) (s : State (List Value)) (e : ℕ) → length ((replay P es s).waiting e) ≤ peak P e es s
unfolding replay peak
peak_covers P [] s e = omega arith
peak_covers P (x ∷ es) s e =
    let h = peak_covers P es (after P s x) e in
    let m = le-max_right (length (s.waiting e)) (peak P e es (after P s x)) in
    omega arith

peak_is : (columns : List ColType) (may : Bool) (places : ℕ) (waiting : List (Batch (List Value))) (paused : Bool) (most most' : ℕ) (q : Queue) → most ≡ most' → QueueIs columns may places waiting paused most q → QueueIs columns may places waiting paused most' q
peak_is columns may places waiting paused most most' q same h = subst (λ m. QueueIs columns may places waiting paused m q) same h

module _ {O S L : Type 0}
    (meaning : O → OpMeaning)
    (local_is : OpMeaning → List ColType → L → List (Batch (List Value)) → Type 0)
    (shared_is : OpMeaning → List (List ColType) → S → List (List Value) → List (Batch (List Value)) → Type 0)
    (g : Given)
  where
    pub with_most : (s : State (List Value)) (most most' : ℕ → ℕ) (infos : List NodeInfo) (stages : List Stage) (queues : List Queue) (rows : List (List (Option (Share O S L)))) (seats : List (Option Flight)) (failed : Bool) (flying : ℕ)
        → ((e : ℕ) → most e ≡ most' e)
        → Stored meaning local_is shared_is g s most infos stages queues rows seats failed flying
        → Stored meaning local_is shared_is g s most' infos stages queues rows seats failed flying
    with_most s most most' infos stages queues rows seats failed flying same st =
        record {
          all_infos = st.all_infos;
          all_stages = st.all_stages;
          all_queues = st.all_queues;
          all_rows = st.all_rows;
          all_seats = st.all_seats;
          infos_are = st.infos_are;
          stages_are = st.stages_are;
          queues_are =
              held_map
              (λ n q. QueueIs (site_of g n).columns (goes_on (plan_of g) n) ((plan_of g).pause + (plan_of g).workers) (s.waiting n) (s.paused n) (most n) q)
              (λ n q. QueueIs (site_of g n).columns (goes_on (plan_of g) n) ((plan_of g).pause + (plan_of g).workers) (s.waiting n) (s.paused n) (most' n) q)
              queues st.queues_are (λ n q h. peak_is (site_of g n).columns (goes_on (plan_of g) n) ((plan_of g).pause + (plan_of g).workers) (s.waiting n) (s.paused n) (most n) (most' n) q (same n) h);
          rows_are = st.rows_are;
          seats_are = st.seats_are;
          failed_is = st.failed_is;
          flying_is = st.flying_is;
        }

    pub standing : (es : List Entry) (x : Entry) (infos infos' : List NodeInfo) (stages stages' : List Stage) (queues queues' : List Queue) (rows rows' : List (List (Option (Share O S L)))) (seats seats' : List (Option Flight)) (failed failed' : Bool) (flying flying' : ℕ) (room room' capacity capacity' : ℕ)
        → Stands meaning local_is shared_is g es infos stages queues rows seats failed flying room capacity
        → Enabled (plan_of g) (state_after (plan_of g) es) x
        → Stored meaning local_is shared_is g (after (plan_of g) (state_after (plan_of g) es) x) (λ e. max (peak (plan_of g) e es (opening (plan_of g))) (length ((after (plan_of g) (state_after (plan_of g) es) x).waiting e))) infos' stages' queues' rows' seats' failed' flying'
        → length es + 1 + flying' + room' ≤ capacity'
        → Stands meaning local_is shared_is g (es ++ x ∷ []) infos' stages' queues' rows' seats' failed' flying' room' capacity'
    standing es x infos infos' stages stages' queues queues' rows rows' seats seats' failed failed' flying flying' room room' capacity capacity' h can st fits =
        let gr = grows (plan_of g) es x (opening (plan_of g)) in
        record {
          planned = h.planned;
          well = h.well;
          lawful = h.lawful;
          sizes = h.sizes;
          legal = gr.legal h.legal can;
          stored =
              with_most (state_after (plan_of g) (es ++ x ∷ [])) _ _ infos' stages' queues' rows' seats' failed' flying' (λ e. sym (gr.peaks e))
              (subst (λ s. Stored meaning local_is shared_is g s (λ e. max (peak (plan_of g) e es (opening (plan_of g))) (length ((after (plan_of g) (state_after (plan_of g) es) x).waiting e))) infos' stages' queues' rows' seats' failed' flying') (sym gr.state) st);
          fits = let e = length-append es (x ∷ []) in omega arith;
        }
