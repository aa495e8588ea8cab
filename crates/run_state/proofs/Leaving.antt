-- A worker's task ends, and with it the run.
use Rattle.std.proofs.Common.{◌≡◌, ◌≢◌, ℕ, suc, ◌+◌, ◌-◌, ◌<◌, ◌≤◌, Bool, true, nat_eq, List, [], ◌∷◌, ◌++◌, length, inl, inr, Option, Some, None, refl, sym, ap, subst, ◌∙◌, arith, slice_index_or, slice_set}
use Rattle.scalar_value.specs.declared.value.Value.{Value}
use Rattle.scalar_value.specs.declared.value.ColType.{ColType}
use Rattle.plan_machine.specs.declared.entry.Phase.{Phase}
use Rattle.plan_machine.specs.declared.entry.Entry.{Entry}
use Rattle.plan_machine.specs.declared.entry.Entry.TheVariants.{Fail}
use Rattle.plan_machine.specs.Lists.{upd, sum_to}
use Rattle.plan_machine.specs.Batch.{Batch}
use Rattle.plan_machine.specs.Plan.{Plan as MachinePlan, IsNode, IsWorker}
use Rattle.plan_machine.specs.State.{State, Task, on_node, opening}
use Rattle.plan_machine.specs.Enabled.{HasTask}
use Rattle.plan_machine.specs.After.{after}
use Rattle.plan_machine.specs.History.{state_after, peak}
use Rattle.plan_machine.proofs.Weigh.{weigh-one, upd-here, upd-else}
use Rattle.plan_machine.proofs.Flight.{flying as tasks_of, flying-same, flying-less, on_node-else}
use Rattle.plan_machine.proofs.Cost.{sum-upd}
use Rattle.plan_nodes.specs.Operators.{OpMeaning}
use Rattle.task_work.specs.Sites.{Site}
use Rattle.task_work.specs.declared.work.Share.{Share}
use Rattle.plan_store.specs.declared.queue.Queue.{Queue}
use Rattle.plan_store.specs.declared.stage.Stage.{Stage}
use Rattle.plan_store.specs.declared.stage.NodeInfo.{NodeInfo}
use Rattle.plan_store.specs.declared.stage.Flight.{Flight}
use Rattle.plan_store.specs.Told.{Given, plan_of, site_of}
use Rattle.run_state.specs.Stored.{Stored, Stands, StageIs, RowIs, SeatIs, in_flight}
use Rattle.plan_store.specs.Putting.{less_busy}
use Rattle.std.proofs.lemmas.List.{length-set}
use Rattle.run_state.proofs.Held.{held_set, held_map}
use Rattle.plan_store.proofs.At.{some_of}
use Rattle.run_state.proofs.Growing.{with_most, standing}
use Rattle.run_state.proofs.Pausing.{most_stays}
use Rattle.run_state.proofs.Seated.{seated}

seat_node : (task : Option (Task (List Value))) (seat : Option Flight) (t : Task (List Value)) (f : Flight) → task ≡ Some t → seat ≡ Some f → SeatIs task seat → f.node ≡ t.node
seat_node None seat t f e q h = cc
seat_node (Some u) None t f e q h = cc
seat_node (Some u) (Some x) t f e q h = let a : u ≡ t = cc in let b : x ≡ f = cc in sym (ap (λ (y : Flight). y.node) b) ∙ (h.0 ∙ ap (λ (y : Task (List Value)). y.node) a)

-- fewer tasks at one node, and as many at any other
fewer_here : (P : MachinePlan (List Value)) (ts : ℕ → Option (Task (List Value))) (w : ℕ) (t : Task (List Value)) (n : ℕ) → IsWorker P w → ts w ≡ Some t → t.node ≡ n → length (tasks_of P ts n) ≡ length (tasks_of P (upd ts w None) n) + 1
fewer_here P ts w t n i busy e =
    let a = flying-less P (λ _. 1) ts w t n i busy e in
    let b = weigh-one (tasks_of P ts n) in
    let c = weigh-one (tasks_of P (upd ts w None) n) in
    omega arith

same_else : (P : MachinePlan (List Value)) (ts : ℕ → Option (Task (List Value))) (w : ℕ) (t : Task (List Value)) (n : ℕ) → ts w ≡ Some t → n ≢ t.node → length (tasks_of P ts n) ≡ length (tasks_of P (upd ts w None) n)
same_else P ts w t n busy ne = ap length (flying-same P ts w None n (ap (on_node P n) busy ∙ on_node-else P n t (λ e. ne (sym e))))

pub flying_less : (n w : ℕ) (ts : ℕ → Option (Task (List Value))) (t : Task (List Value)) → 1 ≤ w → w ≤ n → ts w ≡ Some t → sum_to n (λ j. in_flight (ts j)) ≡ sum_to n (λ j. in_flight (upd ts w None j)) + 1
flying_less n w ts t lo hi busy =
    let a = sum-upd n w (λ (j : ℕ) (o : Option (Task (List Value))). in_flight o) ts None lo hi in
    let b = ap in_flight busy in
    omega arith

stage_less : (P : MachinePlan (List Value)) (n : ℕ) (phase : Phase) (next : ℕ) (built : List (List Value)) (streamed : List (Batch (List Value))) (many few : ℕ) (st : Stage)
    → many ≡ few + 1 → StageIs P n phase next built streamed many st → StageIs P n phase next built streamed few (less_busy st)
stage_less P n phase next built streamed many few st e h =
    record { is_phase = h.is_phase; is_next = h.is_next; emits = h.emits; ends = h.ends; busy = let b = h.busy in omega arith }

module _ {O S L : Type 0}
    (meaning : O → OpMeaning)
    (local_is : OpMeaning → List ColType → L → List (Batch (List Value)) → Type 0)
    (shared_is : OpMeaning → List (List ColType) → S → List (List Value) → List (Batch (List Value)) → Type 0)
  where
    -- after a Fail no share needs to be there
    row_failed : (v : Site) (last failed : Bool) (q : Phase) (locals : ℕ → List (Batch (List Value))) (built : List (List Value)) (streamed : List (Batch (List Value))) (tasks tasks' : ℕ → Option (Task (List Value))) (n : ℕ) (row : List (Option (Share O S L)))
        → RowIs meaning local_is shared_is v last failed q locals built streamed tasks n row → RowIs meaning local_is shared_is v last true q locals built streamed tasks' n row
    row_failed v last failed q locals built streamed tasks tasks' n row h =
        record {
          size = elim h.size [ inl e ↦ inl e | inr e ↦ inr (e.0, λ sound live. cc) ];
          slots = λ k lt. record { stands = (h.slots k lt).stands; here = λ sound live none. cc };
        }

    module _ (g : Given) where
      stored_failed : (s : State (List Value)) (most : ℕ → ℕ) (infos : List NodeInfo) (stages : List Stage) (queues : List Queue) (rows : List (List (Option (Share O S L)))) (seats : List (Option Flight)) (failed : Bool) (flying flying' : ℕ) (p m : ℕ) (t : Task (List Value)) (d : Stage)
          → IsWorker (plan_of g) (suc p) → s.tasks (suc p) ≡ Some t → t.node ≡ suc m → m < length stages → flying ≡ flying' + 1
          → Stored meaning local_is shared_is g s most infos stages queues rows seats failed flying
          → Stored meaning local_is shared_is g (record s { failed = true; tasks = upd s.tasks (suc p) None }) most infos (slice_set stages m (less_busy (slice_index_or stages m d))) queues rows (slice_set seats p None) true flying'
      stored_failed s most infos stages queues rows seats failed flying flying' p m t d worker busy at within less st =
          let P = plan_of g in
          let ts = s.tasks in
          let ts' = upd ts (suc p) None in
          let is : (n : ℕ) → ℕ → Stage → Type 0 = λ n many x. StageIs P n (s.phase n) (s.next n) (s.built n) (s.streamed n) many x in
          record {
            all_infos = st.all_infos;
            all_stages = length-set stages m (less_busy (slice_index_or stages m d)) ∙ st.all_stages;
            all_queues = st.all_queues;
            all_rows = st.all_rows;
            all_seats = length-set seats p None ∙ st.all_seats;
            infos_are = st.infos_are;
            stages_are =
                held_set (λ n x. is n (length (tasks_of P ts n)) x) (λ n x. is n (length (tasks_of P ts' n)) x)
                stages m (less_busy (slice_index_or stages m d)) st.stages_are
                (stage_less P (suc m) (s.phase (suc m)) (s.next (suc m)) (s.built (suc m)) (s.streamed (suc m)) (length (tasks_of P ts (suc m))) (length (tasks_of P ts' (suc m))) (slice_index_or stages m d)
                (fewer_here P ts (suc p) t (suc m) worker busy at) (st.stages_are m d within))
                (λ n x ne h. subst (λ many. is n many x) (same_else P ts (suc p) t n busy (λ e. ne (e ∙ at))) h);
            queues_are = st.queues_are;
            rows_are =
                held_map
                (λ n row. RowIs meaning local_is shared_is (site_of g n) (nat_eq n P.sink) s.failed (s.phase n) (s.locals n) (s.built n) (s.streamed n) ts n row)
                (λ n row. RowIs meaning local_is shared_is (site_of g n) (nat_eq n P.sink) true (s.phase n) (s.locals n) (s.built n) (s.streamed n) ts' n row)
                rows st.rows_are
                (λ n row h. row_failed (site_of g n) (nat_eq n P.sink) s.failed (s.phase n) (s.locals n) (s.built n) (s.streamed n) ts ts' n row h);
            seats_are =
                held_set (λ w x. SeatIs (ts w) x) (λ w x. SeatIs (ts' w) x) seats p None st.seats_are
                (subst (λ o. SeatIs o None) (sym (upd-here ts (suc p) None)) tt)
                (λ w x ne h. subst (λ o. SeatIs o x) (sym (upd-else ts (suc p) None w ne)) h);
            failed_is = refl;
            flying_is = let a = flying_less P.workers (suc p) ts t worker.0 worker.1 busy in let b = st.flying_is in omega arith;
          }

      -- what is stored of a task in flight: its seat, its node, and that it is counted
      pub record Flies (stages : List Stage) (flying m : ℕ) : Type 0 where
        pub within : m < length stages
        pub busy : (d : Stage) → 1 ≤ (slice_index_or stages m d).busy
        pub some : 1 ≤ flying

      -- the node of the task, as its seat has it
      seat_at : (es : List Entry) (infos : List NodeInfo) (stages : List Stage) (queues : List Queue) (rows : List (List (Option (Share O S L)))) (seats : List (Option Flight)) (failed : Bool) (flying room capacity : ℕ) (w : ℕ) (f : Flight)
          → Stands meaning local_is shared_is g es infos stages queues rows seats failed flying room capacity
          → (can : HasTask (plan_of g) (state_after (plan_of g) es) w)
          → ((d : Option Flight) → slice_index_or seats (w - 1) d ≡ Some f)
          → f.node ≡ can.1.0.node
      seat_at es infos stages queues rows seats failed flying room capacity w f h can was =
          let s = state_after (plan_of g) es in
          let all = h.stored.all_seats in
          let worker = can.0 in
          let within : w - 1 < length seats = omega arith in
          let at : suc (w - 1) ≡ w = omega arith in
          seat_node (s.tasks (suc (w - 1))) (slice_index_or seats (w - 1) None) can.1.0 f (ap s.tasks at ∙ can.1.1) (was None) (h.stored.seats_are (w - 1) None within)

      pub task_node : (es : List Entry) (infos : List NodeInfo) (stages : List Stage) (queues : List Queue) (rows : List (List (Option (Share O S L)))) (seats : List (Option Flight)) (failed : Bool) (flying room capacity : ℕ) (w : ℕ) (f : Flight)
          → Stands meaning local_is shared_is g es infos stages queues rows seats failed flying room capacity
          → (can : HasTask (plan_of g) (state_after (plan_of g) es) w)
          → ((d : Option Flight) → slice_index_or seats (w - 1) d ≡ Some f)
          → IsNode (plan_of g) f.node
      task_node es infos stages queues rows seats failed flying room capacity w f h can was =
          let at = seat_at es infos stages queues rows seats failed flying room capacity w f h can was in
          let node = (seated (plan_of g) es h.legal).at_node w can.1.0 can.1.1 in
          subst (λ n. IsNode (plan_of g) n) (sym at) node

      pub flies : (es : List Entry) (infos : List NodeInfo) (stages : List Stage) (queues : List Queue) (rows : List (List (Option (Share O S L)))) (seats : List (Option Flight)) (failed : Bool) (flying room capacity : ℕ) (w : ℕ) (f : Flight)
          → Stands meaning local_is shared_is g es infos stages queues rows seats failed flying room capacity
          → (can : HasTask (plan_of g) (state_after (plan_of g) es) w)
          → ((d : Option Flight) → slice_index_or seats (w - 1) d ≡ Some f)
          → Flies stages flying (f.node - 1)
      flies es infos stages queues rows seats failed flying room capacity w f h can was =
          let P = plan_of g in
          let s = state_after P es in
          let node = task_node es infos stages queues rows seats failed flying room capacity w f h can was in
          let all = h.stored.all_stages in
          let within : f.node - 1 < length stages = omega arith in
          let at : suc (f.node - 1) ≡ f.node = omega arith in
          record {
            within = within;
            busy = λ d.
                let b = (h.stored.stages_are (f.node - 1) d within).busy in
                let c = fewer_here P s.tasks w can.1.0 (suc (f.node - 1)) can.0 can.1.1 (sym (seat_at es infos stages queues rows seats failed flying room capacity w f h can was) ∙ sym at) in
                omega arith;
            some = let a = flying_less P.workers w s.tasks can.1.0 can.0.0 can.0.1 can.1.1 in let b = h.stored.flying_is in omega arith;
          }

      pub after_fail : (es : List Entry) (infos : List NodeInfo) (stages stages' : List Stage) (queues : List Queue) (rows : List (List (Option (Share O S L)))) (seats seats' : List (Option Flight)) (failed : Bool) (flying flying' room capacity capacity' : ℕ) (w : ℕ) (f : Flight)
          → Stands meaning local_is shared_is g es infos stages queues rows seats failed flying room capacity
          → HasTask (plan_of g) (state_after (plan_of g) es) w
          → ((d : Option Flight) → slice_index_or seats (w - 1) d ≡ Some f)
          → seats' ≡ slice_set seats (w - 1) None
          → ((d : Stage) → stages' ≡ slice_set stages (f.node - 1) (less_busy (slice_index_or stages (f.node - 1) d)))
          → flying ≡ flying' + 1 → capacity' ≡ capacity
          → Stands meaning local_is shared_is g (es ++ Fail w ∷ []) infos stages' queues rows seats' true flying' room capacity'
      unfolding after
      after_fail es infos stages stages' queues rows seats seats' failed flying flying' room capacity capacity' w f h can was left set less same =
          let P = plan_of g in
          let s = state_after P es in
          let node = task_node es infos stages queues rows seats failed flying room capacity w f h can was in
          let fl = flies es infos stages queues rows seats failed flying room capacity w f h can was in
          let most : ℕ → ℕ = λ e. peak P e es (opening P) in
          let d = some_of (f.node - 1) stages fl.within in
          let worker = can.0 in
          let at : suc (w - 1) ≡ w = omega arith in
          let at_node : suc (f.node - 1) ≡ f.node = omega arith in
          let stored : Stored meaning local_is shared_is g (record s { failed = true; tasks = upd s.tasks w None }) most infos (slice_set stages (f.node - 1) (less_busy (slice_index_or stages (f.node - 1) d))) queues rows (slice_set seats (w - 1) None) true flying' =
          subst (λ v. Stored meaning local_is shared_is g (record s { failed = true; tasks = upd s.tasks v None }) most infos (slice_set stages (f.node - 1) (less_busy (slice_index_or stages (f.node - 1) d))) queues rows (slice_set seats (w - 1) None) true flying') at
          (stored_failed s most infos stages queues rows seats failed flying flying' (w - 1) (f.node - 1) can.1.0 d
          (subst (λ v. IsWorker P v) (sym at) can.0) (ap s.tasks at ∙ can.1.1)
          (sym (seat_at es infos stages queues rows seats failed flying room capacity w f h can was) ∙ sym at_node) fl.within less h.stored) in
          subst (λ sts. Stands meaning local_is shared_is g (es ++ Fail w ∷ []) infos sts queues rows seats' true flying' room capacity') (sym (set d))
          (subst (λ sts. Stands meaning local_is shared_is g (es ++ Fail w ∷ []) infos (slice_set stages (f.node - 1) (less_busy (slice_index_or stages (f.node - 1) d))) queues rows sts true flying' room capacity') (sym left)
          (standing meaning local_is shared_is g es (Fail w) infos infos stages (slice_set stages (f.node - 1) (less_busy (slice_index_or stages (f.node - 1) d))) queues queues rows rows seats (slice_set seats (w - 1) None) failed true flying flying' room room capacity capacity' h can
          (with_most meaning local_is shared_is g (after P s (Fail w)) _ _ infos _ queues rows _ true flying' (most_stays meaning local_is shared_is g es) stored)
          (let x = h.fits in omega arith)))
