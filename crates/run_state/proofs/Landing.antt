-- What is stored once a worker's task in flight is gone: its seat, its node's count, and the shares of the other nodes.
use Rattle.std.proofs.Common.{◌≡◌, ◌≢◌, ℕ, suc, ◌+◌, ◌<◌, ◌≤◌, Bool, true, false, List, length, Option, Some, None, sym, ap, subst, ◌∙◌, ◌⊎◌, inl, inr, arith, slice_index_or, slice_set}
use Rattle.std.proofs.lemmas.List.{length-set, get_or-set_same, get_or-set_other}
use Rattle.scalar_value.specs.declared.value.Value.{Value}
use Rattle.scalar_value.specs.declared.value.ColType.{ColType}
use Rattle.plan_machine.specs.declared.entry.Phase.{Phase}
use Rattle.plan_machine.specs.Lists.{upd, sum_to}
use Rattle.plan_machine.specs.Batch.{Batch}
use Rattle.plan_machine.specs.Plan.{Plan, IsWorker}
use Rattle.plan_machine.specs.State.{Task, on_node}
use Rattle.plan_machine.proofs.Weigh.{upd-here, upd-else, same_or, weigh-one}
use Rattle.plan_machine.proofs.Sums.{sum_changed}
use Rattle.plan_machine.proofs.Flight.{flying, flying-less, flying-same, on_node-else}
use Rattle.plan_nodes.specs.Operators.{OpMeaning}
use Rattle.task_work.specs.Sites.{Site}
use Rattle.task_work.specs.declared.work.Share.{Share}
use Rattle.plan_store.specs.declared.stage.Stage.{Stage}
use Rattle.plan_store.specs.declared.stage.Flight.{Flight}
use Rattle.run_state.specs.Stored.{Held, StageIs, SeatIs, in_flight, takes_all, AllAway, Away, PartStands, SlotStands, SlotIs, RowIs, is_live}
use Rattle.run_state.proofs.Held.{held_set}

abbrev pub Tasks : Type 0
Tasks = ℕ → Option (Task (List Value))

-- ---- seats

pub seat_left : (tasks : Tasks) (seats : List (Option Flight)) (q : ℕ) → Held (λ w seat. SeatIs (tasks w) seat) seats → Held (λ w seat. SeatIs (upd tasks (suc q) None w) seat) (slice_set seats q None)
seat_left tasks seats q h =
    held_set (λ w seat. SeatIs (tasks w) seat) (λ w seat. SeatIs (upd tasks (suc q) None w) seat) seats q None h
    (subst (λ x. SeatIs x None) (sym (upd-here tasks (suc q) None)) tt)
    (λ n y ne is. subst (λ x. SeatIs x y) (sym (upd-else tasks (suc q) None n ne)) is)

pub flying_left : (k w : ℕ) (tasks : Tasks) (t : Task (List Value)) → 1 ≤ w → w ≤ k → tasks w ≡ Some t → sum_to k (λ v. in_flight (tasks v)) ≡ sum_to k (λ v. in_flight (upd tasks w None v)) + 1
flying_left k w tasks t lo hi busy =
    let a = sum_changed k (λ v. in_flight (tasks v)) (λ v. in_flight (upd tasks w None v)) w lo hi (λ j ne. ap in_flight (upd-else tasks w None j ne)) in
    let b = ap in_flight (upd-here tasks w None) in
    let c = ap in_flight busy in
    omega arith

-- ---- what shares are away for

pub all_away_left : (tasks : Tasks) (w n : ℕ) (t : Task (List Value)) → tasks w ≡ Some t → (t.node ≢ n) ⊎ (takes_all t.job ≡ false) → AllAway tasks n → AllAway (upd tasks w None) n
all_away_left tasks w n t busy not (v, u, is, at, all) =
    elim (same_or v w) [
      | inl q ↦
          let e : Some t ≡ Some u = sym busy ∙ ap tasks (sym q) ∙ is in
          let same : t ≡ u = cc in
          absurd (elim not [ inl ne ↦ ne (ap (λ (x : Task (List Value)). x.node) same ∙ at) | inr no_all ↦ let m = ap (λ (x : Task (List Value)). takes_all x.job) same in cc ])
      | inr q ↦ (v, u, upd-else tasks w None v q ∙ is, at, all)
    ]

pub away_left : (tasks : Tasks) (w n v : ℕ) (t : Task (List Value)) → tasks w ≡ Some t → (t.node ≢ n) ⊎ ((v ≢ w) × (takes_all t.job ≡ false)) → Away tasks n v → Away (upd tasks w None) n v
away_left tasks w n v t busy not (inl (u, is, at)) =
    elim (same_or v w) [
      | inl q ↦
          let e : Some t ≡ Some u = sym busy ∙ ap tasks (sym q) ∙ is in
          let same : t ≡ u = cc in
          absurd (elim not [ inl ne ↦ ne (ap (λ (x : Task (List Value)). x.node) same ∙ at) | inr other ↦ other.0 q ])
      | inr q ↦ inl (u, upd-else tasks w None v q ∙ is, at)
    ]
away_left tasks w n v t busy not (inr all) = inr (all_away_left tasks w n t busy (elim not [ inl ne ↦ inl ne | inr other ↦ inr other.1 ]) all)

module _ {O S L : Type 0}
    (meaning : O → OpMeaning)
    (local_is : OpMeaning → List ColType → L → List (Batch (List Value)) → Type 0)
    (shared_is : OpMeaning → List (List ColType) → S → List (List Value) → List (Batch (List Value)) → Type 0)
  where
    -- ---- rows of shares

    -- nothing at the node looks at the task that is gone
    pub row_left : (v : Site) (last failed : Bool) (phase : Phase) (locals : ℕ → List (Batch (List Value))) (built : List (List Value)) (streamed : List (Batch (List Value))) (tasks : Tasks) (w n : ℕ) (t : Task (List Value)) (row : List (Option (Share O S L)))
        → tasks w ≡ Some t → ((failed ≡ false) → (is_live meaning local_is shared_is last phase ≡ true) → t.node ≢ n)
        → RowIs meaning local_is shared_is v last failed phase locals built streamed tasks n row
        → RowIs meaning local_is shared_is v last failed phase locals built streamed (upd tasks w None) n row
    row_left v last failed phase locals built streamed tasks w n t row busy apart h =
        record {
          size = elim h.size [ inl s ↦ inl s | inr e ↦ inr (e.0, λ sound live. all_away_left tasks w n t busy (inl (apart sound live)) (e.1 sound live)) ];
          slots = λ k within.
              let slot = h.slots k within in
              record {
                stands = slot.stands;
                here = λ sound live none. away_left tasks w n (suc k) t busy (inl (apart sound live)) (slot.here sound live none);
              };
        }

    -- the worker's share is put back
    pub row_put : (v : Site) (last failed : Bool) (phase : Phase) (locals locals' : ℕ → List (Batch (List Value))) (built : List (List Value)) (streamed : List (Batch (List Value))) (tasks : Tasks) (q n : ℕ) (t : Task (List Value)) (row : List (Option (Share O S L))) (share : Share O S L)
        → length row ≡ v.workers → q < v.workers
        → tasks (suc q) ≡ Some t → takes_all t.job ≡ false
        → ((k : ℕ) → k ≢ q → locals' (suc k) ≡ locals (suc k))
        → PartStands meaning local_is shared_is v last phase (locals' (suc q)) built streamed share
        → RowIs meaning local_is shared_is v last failed phase locals built streamed tasks n row
        → RowIs meaning local_is shared_is v last failed phase locals' built streamed (upd tasks (suc q) None) n (slice_set row q (Some share))
    row_put v last failed phase locals locals' built streamed tasks q n t row share full at_seat busy one others part h =
        record {
          size = inl (length-set row q (Some share) ∙ full);
          slots = λ k within. by k within (same_or k q);
        }
      where
        is : ℕ → Option (Share O S L) → Type 0
        is k slot = SlotIs meaning local_is shared_is v last failed phase (locals' (suc k)) built streamed (Away (upd tasks (suc q) None) n (suc k)) slot

        by : (k : ℕ) → k < v.workers → (k ≡ q) ⊎ (k ≢ q) → is k (slice_index_or (slice_set row q (Some share)) k None)
        by k within (inl e) =
            subst (λ j. is j (slice_index_or (slice_set row q (Some share)) j None)) (sym e)
            (subst (λ x. is q x) (sym (get_or-set_same row q (Some share) None (omega arith)))
            (record { stands = part; here = λ sound live none. let no : Some share ≡ None = none in cc }))
        by k within (inr ne) =
            let slot = h.slots k within in
            subst (λ x. is k x) (sym (get_or-set_other row q k (Some share) None ne))
            (record {
              stands = subst (λ taken. SlotStands meaning local_is shared_is v last phase taken built streamed (slice_index_or row k None)) (sym (others k ne)) slot.stands;
              here = λ sound live none. away_left tasks (suc q) n (suc k) t busy (inr ((λ e. ne (omega arith)), one)) (slot.here sound live none);
            })

    -- a row that nothing took whole has a share for each worker
    pub row_full : (v : Site) (last failed : Bool) (phase : Phase) (locals : ℕ → List (Batch (List Value))) (built : List (List Value)) (streamed : List (Batch (List Value))) (tasks : Tasks) (n : ℕ) (row : List (Option (Share O S L)))
        → failed ≡ false → is_live meaning local_is shared_is last phase ≡ true → (AllAway tasks n → ⊥)
        → RowIs meaning local_is shared_is v last failed phase locals built streamed tasks n row → length row ≡ v.workers
    row_full v last failed phase locals built streamed tasks n row sound live none h = elim h.size [ inl s ↦ s | inr e ↦ absurd (none (e.1 sound live)) ]

module _ (P : Plan (List Value)) where
  -- ---- how many are in flight at a node

  pub flight_less : (tasks : Tasks) (w n : ℕ) (t : Task (List Value)) → IsWorker P w → tasks w ≡ Some t → t.node ≡ n → length (flying P tasks n) ≡ length (flying P (upd tasks w None) n) + 1
  flight_less tasks w n t at busy here =
      let a = flying-less P (λ _. 1) tasks w t n at busy here in
      let b = weigh-one (flying P tasks n) in
      let c = weigh-one (flying P (upd tasks w None) n) in
      omega arith

  pub flight_same : (tasks : Tasks) (w n : ℕ) (t : Task (List Value)) → tasks w ≡ Some t → t.node ≢ n → flying P tasks n ≡ flying P (upd tasks w None) n
  flight_same tasks w n t busy apart = flying-same P tasks w None n (ap (on_node P n) busy ∙ on_node-else P n t apart)

  -- the stage of the task's node is written, and all others stand for what they stood for
  pub stages_landed : (phase phase' : ℕ → Phase) (next : ℕ → ℕ) (built built' : ℕ → List (List Value)) (streamed streamed' : ℕ → List (Batch (List Value))) (tasks : Tasks) (w p : ℕ) (t : Task (List Value)) (stages : List Stage) (st : Stage)
      → tasks w ≡ Some t → t.node ≡ suc p
      → ((n : ℕ) → n ≢ suc p → (phase' n ≡ phase n) × (built' n ≡ built n) × (streamed' n ≡ streamed n))
      → Held (λ n x. StageIs P n (phase n) (next n) (built n) (streamed n) (length (flying P tasks n)) x) stages
      → StageIs P (suc p) (phase' (suc p)) (next (suc p)) (built' (suc p)) (streamed' (suc p)) (length (flying P (upd tasks w None) (suc p))) st
      → Held (λ n x. StageIs P n (phase' n) (next n) (built' n) (streamed' n) (length (flying P (upd tasks w None) n)) x) (slice_set stages p st)
  stages_landed phase phase' next built built' streamed streamed' tasks w p t stages st busy here others h is =
      held_set (λ n x. StageIs P n (phase n) (next n) (built n) (streamed n) (length (flying P tasks n)) x)
      (λ n x. StageIs P n (phase' n) (next n) (built' n) (streamed' n) (length (flying P (upd tasks w None) n)) x) stages p st h is
      (λ n x ne old.
      let o = others n ne in
      let a = subst (λ y. StageIs P n y (next n) (built n) (streamed n) (length (flying P tasks n)) x) (sym o.0) old in
      let b = subst (λ y. StageIs P n (phase' n) (next n) y (streamed n) (length (flying P tasks n)) x) (sym o.1) a in
      let c = subst (λ y. StageIs P n (phase' n) (next n) (built' n) y (length (flying P tasks n)) x) (sym o.2) b in
      subst (λ y. StageIs P n (phase' n) (next n) (built' n) (streamed' n) (length y) x) (flight_same tasks w n t busy (λ e. ne (sym e ∙ here))) c)
