-- No legal history has more entries than `most`.
use Rattle.std.proofs.Common.{◌≡◌, ℕ, zero, suc, ◌+◌, ◌-◌, ◌*◌, ◌<◌, ◌≤◌, ◌≢◌, ◌⊎◌, inl, inr, Bool, true, false, cond, ltb, ◌||◌, List, [], ◌∷◌, length, Option, Some, None, refl, sym, ap, subst, arith, ◌∙◌}
use Rattle.std.proofs.lemmas.Bool.Decides.{leb_tells}
use Rattle.plan_machine.specs.declared.entry.Phase.{Phase}
use Rattle.plan_machine.specs.declared.entry.Phase.TheVariants.{Emitting, Folding, Streaming, Tailing, Sealed, Done}
use Rattle.plan_machine.specs.declared.entry.Entry.{Entry}
use Rattle.plan_machine.specs.declared.entry.Entry.TheVariants.{Claim, Deliver, Pause, Resume, Finish, Stop, Fail}
use Rattle.plan_machine.specs.Lists.{upd, sum_to, weigh}
use Rattle.plan_machine.specs.Batch.{Batch, gathered}
use Rattle.plan_machine.specs.Plan.{Plan, Node, IsNode, IsWorker, Folds, folds_from, streams_from}
use Rattle.plan_machine.specs.State.{State, Task, opening, tail_rows}
use Rattle.plan_machine.specs.Enabled.{Enabled, CanStop, MayFinish}
use Rattle.plan_machine.specs.After.{after, claimed, landed, delivered, stopped, below, is_done}
use Rattle.plan_machine.specs.History.{IsLegal, IsHistory}
use Rattle.plan_machine.specs.Meaning.{meaning_within}
use Rattle.plan_machine.specs.WellFormed.{Streams, Lawful, WellFormed}
use Rattle.plan_machine.specs.Bound.{gives}
use Rattle.plan_machine.specs.Budget.{IsBudget, most}
use Rattle.plan_machine.specs.Laws.{NoMoreEntries}
use Rattle.plan_machine.proofs.Weigh.{weigh-one, same_or, gather-nil}
use Rattle.plan_machine.proofs.Sorting.{weigh-gathered}
use Rattle.plan_machine.proofs.Same.{SameRows-weigh, rows_test}
use Rattle.plan_machine.proofs.Pieces.{pieces_from}
use Rattle.plan_machine.proofs.Value.{view, coming, future_by, future, joined_by, tails_by, all_folded}
use Rattle.plan_machine.proofs.Pass.{true_or_false}
use Rattle.plan_machine.proofs.Turn.{streams_input, folds_input}
use Rattle.plan_machine.proofs.Meanings.{meaning-is}
use Rattle.plan_machine.proofs.Moved.{Sound}
use Rattle.plan_machine.proofs.Claims.{claim-moved}
use Rattle.plan_machine.proofs.Deliveries.{drop-moved, landed-moved, new_of}
use Rattle.plan_machine.proofs.Ends.{finish-moved, paused-moved}
use Rattle.plan_machine.proofs.Folded.{Folded}
use Rattle.plan_machine.proofs.Stops.{kept-future, phase-same, waiting-same, phase-done, input_on, input_below, fetch}
use Rattle.plan_machine.proofs.Opening.{opens}
use Rattle.plan_machine.proofs.Steps.{Good, step, delivered-is, good-opening, claimed-failed, delivered-failed, failed-stays}
use Rattle.plan_machine.proofs.Cost.{sum-less, sum-change, sum-upd, endings, size, come_by, stage_cost, come-less, outs, to_come, stage_of, edge_by, edge_of, task_cost, tasks_cost, total, spent}
use Rattle.plan_machine.proofs.Spends.{stage-left, claim-spends, drop-spends, landed-spends, finish-spends, pause-spends, resume-spends}

module _ {R : Type 0} (P : Plan R) (L : Lawful P) (W : WellFormed P) where
  no_pause : (n : ℕ) → n ≡ 0 → cond {A = ℕ} (ltb P.pause n) 2 0 ≡ 0
  no_pause n e =
      elim (leb_tells (suc P.pause) n) [
        | inl q ↦ absurd (let x = q.1 in omega arith)
        | inr q ↦ ap (λ b. cond {A = ℕ} b 2 0) q.0
      ]

  done-come : (k : ℕ) (s : State R) (m : ℕ) → s.phase m ≡ Done → to_come P k s m ≡ 0
  unfolding to_come
  done-come zero s m d = refl
  done-come (suc k) s m d = ap (λ q. come_by (P.node m) P.batch q (s.next m) (tail_rows P s m) (weigh size (future P (suc k) s m)) (length (s.waiting (streams_from P m)) + (to_come P k s (streams_from P m) + outs P s (streams_from P m)))) d

  module _ (s : State R) (S : Sound P L W s) (G : Folded P s) (n : ℕ) (can : CanStop P s n) where
    abbrev s' : State R
    s' = stopped P s n

    stop-come : (k m : ℕ) → IsNode P m → m ≤ k → below P m n ≡ false → to_come P k s' m ≤ to_come P k s m
    unfolding to_come
    stop-come zero m i l b = absurd (let z = i.0 in omega arith)
    stop-come (suc k) m i l b =
        let e : ℕ = streams_from P m in
        let sz : ℕ = weigh size (future P (suc k) s m) in
        let sz' : ℕ = weigh size (future P (suc k) s' m) in
        let g : ℕ = to_come P k s e + outs P s e in
        let g' : ℕ = to_come P k s' e + outs P s e in
        let q : sz ≡ sz' = kept-future P L W s S.fit S.distinct G n can (suc k) m i l b size (rows_test (P.node m).kept (λ _. 1)) in
        let p = phase-same P L W s S.fit S.distinct G n can m b in
        let x = ap (λ r. come_by (P.node m) P.batch r (s.next m) (tail_rows P s m) sz' (length (s'.waiting e) + g')) p in
        let y = ap (λ j. come_by (P.node m) P.batch (s.phase m) (s.next m) (tail_rows P s m) j (length (s'.waiting e) + g')) (sym q) in
        let gs : m ≢ n → Streams (P.node m) → length (s'.waiting e) + g' ≤ length (s.waiting e) + g = λ ne st.
        let ip = streams_input P W m i st in
        let c = input_on P L W s S.fit S.distinct G n can m e i ne b ip in
        let ie : IsNode P e = (ip.node, (let z = ip.before in let y = i.1 in omega arith)) in
        let h = stop-come k e ie (let z = ip.before in omega arith) c in
        let w = ap length (waiting-same P L W s S.fit S.distinct G n can e c) in
        omega arith in
        let z = come-less (P.node m) P.batch (s.phase m) (s.next m) (tail_rows P s m) sz (length (s.waiting e) + g) (length (s'.waiting e) + g')
        (λ r j. elim (same_or m n) [
          | inl t ↦ absurd (let f : true ≡ false = sym j ∙ ap (λ k. (P.node k).streams) t ∙ (fetch P L W s S.fit S.distinct G n can).1 in cc)
          | inr t ↦ gs t (inr (S.fit.started.folding m i r, j))
        ])
        (λ r. elim (same_or m n) [
          | inl t ↦ absurd (let f : Streaming ≡ Folding = sym r ∙ ap s.phase t ∙ can.folding in cc)
          | inr t ↦ gs t (S.fit.started.streaming m i r)
        ]) in
        omega arith

    stop-node : (m : ℕ) → IsNode P m → 10 * to_come P P.sink s' m + stage_of P s' m ≤ 10 * to_come P P.sink s m + stage_of P s m
    stop-node m i =
        elim (true_or_false (below P m n)) [
          | inl b ↦
              let d = phase-done P L W s S.fit S.distinct G n can m b in
              let x = done-come P.sink s' m d in
              let y : stage_of P s' m ≡ 0 = ap (λ q. stage_cost (endings P s' m) q) d in
              omega arith
          | inr b ↦
              let x = stop-come P.sink m i i.1 b in
              let y : stage_of P s' m ≡ stage_of P s m = ap (λ q. stage_cost (endings P s m) q) (phase-same P L W s S.fit S.distinct G n can m b) in
              omega arith
        ]

    stop-edge : (m : ℕ) → edge_of P s' m ≤ edge_of P s m
    stop-edge m =
        elim (true_or_false (below P m n)) [
          | inl b ↦
              let x : edge_of P s' m ≡ edge_by P false 0 = ap (λ c. edge_by P (cond c false (s.paused m)) (length (cond {A = List (Batch R)} c [] (s.waiting m)))) b in
              let y = no_pause 0 refl in
              omega arith
          | inr b ↦
              let x : edge_of P s' m ≡ edge_of P s m = ap (λ c. edge_by P (cond c false (s.paused m)) (length (cond {A = List (Batch R)} c [] (s.waiting m)))) b in
              omega arith
        ]

    pub stop-spent : total P s' + 1 ≤ total P s
    stop-spent =
        let e : ℕ = folds_from P n in
        let ip = folds_input P W n can.node (fetch P L W s S.fit S.distinct G n can).0 in
        let ie : IsNode P e = (ip.node, (let x = ip.before in let y = can.node.1 in omega arith)) in
        let f : ℕ → ℕ = λ m. 10 * to_come P P.sink s' m + stage_of P s' m in
        let g : ℕ → ℕ = λ m. 10 * to_come P P.sink s m + stage_of P s m in
        let c = sum-change P.sink e f g ie.0 ie.1 (λ j x y ne. stop-node j (x, y)) in
        let d = phase-done P L W s S.fit S.distinct G n can e (input_below P L W s S.fit S.distinct G n can) in
        let x = done-come P.sink s' e d in
        let y : stage_of P s' e ≡ 0 = ap (λ q. stage_cost (endings P s' e) q) d in
        let z = stage-left (endings P s e) (s.phase e) can.open_input in
        let w = sum-less P.sink (edge_of P s') (edge_of P s) (λ j _ _. stop-edge j) in
        omega arith

  -- an entry after which the run hasn't failed spends some of the cost
  step-spends : (s : State R) (e : Entry) → Good P L W s → s.failed ≡ false → Enabled P s e → (after P s e).failed ≡ false → total P (after P s e) + 1 ≤ total P s
  unfolding after
  step-spends s (Claim w n job k) G ok en ok' =
      spent P L W s (claimed P s w n job k) n [] G.sound (claim-moved P L W s G.sound.fit w n en.0 job k en.1) (claim-spends P L W s G.sound.fit w n en.0 job k en.1) en.0.node
  step-spends s (Deliver w) G ok en ok' =
      let t : Task R = en.1.0 in
      let b = en.1.1 in
      let F = G.sound.fit in
      let i = (F.tasks w t en.0 b).0 in
      let x : total P (delivered P s w (Some t)) + 1 ≤ total P s =
      delivered-is P L W (λ s'. total P s' + 1 ≤ total P s) s w t en.0 b F ok
      (λ d. spent P L W s (record s { tasks = upd s.tasks w None }) t.node [] G.sound (drop-moved P L W s F w t en.0 b d) (drop-spends P L W s F w t en.0 b d) i)
      (λ p f. spent P L W s (landed P s w t t.job) t.node (new_of P L W s F w t en.0 b t.job) G.sound (landed-moved P L W s F w t en.0 b t.job refl p f) (landed-spends P L W s F w t en.0 b t.job refl p f) i) in
      subst (λ (o : Option (Task R)). total P (delivered P s w o) + 1 ≤ total P s) (sym b) x
  step-spends s (Pause e) G ok en ok' =
      spent P L W s (record s { paused = upd s.paused e true }) e [] G.sound (paused-moved P L W s G.sound.fit e en.1.0 true) (pause-spends P L W s G.sound.fit e en.1) (en.1.0.0, (let z = en.1.0.1 in omega arith))
  step-spends s (Resume e) G ok en ok' =
      spent P L W s (record s { paused = upd s.paused e false }) e [] G.sound (paused-moved P L W s G.sound.fit e en.1.0 false) (resume-spends P L W s G.sound.fit e en.1) (en.1.0.0, (let z = en.1.0.1 in omega arith))
  step-spends s (Finish n) G ok en ok' =
      spent P L W s (record s { phase = upd s.phase n Done }) n [] G.sound (finish-moved P L W s G.sound.fit n en.1 en.2 en.3)
      (finish-spends P L W s G.sound.fit n en.1 (λ d. subst (MayFinish P s n) d en.3)) en.1
  step-spends s (Stop n) G ok en ok' = stop-spent s G.sound G.folded n en.1
  step-spends s (Fail w) G ok en ok' = cc

  -- a task that is dropped spends its own cost
  drop-costs : (ts : ℕ → Option (Task R)) (w : ℕ) (t : Task R) → IsWorker P w → ts w ≡ Some t → tasks_cost P (upd ts w None) + 1 ≤ tasks_cost P ts
  drop-costs ts w t iw b =
      let x = sum-upd P.workers w (λ _ o. task_cost P o) ts None iw.0 iw.1 in
      let y = ap (task_cost P) b in
      omega arith

  -- an entry that fails, or comes after a failure, spends a task
  fail-costs : (s : State R) (e : Entry) → Enabled P s e → (s.failed ≡ true) ⊎ ((s.failed ≡ false) × ((after P s e).failed ≡ true)) → tasks_cost P (after P s e).tasks + 1 ≤ tasks_cost P s.tasks
  unfolding after
  fail-costs s (Claim w n job k) en (inl f) = let x = en.0.sound in cc
  fail-costs s (Claim w n job k) en (inr f) = let x : true ≡ false = sym f.1 ∙ claimed-failed P L W s w n job k ∙ f.0 in cc
  fail-costs s (Deliver w) en (inl f) =
      let t : Task R = en.1.0 in
      let x : tasks_cost P (delivered P s w (Some t)).tasks + 1 ≤ tasks_cost P s.tasks =
      subst (λ (b : Bool). tasks_cost P (cond (b || is_done (s.phase t.node)) (record s { tasks = upd s.tasks w None }) (landed P s w t t.job)).tasks + 1 ≤ tasks_cost P s.tasks) (sym f) (drop-costs s.tasks w t en.0 en.1.1) in
      subst (λ (o : Option (Task R)). tasks_cost P (delivered P s w o).tasks + 1 ≤ tasks_cost P s.tasks) (sym en.1.1) x
  fail-costs s (Deliver w) en (inr f) = let x : true ≡ false = sym f.1 ∙ delivered-failed P L W s w (s.tasks w) ∙ f.0 in cc
  fail-costs s (Pause e) en (inl f) = let x = en.0 in cc
  fail-costs s (Pause e) en (inr f) = let x : true ≡ false = sym f.1 ∙ f.0 in cc
  fail-costs s (Resume e) en (inl f) = let x = en.0 in cc
  fail-costs s (Resume e) en (inr f) = let x : true ≡ false = sym f.1 ∙ f.0 in cc
  fail-costs s (Finish n) en (inl f) = let x = en.0 in cc
  fail-costs s (Finish n) en (inr f) = let x : true ≡ false = sym f.1 ∙ f.0 in cc
  fail-costs s (Stop n) en (inl f) = let x = en.0 in cc
  fail-costs s (Stop n) en (inr f) = let x : true ≡ false = sym f.1 ∙ f.0 in cc
  fail-costs s (Fail w) en f = drop-costs s.tasks w en.1.0 en.0 en.1.1

  failed-run : (es : List Entry) (s : State R) → s.failed ≡ true → IsLegal P es s → length es ≤ tasks_cost P s.tasks
  failed-run [] s f l = omega arith
  failed-run (e ∷ es) s f l =
      let x = fail-costs s e l.0 (inl f) in
      let y = failed-run es (after P s e) (failed-stays P L W s e f) l.1 in
      omega arith

  run : (es : List Entry) (s : State R) → Good P L W s → s.failed ≡ false → IsLegal P es s → length es ≤ total P s
  run [] s G ok l = omega arith
  run (e ∷ es) s G ok l =
      elim (true_or_false (after P s e).failed) [
        | inl f ↦
            let x = fail-costs s e l.0 (inr (ok, f)) in
            let y = failed-run es (after P s e) f l.1 in
            omega arith
        | inr f ↦
            let x = step-spends s e G ok l.0 f in
            let y = run es (after P s e) (step P L W s e G ok l.0 f).good f l.1 in
            omega arith
      ]

  -- what the opening state may cost
  module _ (rows batches : ℕ → ℕ) (B : IsBudget P rows batches) where
    abbrev s0 : State R
    s0 = opening P

    no_outs : (n : ℕ) → outs P s0 n ≡ 0
    no_outs n = ap (weigh {A = Task R} (λ t. gives t.job)) (gather-nil P.workers (λ w. []) (λ _ _ _. refl))

    -- the rows that a node gives
    sized : (k n : ℕ) → IsNode P n → n < P.sink → n ≤ k → weigh size (future P k s0 n) ≤ rows n
    sized k n i l q =
        let o = opens P L W k n i l q in
        let a = weigh-gathered (λ _. 1) (future P k s0 n) in
        let b = SameRows-weigh (P.node n).kept (gathered (future P k s0 n)) (meaning_within P k n) o.0 (λ _. 1) in
        let c = weigh-one (meaning_within P k n) in
        let d : (k - n) + n ≡ k = omega arith in
        let e = ap (λ j. length (meaning_within P j n)) d in
        let f = ap length (meaning-is P W (k - n) n i) in
        let g = B.of_rows n (i.0, l) in
        omega arith

    -- a node that gathers its one input and gives nothing
    none-sized : (k n : ℕ) → Folds (P.node n) → (P.node n).streams ≡ false → (P.node n).tails ≡ false → weigh size (future P (suc k) s0 n) ≡ 0
    unfolding future
    none-sized k n f j tl =
        let v : Node R = P.node n in
        let V = view P s0 n in
        let C = coming P s0 (future P k s0) n in
        let b : List R = gathered (all_folded V C) in
        ap (λ q. weigh size (future_by v P.batch q V C)) f
        ∙ ap (λ c. weigh size (cond c (joined_by v P.batch b C) (tails_by v P.batch b []))) j
        ∙ ap (λ c. weigh size (cond c (pieces_from v.kept P.batch (v.rest b []) 0) [])) tl

    before_sink : (n : ℕ) → IsNode P n → n ≢ P.sink → n < P.sink
    before_sink n i ne = let x = i.1 in elim (leb_tells (suc n) P.sink) [ inl q ↦ q.1 | inr q ↦ absurd (ne (let y = q.1 in omega arith)) ]

    opening-come : (k n : ℕ) → IsNode P n → n ≤ k → to_come P k s0 n ≤ batches n
    unfolding to_come
    opening-come zero n i l = absurd (let z = i.0 in omega arith)
    opening-come (suc k) n i l =
        let v : Node R = P.node n in
        let sz : ℕ = weigh size (future P (suc k) s0 n) in
        let g : ℕ = to_come P k s0 v.first + outs P s0 v.first in
        let C : Phase → ℕ = λ q. come_by v P.batch q 0 (tail_rows P s0 n) sz (0 + g) in
        let first : (Streams (P.node n)) → g ≤ batches v.first = λ st.
        let ip = streams_input P W n i st in
        let h = opening-come k v.first (ip.node, (let z = ip.before in let y = i.1 in omega arith)) (let z = ip.before in omega arith) in
        let o = no_outs v.first in
        omega arith in
        elim (W.nodes n i).starts [
          | inl e ↦
              let x = ap C e in
              let b = B.of_source n i e in
              omega arith
          | inr s ↦ elim s [
            | inl f ↦
                let x = ap C f in
                elim (true_or_false v.streams) [
                  | inl j ↦
                      let ne : n ≢ P.sink = λ q. let z : true ≡ false = sym j ∙ ap (λ k. (P.node k).streams) q ∙ W.sink.only_folds.0 in cc in
                      let y = ap (λ c. cond c (0 + g) 0) j in
                      let z = sized (suc k) n i (before_sink n i ne) l in
                      let b = B.of_join n i (f, j) in
                      let h = first (inr (f, j)) in
                      omega arith
                  | inr j ↦
                      let y = ap (λ c. cond c (0 + g) 0) j in
                      let b = B.of_fold n i f j in
                      elim (true_or_false v.tails) [
                        | inl tl ↦
                            let ne : n ≢ P.sink = λ q. let z : true ≡ false = sym tl ∙ ap (λ k. (P.node k).tails) q ∙ W.sink.only_folds.1 in cc in
                            let z = sized (suc k) n i (before_sink n i ne) l in
                            let w = ap (λ c. cond c (rows n) 0) tl in
                            omega arith
                        | inr tl ↦ let z = none-sized k n f j tl in omega arith
                      ]
                ]
            | inr o ↦
                let x = ap C o in
                let ne : n ≢ P.sink = λ q. let z : Streaming ≡ Folding = sym o ∙ ap (λ k. (P.node k).start) q ∙ W.sink.folds in cc in
                let z = sized (suc k) n i (before_sink n i ne) l in
                let b = B.of_stream n i o in
                let h = first (inl o) in
                elim (true_or_false v.cuts) [
                  | inl c ↦ let y = ap (λ c. cond c sz 0) c in let y' = ap (λ c. cond c (rows n) 0) c in omega arith
                  | inr c ↦ let y = ap (λ c. cond c sz 0) c in omega arith
                ]
          ]
        ]

    stage_few : (q : ℕ) (p : Phase) → stage_cost q p ≤ 5
    stage_few q Emitting = omega arith
    stage_few q Folding = few (ltb 0 q)
      where
        few : (b : Bool) → cond {A = ℕ} b 3 5 ≤ 5
        few true = omega arith
        few false = omega arith
    stage_few q Streaming = few (ltb 0 q)
      where
        few : (b : Bool) → cond {A = ℕ} b 1 3 ≤ 5
        few true = omega arith
        few false = omega arith
    stage_few q Tailing = omega arith
    stage_few q Sealed = omega arith
    stage_few q Done = omega arith

    sum-zero : (n : ℕ) (f : ℕ → ℕ) → ((j : ℕ) → f j ≡ 0) → sum_to n f ≡ 0
    sum-zero zero f e = refl
    sum-zero (suc n) f e = let r = sum-zero n f e in let q = e (suc n) in omega arith

    opening-total : total P s0 ≤ most P batches
    opening-total =
        let a = sum-less P.sink (λ n. 10 * to_come P P.sink s0 n + stage_of P s0 n) (λ n. 10 * batches n + 8)
        (λ j x y. let c = opening-come P.sink j (x, y) y in let d = stage_few (endings P s0 j) (s0.phase j) in omega arith) in
        let b = sum-zero P.sink (edge_of P s0) (λ j. let z = no_pause 0 refl in omega arith) in
        let c = sum-zero P.workers (λ w. task_cost P (s0.tasks w)) (λ j. refl) in
        omega arith

    pub fewer : (es : List Entry) → IsHistory P es → length es ≤ most P batches
    fewer es h = let a = run es s0 (good-opening P L W) refl h in let b = opening-total in omega arith

pub no_more : (R : Type 0) → NoMoreEntries R
no_more R P L W rows batches B es h = fewer P L W rows batches B es h
