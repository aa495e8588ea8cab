-- Down from the sink there is always a node that has work.
use Rattle.std.proofs.Common.{◌≡◌, ℕ, zero, suc, ◌<◌, ◌≤◌, Bool, true, false, cond, ◌⊎◌, List, [], ◌∷◌, length, inl, inr, refl, sym, ◌∙◌, ap, arith, subst}
use Rattle.plan_machine.specs.declared.entry.Phase.{Phase}
use Rattle.plan_machine.specs.declared.entry.Phase.TheVariants.{Emitting, Folding, Streaming, Tailing, Sealed, Done}
use Rattle.plan_machine.specs.declared.entry.Job.TheVariants.{Emit, Fold, Seal, Stream, Close, Tail}
use Rattle.plan_machine.specs.declared.entry.Entry.{Entry}
use Rattle.plan_machine.specs.declared.entry.Entry.TheVariants.{Pause, Resume, Finish, Stop}
use Rattle.plan_machine.specs.Batch.{Batch, parts}
use Rattle.plan_machine.specs.Plan.{Plan, IsNode, IsEdge, IsWorker, Folds, folds_from, streams_from}
use Rattle.plan_machine.specs.State.{State, IsIdle, on_node, tail_rows, NothingInFlight}
use Rattle.plan_machine.specs.Enabled.{Ready, MayFinish}
use Rattle.plan_machine.specs.History.{IsHistory, state_after}
use Rattle.plan_machine.specs.Driver.{NoUpkeep, CanWork}
use Rattle.plan_machine.specs.WellFormed.{WellFormed, IsInput, Streams}
use Rattle.plan_machine.proofs.DriverSearch.{known_phase}
use Rattle.plan_machine.proofs.Weigh.{gather-nil}
use Rattle.plan_machine.proofs.StuckFits.{Fits, in_phase, fits_history}

none_or_some : {A : Type 0} (xs : List A) → (xs ≡ []) ⊎ (0 < length xs)
none_or_some [] = inl refl
none_or_some (x ∷ xs) = inr (omega arith)

bool_cases : (b : Bool) → (b ≡ true) ⊎ (b ≡ false)
bool_cases true = inl refl
bool_cases false = inr refl

module _ {R : Type 0} (P : Plan R) (well : WellFormed P) where
  -- nothing is in flight and no upkeep is due
  pub record Still (s : State R) : Type 0 where
    pub fits : Fits P s
    pub sound : s.failed ≡ false
    pub idle : NothingInFlight P s
    pub quiet : NoUpkeep P s

  idle_node : (s : State R) → Still s → (n : ℕ) → IsIdle P s n
  idle_node s still n = gather-nil P.workers (λ w. on_node P n (s.tasks w)) (λ w a b. ap (on_node P n) (still.idle w (a, b)))

  ready : (s : State R) → Still s → (w n : ℕ) → IsWorker P w → IsNode P n → Ready P s w n
  ready s still w n at node =
      record {
        node = node;
        worker = at;
        free = still.idle w at;
        sound = still.sound;
        no_stop = λ m stop. still.quiet (Stop m) tt (still.sound, stop);
        no_pause = λ e pause. still.quiet (Pause e) tt (still.sound, pause);
      }

  -- the edges that a node reads come from nodes before it
  reads_folded : (n : ℕ) → IsNode P n → Folds (P.node n) → IsInput P n (folds_from P n)
  reads_folded n node folds = go (P.node n).streams refl
    where
      go : (b : Bool) → (P.node n).streams ≡ b → IsInput P n (cond b (P.node n).second (P.node n).first)
      go true e = (well.nodes n node).second (folds, e)
      go false e = (well.nodes n node).first (λ d. let x = sym d ∙ folds in cc)

  reads_streamed : (n : ℕ) → IsNode P n → Streams (P.node n) → IsInput P n (streams_from P n)
  reads_streamed n node (inl only) = (well.nodes n node).first (λ d. let x = sym d ∙ only in cc)
  reads_streamed n node (inr join) = (well.nodes n node).first (λ d. let x = sym d ∙ join.0 in cc)

  -- the edge e, on which nothing waits, leads from a node that hasn't ended: it isn't paused
  runs_on : (s : State R) → Still s → (n e : ℕ) → IsNode P n → IsInput P n e → s.waiting e ≡ [] → s.paused e ≡ false
  runs_on s still n e node input empty = go (bool_cases (s.paused e))
    where
      go : (s.paused e ≡ true) ⊎ (s.paused e ≡ false) → s.paused e ≡ false
      go (inr d) = d
      go (inl paused) =
          let a = input.before in
          let b = node.1 in
          let edge : IsEdge P e = (input.node, omega arith) in
          let c = ap (length {A = Batch R}) empty in
          absurd (still.quiet (Resume e) tt (still.sound, (edge, paused, omega arith)))

  no_finish : (s : State R) → Still s → (n : ℕ) (p : Phase) → IsNode P n → s.phase n ≡ p → MayFinish P s n p → ⊥
  no_finish s still n p node is may =
      still.quiet (Finish n) tt (still.sound, node, idle_node s still n, subst (λ q. MayFinish P s n q) (sym is) may)

  -- what there is to do at node n, where the nodes that it reads have work unless they have ended
  work_at : (s : State R) → Still s → (w : ℕ) → IsWorker P w → (n : ℕ) → IsNode P n → s.paused n ≡ false → ((e : ℕ) → IsInput P n e → (s.phase e ≡ Done → ⊥) → s.paused e ≡ false → CanWork P s w) → (p : Phase) → s.phase n ≡ p → (p ≡ Done → ⊥) → CanWork P s w
  work_at s still w at n node runs below Emitting is live =
      let f = in_phase P s n Emitting still.fits node is in
      let ne : s.next n ≡ parts P.batch (P.node n).table → ⊥ = no_finish s still n Emitting node is in
      (n, Emit, s.next n, (ready s still w n at node, (is, refl, omega (arith, f.1, ne), runs)))
  work_at s still w at n node runs below Folding is live =
      let f = in_phase P s n Folding still.fits node is in
      let e = folds_from P n in
      let input = reads_folded n node f.0 in
      go input (none_or_some (s.waiting e)) (known_phase (s.phase e) Done)
    where
      go : IsInput P n (folds_from P n) → (s.waiting (folds_from P n) ≡ []) ⊎ (0 < length (s.waiting (folds_from P n))) → (s.phase (folds_from P n) ≡ Done) ⊎ (s.phase (folds_from P n) ≡ Done → ⊥) → CanWork P s w
      go input (inr some) d = (n, Fold, 0, (ready s still w n at node, (is, some)))
      go input (inl empty) (inl done) = (n, Seal, 0, (ready s still w n at node, (is, idle_node s still n, (done, empty), refl)))
      go input (inl empty) (inr live') = below (folds_from P n) input live' (runs_on s still n (folds_from P n) node input empty)
  work_at s still w at n node runs below Streaming is live =
      let f = in_phase P s n Streaming still.fits node is in
      let e = streams_from P n in
      let input = reads_streamed n node f.0 in
      go input (none_or_some (s.waiting e)) (known_phase (s.phase e) Done) (bool_cases (P.node n).tails)
    where
      go : IsInput P n (streams_from P n) → (s.waiting (streams_from P n) ≡ []) ⊎ (0 < length (s.waiting (streams_from P n))) → (s.phase (streams_from P n) ≡ Done) ⊎ (s.phase (streams_from P n) ≡ Done → ⊥) → ((P.node n).tails ≡ true) ⊎ ((P.node n).tails ≡ false) → CanWork P s w
      go input (inr some) d b = (n, Stream, 0, (ready s still w n at node, (is, some, runs)))
      go input (inl empty) (inl done) (inl tails) = (n, Close, 0, (ready s still w n at node, (is, idle_node s still n, (done, empty), refl, tails)))
      go input (inl empty) (inl done) (inr plain) = absurd (no_finish s still n Streaming node is (plain, (done, empty)))
      go input (inl empty) (inr live') b = below (streams_from P n) input live' (runs_on s still n (streams_from P n) node input empty)
  work_at s still w at n node runs below Tailing is live =
      let f : s.next n ≤ parts P.batch (tail_rows P s n) = in_phase P s n Tailing still.fits node is in
      let ne : s.next n ≡ parts P.batch (tail_rows P s n) → ⊥ = no_finish s still n Tailing node is in
      (n, Tail, s.next n, (ready s still w n at node, (is, refl, omega (arith, f, ne), runs)))
  work_at s still w at n node runs below Sealed is live = absurd (no_finish s still n Sealed node is tt)
  work_at s still w at n node runs below Done is live = absurd (live refl)

  -- a node that hasn't ended and may give has work, or a node before it has
  walk : (s : State R) → Still s → (w : ℕ) → IsWorker P w → (k n : ℕ) → n ≤ k → IsNode P n → (s.phase n ≡ Done → ⊥) → s.paused n ≡ false → CanWork P s w
  walk s still w at zero n low node live runs = let a = node.0 in absurd (omega arith)
  walk s still w at (suc k) n low node live runs =
      work_at s still w at n node runs
      (λ e input live' runs'. let a = input.before in let b = node.1 in walk s still w at k e (omega arith) (input.node, omega arith) live' runs')
      (s.phase n) refl live

  works : (s : State R) → Still s → (s.phase P.sink ≡ Done → ⊥) → (w : ℕ) → IsWorker P w → CanWork P s w
  works s still live w at = walk s still w at P.sink P.sink (omega arith) (well.sink_node, omega arith) live still.fits.sink_runs

  pub never_stuck_history : (es : List Entry) → IsHistory P es → (state_after P es).failed ≡ false → ((state_after P es).phase P.sink ≡ Done → ⊥) → NothingInFlight P (state_after P es) → NoUpkeep P (state_after P es) → (w : ℕ) → IsWorker P w → CanWork P (state_after P es) w
  never_stuck_history es legal sound live idle quiet w at = works (state_after P es) (record { fits = fits_history P well es legal; sound = sound; idle = idle; quiet = quiet }) live w at
