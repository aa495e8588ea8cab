-- A Finish, a Pause and a Resume move one node.
use Rattle.std.proofs.Common.{◌≡◌, ℕ, inl, Bool, cond, List, [], ◌++◌, map, refl, sym, ap, arith, ◌∙◌}
use Rattle.plan_machine.specs.declared.entry.Phase.{Phase}
use Rattle.plan_machine.specs.declared.entry.Phase.TheVariants.{Emitting, Folding, Streaming, Tailing, Sealed, Done}
use Rattle.plan_machine.specs.Lists.{upd, weigh}
use Rattle.plan_machine.specs.Batch.{Batch, parts, rows_of}
use Rattle.plan_machine.specs.Plan.{Plan, Node, IsNode, IsEdge, streams_from}
use Rattle.plan_machine.specs.State.{State, Task, tail_rows, IsIdle}
use Rattle.plan_machine.specs.Enabled.{MayFinish}
use Rattle.plan_machine.specs.WellFormed.{Lawful, WellFormed}
use Rattle.plan_machine.proofs.Weigh.{weigh-append, upd-here, upd-else, flat}
use Rattle.plan_machine.proofs.Same.{SameRows-refl, SameRows-equal}
use Rattle.plan_machine.proofs.Pieces.{pieces_from, pieces-end}
use Rattle.plan_machine.proofs.Value.{whole_of, remains_of, Coming, all_streamed, streamed_by, tails_by, view, coming, gives_of, future_by, base_by}
use Rattle.plan_machine.proofs.Pass.{fold_kept}
use Rattle.plan_machine.proofs.Turn.{Known, streams_input}
use Rattle.plan_machine.proofs.Fit.{Fit}
use Rattle.plan_machine.proofs.Moved.{Moved, none-new}

module _ {R : Type 0} (P : Plan R) (L : Lawful P) (W : WellFormed P) where
  module _ (s : State R) (F : Fit P L W s) where
    module _ (n : ℕ) (i : IsNode P n) (idle : IsIdle P s n) where
      abbrev ended : State R
      ended = record s { phase = upd s.phase n Done }

      is_done : ended.phase n ≡ Done
      is_done = upd-here s.phase n Done

      finished : (q : Phase) → s.phase n ≡ q → (q ≡ Folding → ⊥) → (q ≡ Done → ⊥) → ((f : ℕ → List (Batch R)) → Known P L W s ended f n → (H : Batch R → ℕ) → weigh H (future_by (P.node n) P.batch q (view P s n) (coming P s f n)) ≡ 0) → ((f : ℕ → List (Batch R)) → base_by q (view P s n) (coming P s f n) ≡ s.built n) → Moved P L W s ended n []
      finished q p nf nd g b =
          record {
            fresh = refl;
            was = q;
            is = Done;
            before = p;
            after = is_done;
            around =
                record {
                  others = λ m im ne. record { phase = sym (upd-else s.phase n Done m ne); locals = refl; built = refl; streamed = refl; next = refl; flight = refl };
                  added = λ e ie ne. none-new P L W n e (s.waiting e);
                };
            local =
                record {
                  folding = λ z. let y = sym is_done ∙ z in cc;
                  streaming = λ z. let y = sym is_done ∙ z in cc;
                  next_fold = λ z. let y = sym is_done ∙ z in cc;
                  next_stream = λ z. let y = sym is_done ∙ z in cc;
                  from_fold = λ z j. let y = sym is_done ∙ z in cc;
                  here = λ v u iv b e. ((F.tasks v u iv b).0, inl (ap ended.phase e ∙ is_done));
                  elsewhere = λ v u iv b ne. b;
                  live = λ d. absurd (nd (sym p ∙ d));
                };
            gives = λ f K H t. g f K H;
            base = λ f K. SameRows-equal (fold_kept P L W n) _ _ (b f);
            folds = λ f z. cc;
          }

      none_given : (H : Batch R → ℕ) → weigh H (view P s n).given ≡ 0
      none_given H = ap (λ (z : List (Task R)). weigh H (flat (gives_of P) z)) idle

      all_given : (H : Batch R → ℕ) (rows : List R) → s.next n ≡ parts P.batch rows → weigh H ((view P s n).given ++ pieces_from (P.node n).kept P.batch rows (s.next n)) ≡ 0
      all_given H rows e =
          let a = weigh-append H (view P s n).given (pieces_from (P.node n).kept P.batch rows (s.next n)) in
          let b = none_given H in
          let c = ap (weigh H) (pieces-end (P.node n).kept P.batch rows (s.next n) e) in
          omega arith

      all_streamed-given : (p : s.phase n ≡ Streaming) → MayFinish P s n Streaming → (f : ℕ → List (Batch R)) → Known P L W s ended f n → (H : Batch R → ℕ) → weigh H (future_by (P.node n) P.batch Streaming (view P s n) (coming P s f n)) ≡ 0
      all_streamed-given p m f K H =
          let v : Node R = P.node n in
          let C : Coming R = coming P s f n in
          let e = streams_input P W n i (F.started.streaming n i p) in
          let eb = e.before in
          let d : ended.phase (streams_from P n) ≡ Done = upd-else s.phase n Done (streams_from P n) (λ q. absurd (omega arith)) ∙ m.1.0 in
          let later : f (streams_from P n) ≡ [] = K.none (streams_from P n) e d in
          let r1 = ap (λ (z : List (Batch R)). weigh H (map (remains_of v (s.built n)) z)) m.1.1 in
          let r2 = ap (λ (z : List (Batch R)). weigh H (map (whole_of v (s.built n)) z)) later in
          let k = weigh-append H (map (remains_of v (s.built n)) C.streamed_waiting) (map (whole_of v (s.built n)) C.streamed_later) in
          let o = weigh-append H (streamed_by v (s.built n) C) (tails_by v P.batch (s.built n) (rows_of ((view P s n).held ++ all_streamed C))) in
          let l = weigh-append H (view P s n).given (streamed_by v (s.built n) C ++ tails_by v P.batch (s.built n) (rows_of ((view P s n).held ++ all_streamed C))) in
          let tl = ap (λ z. weigh H (cond z (pieces_from v.kept P.batch (v.rest (s.built n) (rows_of ((view P s n).held ++ all_streamed C))) 0) [])) m.0 in
          let g = none_given H in
          omega arith

      finish-at : (q : Phase) → s.phase n ≡ q → MayFinish P s n q → Moved P L W s ended n []
      finish-at Emitting p m = finished Emitting p (λ z. cc) (λ z. cc) (λ f K H. all_given H (P.node n).table m) (λ f. refl)
      finish-at Folding p m = absurd m
      finish-at Streaming p m = finished Streaming p (λ z. cc) (λ z. cc) (all_streamed-given p m) (λ f. refl)
      finish-at Tailing p m = finished Tailing p (λ z. cc) (λ z. cc) (λ f K H. all_given H (tail_rows P s n) m) (λ f. refl)
      finish-at Sealed p m = finished Sealed p (λ z. cc) (λ z. cc) (λ f K H. refl) (λ f. refl)
      finish-at Done p m = absurd m

      pub finish-moved : MayFinish P s n (s.phase n) → Moved P L W s ended n []
      finish-moved m = finish-at (s.phase n) refl m

    -- an edge that is paused or goes on
    pub paused-moved : (e : ℕ) → IsEdge P e → (b : Bool) → Moved P L W s (record s { paused = upd s.paused e b }) e []
    paused-moved e ie b =
        let i : IsNode P e = (ie.0, (let z = ie.1 in omega arith)) in
        record {
          fresh = refl;
          was = s.phase e;
          is = s.phase e;
          before = refl;
          after = refl;
          around =
              record {
                others = λ m im ne. record { phase = refl; locals = refl; built = refl; streamed = refl; next = refl; flight = refl };
                added = λ d id ne. none-new P L W e d (s.waiting d);
              };
          local =
              record {
                folding = λ z. F.started.folding e i z;
                streaming = λ z. F.started.streaming e i z;
                next_fold = λ z. F.next_fold e i z;
                next_stream = λ z. F.next_stream e i z;
                from_fold = λ z j. F.from_fold e i z j;
                here = λ v u iv b q. F.tasks v u iv b;
                elsewhere = λ v u iv b ne. b;
                live = λ d. (d, refl);
              };
          gives = λ f K H t. refl;
          base = λ f K. SameRows-refl (fold_kept P L W e) (base_by (s.phase e) (view P s e) (coming P s f e));
          folds = λ f z. (z, λ H t. refl);
        }
