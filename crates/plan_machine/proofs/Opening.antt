-- What each node gives from the opening state on is its meaning.
use Rattle.std.proofs.Common.{◌≡◌, ℕ, zero, suc, ◌<◌, ◌≤◌, inl, inr, Bool, true, false, cond, List, [], ◌∷◌, ◌++◌, map, refl, sym, ap, subst, arith, ◌∙◌, append-nil}
use Rattle.plan_machine.specs.Lists.{weigh}
use Rattle.plan_machine.specs.Batch.{Batch, key, key_of, rows_of, gathered, marked}
use Rattle.plan_machine.specs.Plan.{Plan, Node, IsNode, IsSource, Folds, IsJoin, OnlyStreams, folds_from}
use Rattle.plan_machine.specs.State.{State, on_node, opening}
use Rattle.plan_machine.specs.Meaning.{SameRows, SameSet, whole, meaning_within, meaning}
use Rattle.plan_machine.specs.WellFormed.{Lawful, WellFormed, IsInput}
use Rattle.plan_machine.proofs.Weigh.{weigh-append, weigh-map, weigh-same, weigh-rows, flat, gather-nil}
use Rattle.plan_machine.proofs.Sorting.{weigh-gathered}
use Rattle.plan_machine.proofs.Same.{IsDistinct, SameRows-trans, SameRows-weigh, SameRows-equal, SameSet-refl, SameSet-weigh}
use Rattle.plan_machine.proofs.Pieces.{pieces_from, gathered-pieces, pieces-distinct, weigh-pieces_from, gathered-map, map-distinct, part-weigh}
use Rattle.plan_machine.proofs.Value.{whole_of, View, Coming, all_folded, all_streamed, base_by, tails_by, joined_by, view, coming, gives_of, holds_of, future_by, future_with, future, answer}
use Rattle.plan_machine.proofs.Pass.{true_or_false, fold_kept}
use Rattle.plan_machine.proofs.Meanings.{whole-source, whole-streams, whole-join, whole-folds, meaning-more}
use Rattle.plan_machine.proofs.Turn.{folds_input, streams_input, AllDistinct}
use Rattle.plan_machine.proofs.Flight.{flying}

module _ {R : Type 0} where
  -- what streams row by row, from what came
  streamed-opens : (kept ke : Bool) (g : Batch R → Batch R) (p : List R → List R) → (kept ≡ true → ke ≡ true) → p [] ≡ [] → ((xs ys : List R) → p (xs ++ ys) ≡ p xs ++ p ys) → ((x : Batch R) → (g x).rows ≡ p x.rows) → (kept ≡ true → (x : Batch R) → key (g x) ≡ key x) → (xs : List (Batch R)) (m : List R) → SameRows ke (gathered xs) m → SameRows kept (gathered (map g xs)) (p m)
  streamed-opens true true g p o n a e k xs m s = gathered-map g p n a e (k refl) xs ∙ ap p s
  streamed-opens true false g p o n a e k xs m s = let z = o refl in cc
  streamed-opens false ke g p o n a e k xs m s = λ h.
      let h' : R → ℕ = λ r. weigh h (p (r ∷ [])) in
      let a1 = weigh-gathered h (map g xs) in
      let a2 = weigh-map (λ b. weigh h b.rows) g xs in
      let a3 = weigh-same (λ x. weigh h (g x).rows) (λ x. weigh h' x.rows) xs (λ x. ap (weigh h) (e x) ∙ part-weigh p n a h x.rows) in
      let a4 = weigh-gathered h' xs in
      let a5 = SameRows-weigh ke (gathered xs) m s h' in
      let a6 = part-weigh p n a h m in
      omega arith

  marked-key : (kept : Bool) → kept ≡ true → (v : Node R) → v.kept ≡ kept → (b : List R) (x : Batch R) → key (whole_of v b x) ≡ key x
  marked-key kept k v e b x = ap (λ c. key_of (marked c x.index)) (e ∙ k)

  weigh_rows : (h : R → ℕ) (xs : List (Batch R)) → weigh h (rows_of xs) ≡ weigh h (gathered xs)
  weigh_rows h xs = let a = weigh-rows h xs in let b = weigh-gathered h xs in omega arith

module _ {R : Type 0} (P : Plan R) (L : Lawful P) (W : WellFormed P) where
  abbrev s0 : State R
  s0 = opening P

  none_flying : (n : ℕ) → flying P s0.tasks n ≡ []
  none_flying n = gather-nil P.workers (λ w. on_node P n (s0.tasks w)) (λ _ _ _. refl)

  held0 : (n : ℕ) → (view P s0 n).held ≡ []
  held0 n = let a = gather-nil P.workers (s0.locals n) (λ _ _ _. refl) in let b = ap (flat (holds_of P)) (none_flying n) in rw (a, b) refl

  given0 : (n : ℕ) → (view P s0 n).given ≡ []
  given0 n = ap (flat (gives_of P)) (none_flying n)

  -- What node n gives from the opening state on means what the node means, and where order is kept its
  -- batches have different indexes.
  abbrev Opens : ℕ → List (Batch R) → List R → Type 0
  Opens n xs m = SameRows (P.node n).kept (gathered xs) m × ((P.node n).kept ≡ true → IsDistinct xs)

  along : (n : ℕ) (xs ys : List (Batch R)) (m m' : List R) → xs ≡ ys → m ≡ m' → Opens n ys m' → Opens n xs m
  along n xs ys m m' e e' o = subst (λ (x : List (Batch R)). Opens n x m) (sym e) (subst (Opens n ys) (sym e') o)

  pieces-open : (n : ℕ) (rows : List R) → Opens n (pieces_from (P.node n).kept P.batch rows 0) rows
  pieces-open n rows = (
    gathered-pieces (P.node n).kept P.batch rows W.batch,
    λ k. subst (λ (c : Bool). IsDistinct (pieces_from c P.batch rows 0)) (sym k) (pieces-distinct P.batch rows 0 _),
  )

  module _ (f : ℕ → List (Batch R)) (m : ℕ → List R) (n : ℕ) (i : IsNode P n) (o : (e : ℕ) → IsInput P n e → Opens e (f e) (m e)) where
    abbrev v : Node R
    v = P.node n

    abbrev V : View R
    V = view P s0 n

    abbrev C : Coming R
    C = coming P s0 f n

    -- all that it folds is what the input gives
    folds-all : all_folded V C ≡ f (folds_from P n)
    folds-all = let h = held0 n in rw h refl

    opens-source : IsSource (P.node n) → Opens n (future_with P s0 f n) (whole v (m v.first) (m v.second))
    opens-source e =
        along n _ (pieces_from v.kept P.batch v.table 0) _ v.table
        (ap (λ q. future_by v P.batch q V C) e ∙ ap (λ (g : List (Batch R)). g ++ pieces_from v.kept P.batch v.table 0) (given0 n))
        (whole-source P n (m v.first) (m v.second) e)
        (pieces-open n v.table)

    opens-streams : OnlyStreams (P.node n) → Opens n (future_with P s0 f n) (whole v (m v.first) (m v.second))
    opens-streams st =
        let p = streams_input P W n i (inl st) in
        let x = o v.first p in
        let T : List (Batch R) = pieces_from v.kept P.batch (v.rest [] (rows_of (V.held ++ all_streamed C))) 0 in
        along n _ (map (whole_of v []) (f v.first)) _ (v.part [] (m v.first))
        (ap (λ q. future_by v P.batch q V C) st
        ∙ ap (λ (g : List (Batch R)). g ++ (map (whole_of v []) (f v.first) ++ cond v.tails T [])) (given0 n)
        ∙ ap (λ c. map (whole_of v []) (f v.first) ++ cond c T []) ((W.nodes n i).plain st)
        ∙ append-nil (map (whole_of v []) (f v.first)))
        (whole-streams P n (m v.first) (m v.second) st) (
          streamed-opens v.kept (P.node v.first).kept (whole_of v []) (v.part []) ((W.nodes n i).in_order st) ((L.nodes n i).part_nil (inl st) []) ((L.nodes n i).part_append (inl st) [])
              (λ x. refl) (λ k x. marked-key true refl v k [] x) (f v.first) (m v.first) x.0,
          λ k. map-distinct (whole_of v []) (λ x. marked-key true refl v k [] x) (f v.first) (x.1 ((W.nodes n i).in_order st k)),
        )

    opens-folds : Folds (P.node n) → (P.node n).streams ≡ false → (P.node n).tails ≡ true → Opens n (future_with P s0 f n) (whole v (m v.first) (m v.second))
    opens-folds fo j tl =
        let e : folds_from P n ≡ v.first = ap (λ c. cond c v.second v.first) j in
        let p = folds_input P W n i fo in
        let x = o (folds_from P n) p in
        let b : List R = gathered (f (folds_from P n)) in
        let s : SameRows v.kept (v.rest b []) (v.rest (m (folds_from P n)) []) = (L.nodes n i).rest_same fo tl b (m (folds_from P n)) [] [] x.0 (SameSet-refl []) in
        let y = pieces-open n (v.rest b []) in
        along n _ (pieces_from v.kept P.batch (v.rest b []) 0) _ (v.rest (m (folds_from P n)) [])
        (ap (λ q. future_by v P.batch q V C) fo
        ∙ ap (λ c. cond c (joined_by v P.batch (gathered (all_folded V C)) C) (tails_by v P.batch (gathered (all_folded V C)) [])) j
        ∙ ap (λ c. cond c (pieces_from v.kept P.batch (v.rest (gathered (all_folded V C)) []) 0) []) tl
        ∙ ap (λ (z : List (Batch R)). pieces_from v.kept P.batch (v.rest (gathered z) []) 0) folds-all)
        (whole-folds P n (m v.first) (m v.second) fo j ∙ ap (λ c. cond c (v.rest (m v.first) []) (m v.first)) tl ∙ ap (λ k. v.rest (m k) []) (sym e))
        (SameRows-trans v.kept _ _ _ y.0 s, y.1)

    opens-join : IsJoin (P.node n) → Opens n (future_with P s0 f n) (whole v (m v.first) (m v.second))
    opens-join j =
        let e : folds_from P n ≡ v.second = ap (λ c. cond c v.second v.first) j.1 in
        let p1 = streams_input P W n i (inr j) in
        let p2 = folds_input P W n i j.0 in
        let x1 = o v.first p1 in
        let x2 = o (folds_from P n) p2 in
        let b : List R = gathered (f (folds_from P n)) in
        let y : List R = m (folds_from P n) in
        let loose : v.kept ≡ false = (W.nodes n i).loose_join j in
        along n _ (map (whole_of v b) (f v.first) ++ tails_by v P.batch b (rows_of (f v.first))) _ (v.part y (m v.first) ++ cond v.tails (v.rest y (m v.first)) [])
        (ap (λ q. future_by v P.batch q V C) j.0
        ∙ ap (λ c. cond c (joined_by v P.batch (gathered (all_folded V C)) C) (tails_by v P.batch (gathered (all_folded V C)) [])) j.1
        ∙ ap (λ (z : List (Batch R)). map (whole_of v (gathered z)) (f v.first) ++ tails_by v P.batch (gathered z) (rows_of (f v.first))) folds-all)
        (whole-join P n (m v.first) (m v.second) j ∙ ap (λ k. v.part (m k) (m v.first) ++ cond v.tails (v.rest (m k) (m v.first)) []) (sym e)) (
          subst (λ (c : Bool). SameRows c (gathered (map (whole_of v b) (f v.first) ++ tails_by v P.batch b (rows_of (f v.first)))) (v.part y (m v.first) ++ cond v.tails (v.rest y (m v.first)) [])) (sym loose)
              (λ h.
              let g : SameRows false (gathered (map (whole_of v b) (f v.first))) (v.part b (m v.first)) =
              streamed-opens false (P.node v.first).kept (whole_of v b) (v.part b) (λ z. cc) ((L.nodes n i).part_nil (inr j) b) ((L.nodes n i).part_append (inr j) b) (λ x. refl) (λ z. cc) (f v.first) (m v.first) x1.0 in
              let g1 = g h in
              let g2 = (L.nodes n i).part_same j b y (m v.first) x2.0 h in
              let r : Batch R → ℕ = λ z. weigh h z.rows in
              let a1 = weigh-gathered h (map (whole_of v b) (f v.first) ++ tails_by v P.batch b (rows_of (f v.first))) in
              let a2 = weigh-append r (map (whole_of v b) (f v.first)) (tails_by v P.batch b (rows_of (f v.first))) in
              let a3 = weigh-gathered h (map (whole_of v b) (f v.first)) in
              let a4 = weigh-append h (v.part y (m v.first)) (cond v.tails (v.rest y (m v.first)) []) in
              elim (true_or_false v.tails) [
                | inl tl ↦
                    let t1 = ap (λ c. weigh r (cond c (pieces_from v.kept P.batch (v.rest b (rows_of (f v.first))) 0) [])) tl in
                    let t2 = ap (λ c. weigh h (cond c (v.rest y (m v.first)) [])) tl in
                    let t3 = weigh-pieces_from v.kept P.batch (v.rest b (rows_of (f v.first))) W.batch h in
                    let set : SameSet (rows_of (f v.first)) (m v.first) = SameSet-weigh (rows_of (f v.first)) (m v.first) (λ h. weigh_rows h (f v.first) ∙ SameRows-weigh (P.node v.first).kept (gathered (f v.first)) (m v.first) x1.0 h) in
                    let t4 = SameRows-weigh v.kept _ _ ((L.nodes n i).rest_same j.0 tl b y (rows_of (f v.first)) (m v.first) x2.0 set) h in
                    omega arith
                | inr tl ↦
                    let t1 = ap (λ c. weigh r (cond c (pieces_from v.kept P.batch (v.rest b (rows_of (f v.first))) 0) [])) tl in
                    let t2 = ap (λ c. weigh h (cond c (v.rest y (m v.first)) [])) tl in
                    omega arith
              ]),
          λ k. let z = sym loose ∙ k in cc,
        )

    opens-node : n < P.sink → Opens n (future_with P s0 f n) (whole v (m v.first) (m v.second))
    opens-node l =
        elim (W.nodes n i).starts [
          | inl s ↦ opens-source s
          | inr s ↦ elim s [
            | inl fo ↦ elim (true_or_false v.streams) [ inl j ↦ opens-join (fo, j) | inr j ↦ opens-folds fo j ((W.nodes n i).gives l fo j) ]
            | inr st ↦ opens-streams st
          ]
        ]

  pub opens : (k n : ℕ) → IsNode P n → n < P.sink → n ≤ k → Opens n (future P k s0 n) (meaning_within P k n)
  unfolding future meaning_within
  opens zero n i l q = absurd (let z = i.0 in omega arith)
  opens (suc k) n i l q =
      opens-node (future P k s0) (meaning_within P k) n i
      (λ e p. opens k e (p.node, (let z = p.before in let y = i.1 in omega arith)) (let z = p.before in omega arith) (let z = p.before in omega arith)) l

  pub AllDistinct-opening : AllDistinct P L W s0
  AllDistinct-opening k n i l q ke =
      let p = folds_input P W n i q in
      let below : (e : ℕ) → IsInput P n e → Opens e (future P k s0 e) (meaning_within P k e) =
      λ e p. opens k e (p.node, (let z = p.before in let y = i.1 in omega arith)) (let z = p.before in let y = i.1 in omega arith) (let z = p.before in omega arith) in
      subst IsDistinct (sym (folds-all (future P k s0) (meaning_within P k) n i below)) ((below (folds_from P n) p).1 ke)

  sink_whole : meaning_within P (suc P.sink) P.sink ≡ meaning_within P P.sink (P.node P.sink).first
  unfolding meaning_within
  sink_whole =
      let x : List R = meaning_within P P.sink (P.node P.sink).first in
      let y : List R = meaning_within P P.sink (P.node P.sink).second in
      whole-folds P P.sink x y W.sink.folds W.sink.only_folds.0 ∙ ap (λ c. cond c ((P.node P.sink).rest x []) x) W.sink.only_folds.1

  -- the sink will have the rows of the plan's meaning
  pub answer-opening : SameRows (fold_kept P L W P.sink) (answer P s0) (meaning P P.sink)
  answer-opening =
      let i : IsNode P P.sink = (W.sink_node, omega arith) in
      let e : ℕ = folds_from P P.sink in
      let p = folds_input P W P.sink i W.sink.folds in
      let below : (d : ℕ) → IsInput P P.sink d → Opens d (future P P.sink s0 d) (meaning_within P P.sink d) =
      λ d q. opens P.sink d (q.node, (let z = q.before in omega arith)) q.before (let z = q.before in omega arith) in
      let x = below e p in
      let a : answer P s0 ≡ gathered (future P P.sink s0 e) =
      ap (λ q. base_by q (view P s0 P.sink) (coming P s0 (future P P.sink s0) P.sink)) W.sink.folds
      ∙ ap (gathered {R = R}) (folds-all (future P P.sink s0) (meaning_within P P.sink) P.sink i below) in
      let ee : e ≡ (P.node P.sink).first = ap (λ c. cond c (P.node P.sink).second (P.node P.sink).first) W.sink.only_folds.0 in
      let b : meaning P P.sink ≡ meaning_within P P.sink e = meaning-more P W P.sink P.sink i (omega arith) ∙ sink_whole ∙ ap (meaning_within P P.sink) (sym ee) in
      SameRows-trans (fold_kept P L W P.sink) _ _ _ (SameRows-equal _ _ _ a) (SameRows-trans (fold_kept P L W P.sink) _ _ _ x.0 (SameRows-equal _ _ _ (sym b)))
