-- A node whose own state stays gives the same, where the same comes to it.
use Rattle.std.proofs.Common.{◌≡◌, ℕ, ◌≤◌, ◌⊎◌, inl, inr, Bool, true, false, cond, List, [], ◌∷◌, ◌++◌, drop, map, refl, sym, ap, subst, arith, ◌∙◌}
use Rattle.plan_machine.specs.declared.entry.Phase.{Phase}
use Rattle.plan_machine.specs.declared.entry.Phase.TheVariants.{Emitting, Folding, Streaming, Tailing, Sealed, Done}
use Rattle.plan_machine.specs.Lists.{weigh}
use Rattle.plan_machine.specs.Batch.{Batch, rows_of, gathered, marked}
use Rattle.plan_machine.specs.Plan.{Plan, Node, IsNode, Folds, IsJoin, folds_from, streams_from}
use Rattle.plan_machine.specs.Meaning.{SameRows, SameSet}
use Rattle.plan_machine.specs.WellFormed.{Streams, Lawful, WellFormed}
use Rattle.plan_machine.proofs.Weigh.{weigh-append, weigh-map, weigh-same}
use Rattle.plan_machine.proofs.Same.{IsTest, Same, IsDistinct, SameRows-refl, SameSet-refl, SameSet-weigh, Same-refl, Same-rows, gathered-same}
use Rattle.plan_machine.proofs.Pieces.{pieces-same, map-same}
use Rattle.plan_machine.proofs.Value.{whole_of, remains_of, View, Coming, all_folded, all_streamed, base_by, tails_by, streamed_by, future_by}

pub true_or_false : (b : Bool) → (b ≡ true) ⊎ (b ≡ false)
true_or_false true = inl refl
true_or_false false = inr refl

module _ {R : Type 0} where
  pub Same-append : (kept : Bool) (a a' b b' : List (Batch R)) → Same kept a a' → Same kept b b' → Same kept (a ++ b) (a' ++ b')
  Same-append kept a a' b b' s t H q =
      let x = weigh-append H a b in
      let y = weigh-append H a' b' in
      let z = s H q in
      let w = t H q in
      omega arith

  pub Same-trans : (kept : Bool) (a b c : List (Batch R)) → Same kept a b → Same kept b c → Same kept a c
  Same-trans kept a b c s t H q = s H q ∙ t H q

  pub cond-same : (kept b : Bool) (x x' y y' : List (Batch R)) → (b ≡ true → Same kept x x') → (b ≡ false → Same kept y y') → Same kept (cond b x y) (cond b x' y')
  cond-same kept true x x' y y' f g = f refl
  cond-same kept false x x' y y' f g = g refl

  -- a batch that is taken for the first time gives all that it has
  pub fresh-remains : (v : Node R) (b : List R) (H : Batch R → ℕ) (xs : List (Batch R)) → weigh (λ x. x.from) xs ≡ 0 → weigh H (map (remains_of v b) xs) ≡ weigh H (map (whole_of v b) xs)
  fresh-remains v b H [] z = refl
  fresh-remains v b H (x ∷ xs) z =
      let r = fresh-remains v b H xs (omega arith) in
      let e : x.from ≡ 0 = omega arith in
      let q : H (remains_of v b x) ≡ H (whole_of v b x) = ap (λ k. H (record { index = marked v.kept x.index; rows = drop k (v.part b x.rows); from = 0 })) e in
      omega arith

  pub tails-same : (v : Node R) (batch : ℕ) (b c ys zs : List R) → 1 ≤ batch → (v.tails ≡ true → SameRows v.kept (v.rest b ys) (v.rest c zs)) → Same v.kept (tails_by v batch b ys) (tails_by v batch c zs)
  tails-same v batch b c ys zs l s =
      elim (true_or_false v.tails) [
        | inl e ↦ rw e (pieces-same v.kept batch (v.rest b ys) (v.rest c zs) l (s e))
        | inr e ↦ rw e (Same-refl v.kept [])
      ]

module _ {R : Type 0} (P : Plan R) (L : Lawful P) (W : WellFormed P) where
  abbrev pub fold_kept : ℕ → Bool
  fold_kept n = (P.node (folds_from P n)).kept

  abbrev pub stream_kept : ℕ → Bool
  stream_kept n = (P.node (streams_from P n)).kept

  pub in_order : (n : ℕ) → IsNode P n → Streams (P.node n) → (P.node n).kept ≡ true → stream_kept n ≡ true
  in_order n i (inl s) k = (W.nodes n i).in_order s k
  in_order n i (inr j) k = let e = (W.nodes n i).loose_join j in cc

  -- what comes to a node, before and after
  pub record Arrives (n : ℕ) (q : Phase) (V : View R) (C C' : Coming R) : Type 0 where
    pub folds : q ≡ Folding → Folds (P.node n)
    pub streams : q ≡ Streaming → Streams (P.node n)
    pub folded : Folds (P.node n) → Same (fold_kept n) (C.folded_waiting ++ C.folded_later) (C'.folded_waiting ++ C'.folded_later)
    pub distinct : q ≡ Folding → fold_kept n ≡ true → IsDistinct (all_folded V C)
    pub new : List (Batch R)
    pub fresh : weigh (λ x. x.from) new ≡ 0
    pub waiting : Streams (P.node n) → C'.streamed_waiting ≡ C.streamed_waiting ++ new
    pub streamed : Streams (P.node n) → Same (stream_kept n) C.streamed_later (new ++ C'.streamed_later)

  pub map-whole : (n : ℕ) → IsNode P n → Streams (P.node n) → (b : List R) (xs ys : List (Batch R)) → Same (stream_kept n) xs ys → Same (P.node n).kept (map (whole_of (P.node n) b) xs) (map (whole_of (P.node n) b) ys)
  map-whole n i st b xs ys s =
      map-same (P.node n).kept (stream_kept n) (whole_of (P.node n) b) ((P.node n).part b) (in_order n i st) ((L.nodes n i).part_nil st b) ((L.nodes n i).part_append st b) (λ x. refl) xs ys s

  -- a join whose gathered rows are the same gives the same rows
  pub map-base : (n : ℕ) → IsNode P n → IsJoin (P.node n) → (b c : List R) → SameRows (fold_kept n) b c → (xs : List (Batch R)) → Same (P.node n).kept (map (whole_of (P.node n) b) xs) (map (whole_of (P.node n) c) xs)
  map-base n i j b c s xs H t =
      let k : (P.node n).kept ≡ false = (W.nodes n i).loose_join j in
      let t' : IsTest false H = subst (λ (q : Bool). IsTest q H) k t in
      let l = weigh-map H (whole_of (P.node n) b) xs in
      let r = weigh-map H (whole_of (P.node n) c) xs in
      let m = weigh-same (λ x. H (whole_of (P.node n) b x)) (λ x. H (whole_of (P.node n) c x)) xs (λ x. t'.1 (whole_of (P.node n) b x) ∙ (L.nodes n i).part_same j b c x.rows s t'.0 ∙ sym (t'.1 (whole_of (P.node n) c x))) in
      omega arith

  -- a node that folds the same gives the same
  pub folding-same : (n : ℕ) → IsNode P n → (V V' : View R) (C C' : Coming R) → Folds (P.node n) → Same (fold_kept n) (all_folded V C) (all_folded V' C') → (fold_kept n ≡ true → IsDistinct (all_folded V C)) → (Streams (P.node n) → Same (stream_kept n) (all_streamed C) (all_streamed C')) → V.streamed ≡ V'.streamed → Same (P.node n).kept (future_by (P.node n) P.batch Folding V C) (future_by (P.node n) P.batch Folding V' C')
  folding-same n i V V' C C' f s d st e =
      let b : List R = gathered (all_folded V C) in
      let c : List R = gathered (all_folded V' C') in
      let g : SameRows (fold_kept n) b c = gathered-same L.equality (fold_kept n) (all_folded V C) (all_folded V' C') s d in
      cond-same (P.node n).kept (P.node n).streams _ _ _ _
      (λ j. Same-append (P.node n).kept _ _ _ _
      (Same-trans (P.node n).kept _ _ _ (map-base n i (f, j) b c g (all_streamed C)) (map-whole n i (inr (f, j)) c (all_streamed C) (all_streamed C') (st (inr (f, j)))))
      (tails-same (P.node n) P.batch b c _ _ W.batch (λ t. (L.nodes n i).rest_same f t b c _ _ g (SameSet-weigh _ _ (Same-rows (stream_kept n) (all_streamed C) (all_streamed C') (st (inr (f, j))))))))
      (λ j. tails-same (P.node n) P.batch b c _ _ W.batch (λ t. (L.nodes n i).rest_same f t b c _ _ g (subst (λ (x : List (Batch R)). SameSet (rows_of V.streamed) (rows_of x)) e (SameSet-refl (rows_of V.streamed)))))

  -- only a join tails after it streamed
  no_tails : (n : ℕ) → IsNode P n → Streams (P.node n) → (P.node n).tails ≡ true → IsJoin (P.node n)
  no_tails n i (inl o) t = let e = (W.nodes n i).plain o in cc
  no_tails n i (inr j) t = j

  pub tails-set : (n : ℕ) → IsNode P n → Streams (P.node n) → (b ys zs : List R) → SameSet ys zs → Same (P.node n).kept (tails_by (P.node n) P.batch b ys) (tails_by (P.node n) P.batch b zs)
  tails-set n i st b ys zs e = tails-same (P.node n) P.batch b b ys zs W.batch (λ t. (L.nodes n i).rest_same (no_tails n i st t).0 t b b ys zs (SameRows-refl (fold_kept n) b) e)

  module _ (n : ℕ) (i : IsNode P n) (V : View R) (C C' : Coming R) where
    all_streamed-same : (q : Phase) → Arrives n q V C C' → Streams (P.node n) → Same (stream_kept n) (all_streamed C) (all_streamed C')
    all_streamed-same q A st H t =
        let a = weigh-append H C.streamed_waiting C.streamed_later in
        let b = weigh-append H C'.streamed_waiting C'.streamed_later in
        let c = ap (weigh H) (A.waiting st) in
        let d = weigh-append H C.streamed_waiting A.new in
        let e = A.streamed st H t in
        let f = weigh-append H A.new C'.streamed_later in
        omega arith

    pub all_folded-same : (q : Phase) → Arrives n q V C C' → Folds (P.node n) → Same (fold_kept n) (all_folded V C) (all_folded V C')
    all_folded-same q A f = Same-append (fold_kept n) V.held V.held (C.folded_waiting ++ C.folded_later) (C'.folded_waiting ++ C'.folded_later) (Same-refl (fold_kept n) V.held) (A.folded f)

    pub base-passed : (q : Phase) → Arrives n q V C C' → SameRows (fold_kept n) (base_by q V C) (base_by q V C')
    base-passed Emitting A = SameRows-refl (fold_kept n) V.built
    base-passed Folding A = gathered-same L.equality (fold_kept n) (all_folded V C) (all_folded V C') (all_folded-same Folding A (A.folds refl)) (A.distinct refl)
    base-passed Streaming A = SameRows-refl (fold_kept n) V.built
    base-passed Tailing A = SameRows-refl (fold_kept n) V.built
    base-passed Sealed A = SameRows-refl (fold_kept n) V.built
    base-passed Done A = SameRows-refl (fold_kept n) V.built

    held-set : (q : Phase) → Arrives n q V C C' → Streams (P.node n) → SameSet (rows_of (V.held ++ all_streamed C)) (rows_of (V.held ++ all_streamed C'))
    held-set q A st =
        SameSet-weigh _ _ (Same-rows (stream_kept n) (V.held ++ all_streamed C) (V.held ++ all_streamed C')
        (Same-append (stream_kept n) V.held V.held (all_streamed C) (all_streamed C') (Same-refl (stream_kept n) V.held) (all_streamed-same q A st)))

    streamed-same : (A : Arrives n Streaming V C C') → Same (P.node n).kept (streamed_by (P.node n) V.built C) (streamed_by (P.node n) V.built C')
    streamed-same A H t =
        let st = A.streams refl in
        let v : Node R = P.node n in
        let a = weigh-append H (map (remains_of v V.built) C.streamed_waiting) (map (whole_of v V.built) C.streamed_later) in
        let b = weigh-append H (map (remains_of v V.built) C'.streamed_waiting) (map (whole_of v V.built) C'.streamed_later) in
        let c = weigh-map H (remains_of v V.built) C.streamed_waiting in
        let d = weigh-map H (remains_of v V.built) C'.streamed_waiting in
        let e = ap (weigh (λ x. H (remains_of v V.built x))) (A.waiting st) in
        let f = weigh-append (λ x. H (remains_of v V.built x)) C.streamed_waiting A.new in
        let g = fresh-remains v V.built H A.new A.fresh in
        let g' = weigh-map H (remains_of v V.built) A.new in
        let h = map-whole n i st V.built C.streamed_later (A.new ++ C'.streamed_later) (A.streamed st) H t in
        let h' = weigh-map H (whole_of v V.built) (A.new ++ C'.streamed_later) in
        let k = weigh-append (λ x. H (whole_of v V.built x)) A.new C'.streamed_later in
        let k' = weigh-map H (whole_of v V.built) A.new in
        let k2 = weigh-map H (whole_of v V.built) C'.streamed_later in
        omega arith

    pub future-passed : (q : Phase) → Arrives n q V C C' → Same (P.node n).kept (future_by (P.node n) P.batch q V C) (future_by (P.node n) P.batch q V C')
    future-passed Emitting A = Same-refl (P.node n).kept _
    future-passed Folding A =
        folding-same n i V V C C' (A.folds refl) (all_folded-same Folding A (A.folds refl)) (A.distinct refl) (all_streamed-same Folding A) refl
    future-passed Streaming A =
        Same-append (P.node n).kept V.given V.given _ _ (Same-refl (P.node n).kept V.given)
        (Same-append (P.node n).kept _ _ _ _ (streamed-same A)
        (tails-set n i (A.streams refl) V.built _ _ (held-set Streaming A (A.streams refl))))
    future-passed Tailing A = Same-refl (P.node n).kept _
    future-passed Sealed A = Same-refl (P.node n).kept []
    future-passed Done A = Same-refl (P.node n).kept []
