-- What is counted of the batches that were folded.
use Rattle.std.proofs.Common.{◌≡◌, ℕ, zero, suc, ◌+◌, ◌-◌, ◌<◌, ◌≤◌, ◌^◌, min, max, ◌⊎◌, inl, inr, ◌↔◌, false, cond, nat_eq, nat_lt, List, [], ◌∷◌, ◌++◌, map, length, refl, sym, ap, subst, ◌∙◌, arith, slice_index_or, eqb-true, eq-eqb}
use Rattle.std.specs.List.{remove}
use Rattle.std.proofs.lemmas.List.{length-append}
use Rattle.std.proofs.Math.Nat.{min-le_left, min-le_right, le-min, min-eq_left, min-eq_right, le-max_left, le-max_right, max-eq_left, max-eq_right}
use Rattle.std.proofs.lemmas.Bool.{ltb-true, lt-ltb, ltb-false, le-ltb, cases_Bool}
use Rattle.plan_machine.specs.Lists.{weigh}
use Rattle.plan_machine.specs.Batch.{Batch, key, rows_at, count_at}
use Rattle.plan_machine.specs.Enabled.{front, HasFront}
use Rattle.plan_machine.proofs.Weigh.{weigh-append, same_or}
use Rattle.fetch_counts.specs.declared.front.Run.{Run}
use Rattle.fetch_counts.specs.Counts.{count_of, AreOf, AreOfAll, AreBehind, Touch, IsApart, AreApart, IsJoined}

abbrev Count : Type 0
Count = ℕ × ℕ

-- whether a batch has no index below this one, has one below, or has this one
abbrev not_below : ℕ → Count → ℕ
not_below u b = cond (nat_lt b.0 u) 0 1

abbrev is_below : ℕ → Count → ℕ
is_below u b = cond (nat_lt b.0 u) 1 0

abbrev has_index : ℕ → Count → ℕ
has_index i b = cond (nat_eq b.0 i) 1 0

-- ---- sums up to a bound

least_of : (a m : ℕ) → (min a m ≡ a) ⊎ (m ≤ min a m)
least_of a m = elim (cases_Bool (nat_lt a m)) [
  | inl t ↦ inl (let lt = ltb-true a m t in let up = min-le_left a m in let low = le-min {k = a} {a = a} {b = m} (omega arith) (omega arith) in omega arith)
  | inr f ↦ inr (let le = ltb-false a m f in le-min {k = m} {a = a} {b = m} le (omega arith))
]

min_again : (a b m : ℕ) → min (min a m + b) m ≡ min (b + a) m
min_again a b m =
    let x = min-le_left (min a m + b) m in
    let y = min-le_right (min a m + b) m in
    let z = min-le_left a m in
    let low = le-min {k = min (min a m + b) m} {a = b + a} {b = m} (omega arith) y in
    let v = min-le_left (b + a) m in
    let w = min-le_right (b + a) m in
    let up : min (b + a) m ≤ min (min a m + b) m = elim (least_of a m) [
      | inl e ↦ le-min {k = min (b + a) m} {a = min a m + b} {b = m} (omega arith) w
      | inr e ↦ le-min {k = min (b + a) m} {a = min a m + b} {b = m} (omega arith) w
    ] in
    omega arith

-- two sums up to a bound, up to it together
min_both : (a b m : ℕ) → min (min a m + min b m) m ≡ min (a + b) m
min_both a b m = min_again a (min b m) m ∙ min_again b a m

max_of : (a b : ℕ) → (a ≤ max a b) × (b ≤ max a b) × ((max a b ≡ a) ⊎ (max a b ≡ b))
max_of a b = (
  le-max_left a b,
  le-max_right a b,
  elim (cases_Bool (nat_lt a b)) [
    | inl t ↦ inr (let lt = ltb-true a b t in max-eq_right (omega arith))
    | inr f ↦ inl (max-eq_left (ltb-false a b f))
  ],
)

min_of : (a b : ℕ) → (min a b ≤ a) × (min a b ≤ b) × ((min a b ≡ a) ⊎ (min a b ≡ b))
min_of a b = (
  min-le_left a b,
  min-le_right a b,
  elim (cases_Bool (nat_lt a b)) [
    | inl t ↦ inl (let lt = ltb-true a b t in min-eq_left (omega arith))
    | inr f ↦ inr (min-eq_right (ltb-false a b f))
  ],
)

-- ---- lists of counts

-- what stands below an index stands below a later one
still_below : (u v : ℕ) → u ≤ v → (xs : List Count) → weigh (not_below u) xs ≡ 0 → weigh (not_below v) xs ≡ 0
still_below u v le [] e = refl
still_below u v le (x ∷ xs) e = elim (cases_Bool (nat_lt x.0 u)) [
  | inl t ↦
      let lt = ltb-true x.0 u t in
      let here = lt-ltb x.0 v (omega arith) in
      let zero : 0 + weigh (not_below u) xs ≡ 0 = rw t at e in
      let rest : weigh (not_below u) xs ≡ 0 = omega arith in
      let more = still_below u v le xs rest in
      rw here (omega arith)
  | inr f ↦ absurd (let no : 1 + weigh (not_below u) xs ≡ 0 = rw f at e in omega arith)
]

-- where nothing stands below an index, nothing does below an earlier one
still_over : (u v : ℕ) → v ≤ u → (xs : List Count) → weigh (is_below u) xs ≡ 0 → weigh (is_below v) xs ≡ 0
still_over u v le [] e = refl
still_over u v le (x ∷ xs) e = elim (cases_Bool (nat_lt x.0 u)) [
  | inl t ↦ absurd (let no : 1 + weigh (is_below u) xs ≡ 0 = rw t at e in omega arith)
  | inr f ↦
      let over = ltb-false x.0 u f in
      let here = le-ltb x.0 v (omega arith) in
      let zero : 0 + weigh (is_below u) xs ≡ 0 = rw f at e in
      let rest : weigh (is_below u) xs ≡ 0 = omega arith in
      let more = still_over u v le xs rest in
      rw here (omega arith)
]

-- where all stand below an index, none has it or a later one
none_at : (u i : ℕ) → u ≤ i → (xs : List Count) → weigh (not_below u) xs ≡ 0 → weigh (has_index i) xs ≡ 0
none_at u i le [] e = refl
none_at u i le (x ∷ xs) e = elim (cases_Bool (nat_lt x.0 u)) [
  | inl t ↦
      let lt = ltb-true x.0 u t in
      let zero : 0 + weigh (not_below u) xs ≡ 0 = rw t at e in
      let rest : weigh (not_below u) xs ≡ 0 = omega arith in
      elim (cases_Bool (nat_eq x.0 i)) [
        | inl q ↦ absurd (let same = eqb-true x.0 i q in omega arith)
        | inr q ↦ let more = none_at u i le xs rest in rw q (omega arith)
      ]
  | inr f ↦ absurd (let no : 1 + weigh (not_below u) xs ≡ 0 = rw f at e in omega arith)
]

-- where nothing stands below a later index, none has this one
none_before : (u i : ℕ) → i < u → (xs : List Count) → weigh (is_below u) xs ≡ 0 → weigh (has_index i) xs ≡ 0
none_before u i le [] e = refl
none_before u i le (x ∷ xs) e = elim (cases_Bool (nat_lt x.0 u)) [
  | inl t ↦ absurd (let no : 1 + weigh (is_below u) xs ≡ 0 = rw t at e in omega arith)
  | inr f ↦
      let over = ltb-false x.0 u f in
      let zero : 0 + weigh (is_below u) xs ≡ 0 = rw f at e in
      let rest : weigh (is_below u) xs ≡ 0 = omega arith in
      elim (cases_Bool (nat_eq x.0 i)) [
        | inl q ↦ absurd (let same = eqb-true x.0 i q in omega arith)
        | inr q ↦ let more = none_before u i le xs rest in rw q (omega arith)
      ]
]

-- the rows of those below an index
abbrev rows_below : ℕ → Count → ℕ
rows_below u b = cond (nat_lt b.0 u) b.1 0

all_below : (u : ℕ) (xs : List Count) → weigh (not_below u) xs ≡ 0 → weigh (rows_below u) xs ≡ weigh (λ b. b.1) xs
all_below u [] e = refl
all_below u (x ∷ xs) e = elim (cases_Bool (nat_lt x.0 u)) [
  | inl t ↦
      let zero : 0 + weigh (not_below u) xs ≡ 0 = rw t at e in
      let rest : weigh (not_below u) xs ≡ 0 = omega arith in
      rw t (ap (λ k. x.1 + k) (all_below u xs rest))
  | inr f ↦ absurd (let no : 1 + weigh (not_below u) xs ≡ 0 = rw f at e in omega arith)
]

none_below : (u v : ℕ) → v ≤ u → (xs : List Count) → weigh (is_below u) xs ≡ 0 → weigh (rows_below v) xs ≡ 0
none_below u v le [] e = refl
none_below u v le (x ∷ xs) e = elim (cases_Bool (nat_lt x.0 u)) [
  | inl t ↦ absurd (let no : 1 + weigh (is_below u) xs ≡ 0 = rw t at e in omega arith)
  | inr f ↦
      let over = ltb-false x.0 u f in
      let zero : 0 + weigh (is_below u) xs ≡ 0 = rw f at e in
      let rest : weigh (is_below u) xs ≡ 0 = omega arith in
      let here = le-ltb x.0 v (omega arith) in
      let more = none_below u v le xs rest in
      rw here (omega arith)
]

-- ---- runs

-- one batch is a run
single : (i rows : ℕ) → rows ≤ 2 ^ 64 - 1 → AreOf i (i + 1) rows ((i, rows) ∷ [])
single i rows few = record {
  low = (let not = le-ltb i i (omega arith) in rw not refl);
  high = (let lt = lt-ltb i (i + 1) (omega arith) in rw lt refl);
  there = λ j le lt. (let same = eq-eqb i j (omega arith) in rw same (omega arith));
  sum =
      let low = le-min {k = rows} {a = rows + 0} {b = 2 ^ 64 - 1} (omega arith) few in
      let up = min-le_left (rows + 0) (2 ^ 64 - 1) in
      omega arith;
}

-- two runs without a gap between them are one
together : (f u r f' u' r' f2 u2 r2 : ℕ) (own own' : List Count) → f ≤ u' → f' ≤ u → f2 ≡ min f f' → u2 ≡ max u u' → r2 ≡ min (r + r') (2 ^ 64 - 1)
    → AreOf f u r own → AreOf f' u' r' own' → AreOf f2 u2 r2 (own ++ own')
together f u r f' u' r' f2 u2 r2 own own' near near' low high sum a b =
    let m = min_of f f' in
    let n = max_of u u' in
    record {
      low =
          let x = still_over f f2 (omega arith) own a.low in
          let y = still_over f' f2 (omega arith) own' b.low in
          let z = weigh-append (is_below f2) own own' in
          omega arith;
      high =
          let x = still_below u u2 (omega arith) own a.high in
          let y = still_below u' u2 (omega arith) own' b.high in
          let z = weigh-append (not_below u2) own own' in
          omega arith;
      there = λ i le lt.
          let z = weigh-append (has_index i) own own' in
          elim (in_one i le lt) [
            | inl h ↦ let x = a.there i h.0 h.1 in omega arith
            | inr h ↦ let x = b.there i h.0 h.1 in omega arith
          ];
      sum =
          sum
          ∙ ap (λ k. min (k + r') (2 ^ 64 - 1)) a.sum
          ∙ ap (λ k. min (min (weigh (λ b. b.1) own) (2 ^ 64 - 1) + k) (2 ^ 64 - 1)) b.sum
          ∙ min_both (weigh (λ b. b.1) own) (weigh (λ b. b.1) own') (2 ^ 64 - 1)
          ∙ ap (λ k. min k (2 ^ 64 - 1)) (sym (weigh-append (λ b. b.1) own own'));
    }
  where
    in_one : (i : ℕ) → f2 ≤ i → i < u2 → ((f ≤ i) × (i < u)) ⊎ ((f' ≤ i) × (i < u'))
    in_one i le lt =
        let m = min_of f f' in
        let n = max_of u u' in
        elim (cases_Bool (nat_lt i u)) [
          | inl t ↦
              let below = ltb-true i u t in
              elim (cases_Bool (nat_lt i f)) [
                | inl s ↦
                    let before = ltb-true i f s in
                    inr (elim m.2 [ inl e ↦ absurd (omega arith) | inr e ↦ omega arith ], omega arith)
                | inr s ↦ inl (ltb-false i f s, below)
              ]
          | inr t ↦
              let over = ltb-false i u t in
              inr (omega arith, elim n.2 [ inl e ↦ absurd (omega arith) | inr e ↦ omega arith ])
        ]

-- one of the runs apart from the others
record Taken (r : Run) (others : List Run) (all : List Count) : Type 0 where
  own : List Count
  rest : List Count
  is : AreOf r.from r.upto r.rows own
  more : AreOfAll others rest
  both : (h : Count → ℕ) → weigh h all ≡ weigh h own + weigh h rest

take_out : (xs : List Run) (p : ℕ) (r : Run) (all : List Count) → p < length xs → r ≡ slice_index_or xs p r → AreOfAll xs all → Taken r (remove xs p) all
take_out [] p r all lt is a = absurd (omega arith)
take_out (x ∷ xs) zero r all lt is a =
    subst (λ t. Taken t xs all) (sym is)
    (record { own = a.0; rest = a.1; is = a.2; more = a.3; both = a.4 })
take_out (x ∷ xs) (suc p) r all lt is a =
    let t = take_out xs p r a.1 (omega arith) is a.3 in
    record {
      own = t.own;
      rest = a.0 ++ t.rest;
      is = t.is;
      more = (a.0, t.rest, a.2, t.more, λ h. weigh-append h a.0 t.rest);
      both = λ h. let x = a.4 h in let y = t.both h in let z = weigh-append h a.0 t.rest in omega arith;
    }

-- a run takes in another one
pub gathered : (xs : List Run) (p : ℕ) (run r j : Run) (all : List Count) → p < length xs → r ≡ slice_index_or xs p r → Touch run r → IsJoined run r j → AreOfAll (run ∷ xs) all → AreOfAll (j ∷ remove xs p) all
gathered xs p run r j all lt is near e a =
    let t = take_out xs p r a.1 lt is a.3 in (
      a.0 ++ t.own,
      t.rest,
      together run.from run.upto run.rows r.from r.upto r.rows j.from j.upto j.rows a.0 t.own near.0 near.1 e.from e.upto e.rows a.2 t.is,
      t.more,
      λ h. let x = a.4 h in let y = t.both h in let z = weigh-append h a.0 t.own in omega arith,
    )

-- a run more
put_last : (xs : List Run) (r : Run) (own rest : List Count) → AreOf r.from r.upto r.rows own → AreOfAll xs rest → AreOfAll (xs ++ r ∷ []) (rest ++ own)
put_last [] r own rest is a = (own, [], is, λ h. refl, λ h. let x = a h in let y = weigh-append h rest own in omega arith)
put_last (x ∷ xs) r own rest is a = (
  a.0,
  a.1 ++ own,
  a.2,
  put_last xs r own a.1 is a.3,
  λ h. let x = a.4 h in let y = weigh-append h rest own in let z = weigh-append h a.1 own in omega arith,
)

-- ---- runs behind gaps

abbrev not_behind : ℕ → Run → ℕ
not_behind u r = cond (nat_lt u r.from) 0 1

weigh_remove : (h : Run → ℕ) (xs : List Run) (p : ℕ) → p < length xs → weigh h xs ≡ 0 → weigh h (remove xs p) ≡ 0
weigh_remove h [] p lt e = absurd (omega arith)
weigh_remove h (x ∷ xs) zero lt e = let rest : weigh h xs ≡ 0 = omega arith in rest
weigh_remove h (x ∷ xs) (suc p) lt e = let more = weigh_remove h xs p (omega arith) (omega arith) in omega arith

pub behind_remove : (upto : ℕ) (xs : List Run) (p : ℕ) → p < length xs → AreBehind upto xs → AreBehind upto (remove xs p)
behind_remove upto xs p lt b = weigh_remove (not_behind upto) xs p lt b

-- where the first run grows by one that touches no other, the others still stand behind a gap
behind_joined : (run : Run) (upto upto' : ℕ) (xs : List Run) → IsApart run xs
    → run.from ≤ upto → upto' ≡ max upto run.upto → AreBehind upto xs → AreBehind upto' xs
behind_joined run upto upto' [] apart le is b = refl
behind_joined run upto upto' (x ∷ xs) apart le is b = elim (cases_Bool (nat_lt upto x.from)) [
  | inl t ↦
      let lt = ltb-true upto x.from t in
      let zero : 0 + weigh (not_behind upto) xs ≡ 0 = rw t at b in
      let rest : weigh (not_behind upto) xs ≡ 0 = omega arith in
      let more = behind_joined run upto upto' xs (λ k d low. apart (suc k) d (omega arith)) le is rest in
      let over : run.upto < x.from = elim (cases_Bool (nat_lt run.upto x.from)) [
        | inl s ↦ ltb-true run.upto x.from s
        | inr s ↦ absurd (apart 0 x (omega arith) (let o = x.ordered in omega arith, ltb-false run.upto x.from s))
      ] in
      let m = max_of upto run.upto in
      let here = lt-ltb upto' x.from (elim m.2 [ inl e ↦ omega arith | inr e ↦ omega arith ]) in
      rw here (omega arith)
  | inr f ↦ absurd (let no : 1 + weigh (not_behind upto) xs ≡ 0 = rw f at b in omega arith)
]

behind_last : (upto : ℕ) (xs : List Run) (run : Run) → upto < run.from → AreBehind upto xs → AreBehind upto (xs ++ run ∷ [])
behind_last upto xs run lt b =
    let x = weigh-append (not_behind upto) xs (run ∷ []) in
    let here = lt-ltb upto run.from lt in
    let one : weigh (not_behind upto) (run ∷ []) ≡ 0 = rw here refl in
    omega arith

-- ---- runs that don't touch

apart_less : (r : Run) (xs : List Run) (p : ℕ) → p < length xs → IsApart r xs → IsApart r (remove xs p)
apart_less r [] p lt h k d low = absurd (omega arith)
apart_less r (x ∷ xs) zero lt h k d low = h (suc k) d (omega arith)
apart_less r (x ∷ xs) (suc p) lt h zero d low = h 0 d (omega arith)
apart_less r (x ∷ xs) (suc p) lt h (suc k) d low = apart_less r xs p (omega arith) (λ j e l. h (suc j) e (omega arith)) k d (omega arith)

pub apart_remove : (xs : List Run) (p : ℕ) → p < length xs → AreApart xs → AreApart (remove xs p)
apart_remove [] p lt h j k d less low = absurd (omega arith)
apart_remove (x ∷ xs) zero lt h j k d less low = h (suc j) (suc k) d (omega arith) (omega arith)
apart_remove (x ∷ xs) (suc p) lt h j zero d less low = absurd (omega arith)
apart_remove (x ∷ xs) (suc p) lt h zero (suc k) d less low = apart_less x xs p (omega arith) (λ i e l. h 0 (suc i) e (omega arith) (omega arith)) k d (omega arith)
apart_remove (x ∷ xs) (suc p) lt h (suc j) (suc k) d less low = apart_remove xs p (omega arith) (λ i l e m n. h (suc i) (suc l) e (omega arith) (omega arith)) j k d (omega arith) (omega arith)

apart_more : (r : Run) (xs : List Run) (run : Run) → IsApart r xs → (Touch r run → ⊥) → IsApart r (xs ++ run ∷ [])
apart_more r [] run h free zero d low = free
apart_more r [] run h free (suc k) d low = absurd (omega arith)
apart_more r (x ∷ xs) run h free zero d low = h 0 d (omega arith)
apart_more r (x ∷ xs) run h free (suc k) d low = apart_more r xs run (λ i e l. h (suc i) e (omega arith)) free k d (omega arith)

pub apart_last : (xs : List Run) (run : Run) → AreApart xs → IsApart run xs → AreApart (xs ++ run ∷ [])
apart_last [] run h free j zero d less low = absurd (omega arith)
apart_last [] run h free j (suc k) d less low = absurd (omega arith)
apart_last (x ∷ xs) run h free j zero d less low = absurd (omega arith)
apart_last (x ∷ xs) run h free zero (suc k) d less low = apart_more x xs run (λ i e l. h 0 (suc i) e (omega arith) (omega arith)) (λ t. free 0 x (omega arith) (t.1, t.0)) k d (omega arith)
apart_last (x ∷ xs) run h free (suc j) (suc k) d less low = apart_last xs run (λ i l e m n. h (suc i) (suc l) e (omega arith) (omega arith)) (λ i e l. free (suc i) e (omega arith)) j k d (omega arith) (omega arith)

-- behind a gap none has the index that is missing, and there are no rows below it
none_behind : (u : ℕ) (xs : List Run) (all : List Count) → AreBehind u xs → AreOfAll xs all → (weigh (has_index u) all ≡ 0) × ((v : ℕ) → v ≤ u → weigh (rows_below v) all ≡ 0)
none_behind u [] all b a = (a (has_index u), λ v le. a (rows_below v))
none_behind u (x ∷ xs) all b a = elim (cases_Bool (nat_lt u x.from)) [
  | inl t ↦
      let lt = ltb-true u x.from t in
      let zero : 0 + weigh (not_behind u) xs ≡ 0 = rw t at b in
      let rest : weigh (not_behind u) xs ≡ 0 = omega arith in
      let more = none_behind u xs a.1 rest a.3 in (
        let here = none_before x.from u lt a.0 a.2.low in let m = more.0 in let w = a.4 (has_index u) in omega arith,
        λ v le. let here = none_below x.from v (omega arith) a.0 a.2.low in let m = more.1 v le in let w = a.4 (rows_below v) in omega arith,
      )
  | inr f ↦ absurd (let no : 1 + weigh (not_behind u) xs ≡ 0 = rw f at b in omega arith)
]

-- nothing was folded
pub counted_none : (R : Type 0) (first : Run) (behind : List Run) → first.upto ≡ 0 → first.rows ≡ 0 → behind ≡ []
    → AreOfAll (first ∷ behind) (map (count_of {R = R}) []) × AreBehind first.upto behind × AreApart behind
counted_none R first behind u r b = rw b (
  (
    [],
    [],
    record { low = refl; high = refl; there = λ i le lt. absurd (omega arith); sum = r ∙ refl },
    λ h. refl,
    λ h. refl,
  ),
  refl,
  λ j k d less low. absurd (omega arith),
)

-- ---- what was folded

module _ {R : Type 0} where
  weigh_counts : (h : Count → ℕ) (folded : List (Batch R)) → weigh h (map count_of folded) ≡ weigh (λ b. h (count_of b)) folded
  weigh_counts h [] = refl
  weigh_counts h (x ∷ xs) = ap (λ k. h (count_of x) + k) (weigh_counts h xs)

  one_folded : (h : Count → ℕ) (folded : List (Batch R)) (b : Batch R) → weigh h (map count_of (folded ++ b ∷ [])) ≡ weigh h (map count_of folded) + h (count_of b)
  one_folded h [] b = omega arith
  one_folded h (x ∷ xs) b = let more = one_folded h xs b in omega arith

  rows_at_length : (i : ℕ) (folded : List (Batch R)) → length (rows_at i folded) ≡ weigh (λ b. cond (nat_eq (key b) i) (length b.rows) 0) folded
  rows_at_length i [] = refl
  rows_at_length i (x ∷ xs) = elim (cases_Bool (nat_eq (key x) i)) [
    | inl t ↦ rw t (length-append x.rows (rows_at i xs) ∙ ap (λ k. length x.rows + k) (rows_at_length i xs))
    | inr f ↦ let more = rows_at_length i xs in rw f (omega arith)
  ]

  -- below one index more there are those below, and those with it
  one_more : (k : ℕ) (folded : List (Batch R)) → weigh (λ b. rows_below (suc k) (count_of b)) folded ≡ weigh (λ b. rows_below k (count_of b)) folded + weigh (λ b. cond (nat_eq (key b) k) (length b.rows) 0) folded
  one_more k [] = refl
  one_more k (x ∷ xs) =
      let rest = one_more k xs in
      elim (same_or (key x) k) [
        | inl e ↦
            let at = eq-eqb (key x) k e in
            let low = lt-ltb (key x) (suc k) (omega arith) in
            let not = le-ltb (key x) k (omega arith) in
            rw (at, low, not) (omega arith)
        | inr ne ↦
            let at : nat_eq (key x) k ≡ false = elim (cases_Bool (nat_eq (key x) k)) [ inl t ↦ absurd (ne (eqb-true (key x) k t)) | inr f ↦ f ] in
            elim (cases_Bool (nat_lt (key x) k)) [
              | inl t ↦
                  let lt = ltb-true (key x) k t in
                  let low = lt-ltb (key x) (suc k) (omega arith) in
                  rw (at, low, t) (omega arith)
              | inr f ↦
                  let le = ltb-false (key x) k f in
                  let high = le-ltb (key x) (suc k) (omega arith) in
                  rw (at, high, f) (omega arith)
            ]
      ]

  none_under : (folded : List (Batch R)) → weigh (λ b. rows_below 0 (count_of b)) folded ≡ 0
  none_under [] = refl
  none_under (x ∷ xs) = let low = le-ltb (key x) 0 (omega arith) in let more = none_under xs in rw low (omega arith)

  front_length : (k : ℕ) (folded : List (Batch R)) → length (front k folded) ≡ weigh (λ b. rows_below k (count_of b)) folded
  front_length zero folded = sym (none_under folded)
  front_length (suc k) folded =
      length-append (front k folded) (rows_at k folded)
      ∙ ap (λ n. n + length (rows_at k folded)) (front_length k folded)
      ∙ ap (λ n. weigh (λ b. rows_below k (count_of b)) folded + n) (rows_at_length k folded)
      ∙ sym (one_more k folded)

  -- A batch that is folded becomes a run, which takes in those that it touches: one run beside those behind gaps.
  abbrev pub Gathers : Batch R → List Run → List Run → Run → Type 0
  Gathers b behind behind' run =
      (all : List Count) → AreOfAll behind all → AreOfAll (run ∷ behind') (count_of b ∷ all)

  pub first_grows : (folded : List (Batch R)) (b : Batch R) (first first' run : Run) (behind behind' : List Run)
      → first.from ≡ 0 → run.from ≤ first.upto → IsJoined first run first'
      → Gathers b behind behind' run
      → IsApart run behind'
      → (AreBehind first.upto behind → AreBehind first.upto behind')
      → (AreApart behind → AreApart behind')
      → AreOfAll (first ∷ behind) (map count_of folded) × AreBehind first.upto behind × AreApart behind
      → AreOfAll (first' ∷ behind') (map count_of (folded ++ b ∷ [])) × AreBehind first'.upto behind' × AreApart behind'
  first_grows folded b first first' run behind behind' begins near e gathers apart far still f =
      let a = f.0 in
      let g = gathers a.1 a.3 in (
        (
          a.0 ++ g.0,
          g.1,
          together first.from first.upto first.rows run.from run.upto run.rows first'.from first'.upto first'.rows a.0 g.0 (omega arith) near e.from e.upto e.rows a.2 g.2,
          g.3,
          λ h. let x = a.4 h in let y = g.4 h in let z = weigh-append h a.0 g.0 in let w = one_folded h folded b in omega arith,
        ),
        behind_joined run first.upto first'.upto behind' apart near e.upto (far f.1),
        still f.2,
      )

  pub one_behind : (folded : List (Batch R)) (b : Batch R) (first run : Run) (behind behind' behind2 : List Run)
      → first.upto < run.from → behind2 ≡ behind' ++ run ∷ []
      → Gathers b behind behind' run
      → IsApart run behind'
      → (AreBehind first.upto behind → AreBehind first.upto behind')
      → (AreApart behind → AreApart behind')
      → AreOfAll (first ∷ behind) (map count_of folded) × AreBehind first.upto behind × AreApart behind
      → AreOfAll (first ∷ behind2) (map count_of (folded ++ b ∷ [])) × AreBehind first.upto behind2 × AreApart behind2
  one_behind folded b first run behind behind' behind2 lt is gathers apart far still f =
      let a = f.0 in
      let g = gathers a.1 a.3 in
      subst (λ xs. AreOfAll (first ∷ xs) (map count_of (folded ++ b ∷ [])) × AreBehind first.upto xs × AreApart xs) (sym is) (
        (
          a.0,
          g.1 ++ g.0,
          a.2,
          put_last behind' run g.0 g.1 g.2 g.3,
          λ h. let x = a.4 h in let y = g.4 h in let z = weigh-append h g.1 g.0 in let w = one_folded h folded b in omega arith,
        ),
        behind_last first.upto behind' run lt (far f.1),
        apart_last behind' run (still f.2) apart,
      )

  pub one_batch : (b : Batch R) (from rows : ℕ) (behind behind' : List Run) (run : Run) → key b ≡ from → length b.rows ≡ rows → rows ≤ 2 ^ 64 - 1
      → ((all : List Count) → (own : List Count) × (rest : List Count) × AreOf from (from + 1) rows own × AreOfAll behind rest × ((h : Count → ℕ) → weigh h all ≡ weigh h own + weigh h rest) → AreOfAll (run ∷ behind') all)
      → Gathers b behind behind' run
  one_batch b from rows behind behind' run at many few gathers all a =
      gathers (count_of b ∷ all) (
        count_of b ∷ [],
        all,
        rw (sym at, sym many) (single (key b) (length b.rows) (omega arith)),
        a,
        λ h. omega arith,
      )

  -- The first run ends where an index is missing, so its rows are those from the front on.
  module _ (folded : List (Batch R)) (first : Run) (behind : List Run) (zero : first.from ≡ 0) (a : AreOfAll (first ∷ behind) (map count_of folded)) (far : AreBehind first.upto behind) where
    total : (h : Count → ℕ) → weigh (λ b. h (count_of b)) folded ≡ weigh h a.0 + weigh h a.1
    total h = sym (weigh_counts h folded) ∙ a.4 h

    missing : count_at first.upto folded ≡ 0
    missing =
        let t = total (has_index first.upto) in
        let x = none_at first.upto first.upto (omega arith) a.0 a.2.high in
        let y = (none_behind first.upto behind a.1 far a.3).0 in
        omega arith

    below_is : (v : ℕ) → v ≤ first.upto → length (front v folded) ≡ weigh (rows_below v) a.0
    below_is v le =
        let t = total (rows_below v) in
        let y = (none_behind first.upto behind a.1 far a.3).1 v le in
        let z = front_length v folded in
        omega arith

    less_below : (v : ℕ) (xs : List Count) → weigh (rows_below v) xs ≤ weigh (λ b. b.1) xs
    less_below v [] = omega arith
    less_below v (x ∷ xs) =
        let rest = less_below v xs in
        elim (cases_Bool (nat_lt x.0 v)) [ inl t ↦ rw t (omega arith) | inr f ↦ rw f (omega arith) ]

    pub front_is : (wanted : ℕ) → wanted ≤ 2 ^ 64 - 1 → (wanted ≤ first.rows) ↔ HasFront folded wanted
    front_is wanted few = (
      λ le.
          let s = a.2.sum in
          let m = min-le_left (weigh (λ b. b.1) a.0) (2 ^ 64 - 1) in
          let x = below_is first.upto (omega arith) in
          let y = all_below first.upto a.0 a.2.high in
          record {
            upto = first.upto;
            there = λ i low.
                let b = total (has_index i) in
                let t = a.2.there i (omega arith) low in
                omega arith;
            enough = omega arith;
          },
      λ h.
          let s = a.2.sum in
          let low : h.upto ≤ first.upto = elim (cases_Bool (nat_lt first.upto h.upto)) [
            | inl t ↦ absurd (let one = h.there first.upto (ltb-true first.upto h.upto t) in let none = missing in omega arith)
            | inr f ↦ ltb-false first.upto h.upto f
          ] in
          let x = below_is h.upto low in
          let y = less_below h.upto a.0 in
          let e = h.enough in
          let m = le-min {k = wanted} {a = weigh (λ b. b.1) a.0} {b = 2 ^ 64 - 1} (omega arith) few in
          omega arith,
    )
