-- An example with a filter, an aggregate, an order_by and a fetch.
use Rattle.std.proofs.Common.{◌≡◌, ℕ, zero, suc, ◌+◌, ◌<◌, ◌≤◌, Bool, true, false, cond, nat_eq, nat_lt, List, [], ◌∷◌, ◌++◌, length, replicate, take, inl, inr, refl, sym, ◌∙◌, ap, arith, Option, Some, None, eq-eqb, eqb-true, lit≤, lit<}
use Rattle.std.proofs.lemmas.List.{take-append-le}
use Rattle.plan_machine.specs.declared.entry.Phase.TheVariants.{Folding, Streaming}
use Rattle.plan_machine.specs.Lists.{weigh, gather}
use Rattle.plan_machine.specs.Batch.{parts}
use Rattle.plan_machine.specs.Plan.{Plan, Node, IsNode, IsSource, IsJoin}
use Rattle.plan_machine.specs.Meaning.{SameRows, meaning, meaning_within}
use Rattle.plan_machine.specs.WellFormed.{LawfulNode, Lawful, IsPlaced, WellFormed, Streams}
use Rattle.plan_machine.specs.Budget.{IsBudget}
use Rattle.plan_machine.proofs.Weigh.{gather-same}
use Rattle.plan_machine.proofs.WitnessPlan.{times, source, streams_none}

-- the rows above one
abbrev pub above_one : List ℕ → List ℕ
above_one [] = []
above_one (x ∷ xs) = cond (nat_lt 1 x) (x ∷ above_one xs) (above_one xs)

abbrev pub total : List ℕ → ℕ
total xs = weigh (λ x. x) xs

-- each row once, lowest first
abbrev pub distinct : List ℕ → List ℕ
distinct xs = cond (nat_lt 0 (times 0 xs)) (0 ∷ []) [] ++ gather (total xs) (λ v. cond (nat_lt 0 (times v xs)) (v ∷ []) [])

-- all rows, lowest first
abbrev pub sorted : List ℕ → List ℕ
sorted xs = replicate (times 0 xs) 0 ++ gather (total xs) (λ v. replicate (times v xs) v)

abbrev pub filter_node : Node ℕ
filter_node =
    record {
      start = Streaming;
      table = [];
      streams = true;
      tails = false;
      cuts = false;
      kept = true;
      wanted = None;
      first = 1;
      second = 0;
      part = λ built xs. above_one xs;
      rest = λ built xs. [];
    }

-- a node that gathers its input and gives rows at its end
abbrev pub gathering : ℕ → Bool → Bool → Option ℕ → (List ℕ → List ℕ) → Node ℕ
gathering input gives ordered many rows =
    record {
      start = Folding;
      table = [];
      streams = false;
      tails = gives;
      cuts = false;
      kept = ordered;
      wanted = many;
      first = input;
      second = 0;
      part = λ built xs. xs;
      rest = λ built xs. rows built;
    }

abbrev pub plan : Plan ℕ
plan =
    record {
      node = λ n.
          cond (nat_eq n 1) (source (1 ∷ 2 ∷ 3 ∷ [])) (cond (nat_eq n 2) filter_node (cond (nat_eq n 3) (gathering 2 true false None distinct)
          (cond (nat_eq n 4) (gathering 3 true true None sorted) (cond (nat_eq n 5) (gathering 4 true true (Some 1) (λ xs. take 1 xs)) (gathering 5 false true None (λ xs. xs))))));
      sink = 6;
      user = λ e. suc e;
      batch = 1;
      workers = 2;
      pause = 1;
      resume = 0;
    }

pub six : (Q : ℕ → Type 0) → Q 1 → Q 2 → Q 3 → Q 4 → Q 5 → Q 6 → (n : ℕ) → IsNode plan n → Q n
six Q a b c d e f zero h = absurd (let x = h.0 in omega arith)
six Q a b c d e f (suc zero) h = a
six Q a b c d e f (suc (suc zero)) h = b
six Q a b c d e f (suc (suc (suc zero))) h = c
six Q a b c d e f (suc (suc (suc (suc zero)))) h = d
six Q a b c d e f (suc (suc (suc (suc (suc zero))))) h = e
six Q a b c d e f (suc (suc (suc (suc (suc (suc zero)))))) h = f
six Q a b c d e f (suc (suc (suc (suc (suc (suc (suc n))))))) h = absurd (let x = h.1 in omega arith)

above_append : (xs ys : List ℕ) → above_one (xs ++ ys) ≡ above_one xs ++ above_one ys
above_append [] ys = refl
above_append (x ∷ xs) ys = go (nat_lt 1 x) (above_append xs ys)
  where
    go : (b : Bool) → above_one (xs ++ ys) ≡ above_one xs ++ above_one ys → cond b (x ∷ above_one (xs ++ ys)) (above_one (xs ++ ys)) ≡ cond b (x ∷ above_one xs) (above_one xs) ++ above_one ys
    go true e = ap (λ zs. x ∷ zs) e
    go false e = e

append_same : (a b c d : List ℕ) → a ≡ b → c ≡ d → a ++ c ≡ b ++ d
append_same a b c d e f = cc

-- rows that stand in two lists equally often are sorted in one way
sorted_same : (xs ys : List ℕ) → SameRows false xs ys → sorted xs ≡ sorted ys
sorted_same xs ys h =
    append_same (replicate (times 0 xs) 0) (replicate (times 0 ys) 0) (gather (total xs) (λ v. replicate (times v xs) v)) (gather (total ys) (λ v. replicate (times v ys) v))
    (ap (λ (k : ℕ). replicate k 0) (many 0))
    (gather-same (total xs) (λ v. replicate (times v xs) v) (λ v. replicate (times v ys) v) (λ v _ _. ap (λ (k : ℕ). replicate k v) (many v))
    ∙ ap (λ (k : ℕ). gather k (λ v. replicate (times v ys) v)) (h (λ x. x)))
  where
    many : (v : ℕ) → times v xs ≡ times v ys
    many v = h (λ y. cond (nat_eq y v) 1 0)

-- only the filter streams
no_stream_1 : Streams (plan.node 1) → ⊥
no_stream_1 h = streams_none (plan.node 1) (λ e. cc) (λ e. cc) h

no_stream_3 : Streams (plan.node 3) → ⊥
no_stream_3 h = streams_none (plan.node 3) (λ e. cc) (λ e. cc) h

no_stream_4 : Streams (plan.node 4) → ⊥
no_stream_4 h = streams_none (plan.node 4) (λ e. cc) (λ e. cc) h

no_stream_5 : Streams (plan.node 5) → ⊥
no_stream_5 h = streams_none (plan.node 5) (λ e. cc) (λ e. cc) h

no_stream_6 : Streams (plan.node 6) → ⊥
no_stream_6 h = streams_none (plan.node 6) (λ e. cc) (λ e. cc) h

first_row : (m : ℕ) → Some 1 ≡ Some m → (front xs ys : List ℕ) → m ≤ length front → take 1 (front ++ xs) ≡ take 1 (front ++ ys)
first_row m e front xs ys le =
    let d : 1 ≡ m = cc in
    let h : 1 ≤ length front = omega arith in
    take-append-le 1 front xs h ∙ sym (take-append-le 1 front ys h)

lawful_node : (n : ℕ) → IsNode plan n → LawfulNode plan n
lawful_node =
    six (λ n. LawfulNode plan n)
    (record {
      part_nil = λ st b. absurd (no_stream_1 st);
      part_append = λ st b xs ys. absurd (no_stream_1 st);
      part_same = λ join b c xs same h. absurd (no_stream_1 (inr join));
      rest_same = λ folds tails b c xs ys same set. absurd (cc);
      fetch_wants = λ m e front xs ys zs le. absurd (cc);
    })
    (record {
      part_nil = λ st b. refl;
      part_append = λ st b xs ys. above_append xs ys;
      part_same = λ join b c xs same h. refl;
      rest_same = λ folds tails b c xs ys same set. absurd (cc);
      fetch_wants = λ m e front xs ys zs le. absurd (cc);
    })
    (record {
      part_nil = λ st b. absurd (no_stream_3 st);
      part_append = λ st b xs ys. absurd (no_stream_3 st);
      part_same = λ join b c xs same h. absurd (no_stream_3 (inr join));
      rest_same = λ folds tails b c xs ys same set h. ap (λ (zs : List ℕ). weigh h (distinct zs)) same;
      fetch_wants = λ m e front xs ys zs le. absurd (cc);
    })
    (record {
      part_nil = λ st b. absurd (no_stream_4 st);
      part_append = λ st b xs ys. absurd (no_stream_4 st);
      part_same = λ join b c xs same h. absurd (no_stream_4 (inr join));
      rest_same = λ folds tails b c xs ys same set. sorted_same b c same;
      fetch_wants = λ m e front xs ys zs le. absurd (cc);
    })
    (record {
      part_nil = λ st b. absurd (no_stream_5 st);
      part_append = λ st b xs ys. absurd (no_stream_5 st);
      part_same = λ join b c xs same h. absurd (no_stream_5 (inr join));
      rest_same = λ folds tails b c xs ys same set. ap (λ (zs : List ℕ). take 1 zs) same;
      fetch_wants = λ m e front xs ys zs le. first_row m e front xs ys le;
    })
    (record {
      part_nil = λ st b. absurd (no_stream_6 st);
      part_append = λ st b xs ys. absurd (no_stream_6 st);
      part_same = λ join b c xs same h. absurd (no_stream_6 (inr join));
      rest_same = λ folds tails b c xs ys same set. absurd (cc);
      fetch_wants = λ m e front xs ys zs le. absurd (cc);
    })

pub lawful : Lawful plan
lawful =
    record {
      equality = record { same = λ x y. nat_eq x y; tells = λ x y e. eqb-true x y e; self = λ x. eq-eqb x x refl };
      nodes = lawful_node;
    }

placed : (n : ℕ) → IsNode plan n → IsPlaced plan n
placed =
    six (λ n. IsPlaced plan n)
    (record {
      starts = inl refl;
      first = λ other. absurd (other refl);
      second = λ join. absurd (no_stream_1 (inr join));
      apart = λ join. absurd (no_stream_1 (inr join));
      plain = λ only. refl;
      gives = λ low folds. absurd (cc);
      in_order = λ only. absurd (cc);
      loose_join = λ join. absurd (no_stream_1 (inr join));
      loose_cuts = λ cuts. absurd (cc);
      closes = λ join. absurd (no_stream_1 (inr join));
      fetch = λ m e. absurd (cc);
    })
    (record {
      starts = inr (inr refl);
      first = λ other. record { node = lit≤ tt; before = lit< tt; user = refl };
      second = λ join. absurd (let e = join.0 in cc);
      apart = λ join. absurd (let e = join.0 in cc);
      plain = λ only. refl;
      gives = λ low folds. absurd (cc);
      in_order = λ only order. refl;
      loose_join = λ join. absurd (let e = join.0 in cc);
      loose_cuts = λ cuts. absurd (cc);
      closes = λ join. absurd (let e = join.0 in cc);
      fetch = λ m e. absurd (cc);
    })
    (record {
      starts = inr (inl refl);
      first = λ other. record { node = lit≤ tt; before = lit< tt; user = refl };
      second = λ join. absurd (no_stream_3 (inr join));
      apart = λ join. absurd (no_stream_3 (inr join));
      plain = λ only. absurd (cc);
      gives = λ low folds plain. refl;
      in_order = λ only. absurd (cc);
      loose_join = λ join. absurd (no_stream_3 (inr join));
      loose_cuts = λ cuts. absurd (cc);
      closes = λ join. absurd (no_stream_3 (inr join));
      fetch = λ m e. absurd (cc);
    })
    (record {
      starts = inr (inl refl);
      first = λ other. record { node = lit≤ tt; before = lit< tt; user = refl };
      second = λ join. absurd (no_stream_4 (inr join));
      apart = λ join. absurd (no_stream_4 (inr join));
      plain = λ only. absurd (cc);
      gives = λ low folds plain. refl;
      in_order = λ only. absurd (cc);
      loose_join = λ join. absurd (no_stream_4 (inr join));
      loose_cuts = λ cuts. absurd (cc);
      closes = λ join. absurd (no_stream_4 (inr join));
      fetch = λ m e. absurd (cc);
    })
    (record {
      starts = inr (inl refl);
      first = λ other. record { node = lit≤ tt; before = lit< tt; user = refl };
      second = λ join. absurd (no_stream_5 (inr join));
      apart = λ join. absurd (no_stream_5 (inr join));
      plain = λ only. absurd (cc);
      gives = λ low folds plain. refl;
      in_order = λ only. absurd (cc);
      loose_join = λ join. absurd (no_stream_5 (inr join));
      loose_cuts = λ cuts. absurd (cc);
      closes = λ join. absurd (no_stream_5 (inr join));
      fetch = λ m e. (refl, refl, refl);
    })
    (record {
      starts = inr (inl refl);
      first = λ other. record { node = lit≤ tt; before = lit< tt; user = refl };
      second = λ join. absurd (no_stream_6 (inr join));
      apart = λ join. absurd (no_stream_6 (inr join));
      plain = λ only. refl;
      gives = λ low. absurd (omega arith);
      in_order = λ only. absurd (cc);
      loose_join = λ join. absurd (no_stream_6 (inr join));
      loose_cuts = λ cuts. absurd (cc);
      closes = λ join. absurd (no_stream_6 (inr join));
      fetch = λ m e. absurd (cc);
    })

pub well_formed : WellFormed plan
well_formed =
    record {
      nodes = placed;
      sink = record { folds = refl; only_folds = (refl, refl); no_fetch = refl; in_order = λ e. refl };
      sink_node = lit≤ tt;
      users = λ e edge. (omega arith, (let a = edge.1 in omega arith));
      batch = lit≤ tt;
      resume = lit≤ tt;
    }

abbrev pub most_rows : ℕ → ℕ
most_rows n = 3

pub budget : IsBudget plan most_rows most_rows
unfolding meaning_within
budget =
    record {
      of_rows = λ n edge.
          six (λ m. m < 6 → length (meaning plan m) ≤ 3) (λ low. lit≤ tt) (λ low. lit≤ tt) (λ low. lit≤ tt) (λ low. lit≤ tt) (λ low. lit≤ tt) (λ low. absurd (omega arith))
          n (edge.0, (let a = edge.1 in omega arith)) edge.1;
      of_source = λ n node is. six (λ m. IsSource (plan.node m) → parts plan.batch (plan.node m).table ≤ 3) (λ d. lit≤ tt) (λ d. absurd (cc)) (λ d. absurd (cc)) (λ d. absurd (cc)) (λ d. absurd (cc)) (λ d. absurd (cc)) n node is;
      of_stream = λ n node is. six (λ m. 3 + cond (plan.node m).cuts 3 0 ≤ 3) (lit≤ tt) (lit≤ tt) (lit≤ tt) (lit≤ tt) (lit≤ tt) (lit≤ tt) n node;
      of_join = λ n node is. six (λ m. IsJoin (plan.node m) → 3 + 3 ≤ 3) (λ d. absurd (no_stream_1 (inr d))) (λ d. absurd (let e = d.0 in cc)) (λ d. absurd (no_stream_3 (inr d))) (λ d. absurd (no_stream_4 (inr d))) (λ d. absurd (no_stream_5 (inr d))) (λ d. absurd (no_stream_6 (inr d))) n node is;
      of_fold = λ n node is plain. six (λ m. cond (plan.node m).tails 3 0 ≤ 3) (lit≤ tt) (lit≤ tt) (lit≤ tt) (lit≤ tt) (lit≤ tt) (lit≤ tt) n node;
    }
