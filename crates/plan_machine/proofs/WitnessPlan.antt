-- An example of all that the laws ask: a full join of two tables of one column, and the sink.
use Rattle.std.proofs.Common.{◌≡◌, ℕ, zero, suc, ◌+◌, ◌<◌, ◌≤◌, true, false, cond, nat_eq, nat_lt, List, [], ◌∷◌, ◌++◌, length, replicate, inl, inr, refl, sym, ◌∙◌, ap, arith, append_assoc, None, eq-eqb, eqb-true, lt-ltb, lit≤, lit<}
use Rattle.plan_machine.specs.declared.entry.Phase.TheVariants.{Emitting, Folding, Streaming}
use Rattle.plan_machine.specs.Lists.{weigh}
use Rattle.plan_machine.specs.Batch.{parts}
use Rattle.plan_machine.specs.Plan.{Plan, Node, IsNode, IsEdge, IsSource, IsJoin, OnlyStreams}
use Rattle.plan_machine.specs.Meaning.{SameSet, meaning, meaning_within}
use Rattle.plan_machine.specs.WellFormed.{LawfulNode, Lawful, IsInput, IsPlaced, WellFormed, Streams}
use Rattle.plan_machine.specs.Budget.{IsBudget}

-- how often a row stands in a list
abbrev pub times : ℕ → List ℕ → ℕ
times x ys = weigh (λ y. cond (nat_eq y x) 1 0) ys

-- a streamed row once for each equal row, or alone where there is none
abbrev pub matched : List ℕ → ℕ → List ℕ
matched built x = cond (nat_lt 0 (times x built)) (replicate (times x built) x) (x ∷ [])

abbrev pub joined : List ℕ → List ℕ → List ℕ
joined built [] = []
joined built (x ∷ xs) = matched built x ++ joined built xs

-- the gathered rows that equal no streamed row
abbrev pub unmatched : List ℕ → List ℕ → List ℕ
unmatched [] streamed = []
unmatched (y ∷ ys) streamed = cond (nat_lt 0 (times y streamed)) (unmatched ys streamed) (y ∷ unmatched ys streamed)

abbrev pub source : List ℕ → Node ℕ
source rows =
    record {
      start = Emitting;
      table = rows;
      streams = false;
      tails = false;
      cuts = false;
      kept = true;
      wanted = None;
      first = 0;
      second = 0;
      part = λ built xs. xs;
      rest = λ built xs. built;
    }

abbrev pub full_join : Node ℕ
full_join =
    record {
      start = Folding;
      table = [];
      streams = true;
      tails = true;
      cuts = true;
      kept = false;
      wanted = None;
      first = 1;
      second = 2;
      part = joined;
      rest = unmatched;
    }

abbrev pub sink : Node ℕ
sink =
    record {
      start = Folding;
      table = [];
      streams = false;
      tails = false;
      cuts = false;
      kept = false;
      wanted = None;
      first = 3;
      second = 0;
      part = λ built xs. xs;
      rest = λ built xs. built;
    }

abbrev pub plan : Plan ℕ
plan =
    record {
      node = λ n. cond (nat_eq n 1) (source (1 ∷ 2 ∷ [])) (cond (nat_eq n 2) (source (2 ∷ 2 ∷ 3 ∷ [])) (cond (nat_eq n 3) full_join sink));
      sink = 4;
      user = λ e. cond (nat_lt e 3) 3 4;
      batch = 2;
      workers = 2;
      pause = 8;
      resume = 4;
    }

abbrev pub most_rows : ℕ → ℕ
most_rows n = 4

abbrev pub most_batches : ℕ → ℕ
most_batches n = cond (nat_lt n 3) 2 6

-- what holds of each of the four nodes holds of all
pub four : (Q : ℕ → Type 0) → Q 1 → Q 2 → Q 3 → Q 4 → (n : ℕ) → IsNode plan n → Q n
four Q a b c d zero h = absurd (let e = h.0 in omega arith)
four Q a b c d (suc zero) h = a
four Q a b c d (suc (suc zero)) h = b
four Q a b c d (suc (suc (suc zero))) h = c
four Q a b c d (suc (suc (suc (suc zero)))) h = d
four Q a b c d (suc (suc (suc (suc (suc n))))) h = absurd (let e = h.1 in omega arith)

joined_append : (b xs ys : List ℕ) → joined b (xs ++ ys) ≡ joined b xs ++ joined b ys
joined_append b [] ys = refl
joined_append b (x ∷ xs) ys = ap (λ zs. matched b x ++ zs) (joined_append b xs ys) ∙ sym (append_assoc (matched b x) (joined b xs) (joined b ys))

same_test : (m n : ℕ) → (m ≡ 0 → n ≡ 0) → (n ≡ 0 → m ≡ 0) → nat_lt 0 m ≡ nat_lt 0 n
same_test zero zero h k = refl
same_test zero (suc n) h k = absurd (let e = h refl in omega arith)
same_test (suc m) zero h k = absurd (let e = k refl in omega arith)
same_test (suc m) (suc n) h k = lt-ltb 0 (suc m) (omega arith) ∙ sym (lt-ltb 0 (suc n) (omega arith))

unmatched_same : (b xs ys : List ℕ) → SameSet xs ys → unmatched b xs ≡ unmatched b ys
unmatched_same [] xs ys h = refl
unmatched_same (y ∷ b) xs ys h =
    let same = h (λ z. cond (nat_eq z y) 1 0) in
    let e = same_test (times y xs) (times y ys) same.0 same.1 in
    rw (e, unmatched_same b xs ys h) refl

-- a node that doesn't stream, alone or as a join
pub streams_none : (v : Node ℕ) → (v.start ≡ Streaming → ⊥) → (v.streams ≡ true → ⊥) → Streams v → ⊥
streams_none v a b (inl e) = a e
streams_none v a b (inr e) = b e.1

source_streams : (rows : List ℕ) → Streams (source rows) → ⊥
source_streams rows h = streams_none (source rows) (λ e. cc) (λ e. cc) h

sink_streams : Streams sink → ⊥
sink_streams h = streams_none sink (λ e. cc) (λ e. cc) h

lawful_node : (n : ℕ) → IsNode plan n → LawfulNode plan n
lawful_node =
    four (λ n. LawfulNode plan n)
    (record {
      part_nil = λ st b. absurd (source_streams (1 ∷ 2 ∷ []) st);
      part_append = λ st b xs ys. absurd (source_streams (1 ∷ 2 ∷ []) st);
      part_same = λ join b c xs same h. absurd (source_streams (1 ∷ 2 ∷ []) (inr join));
      rest_same = λ folds tails b c xs ys same set. absurd (cc);
      fetch_wants = λ m e front xs ys zs le. absurd (cc);
    })
    (record {
      part_nil = λ st b. absurd (source_streams (2 ∷ 2 ∷ 3 ∷ []) st);
      part_append = λ st b xs ys. absurd (source_streams (2 ∷ 2 ∷ 3 ∷ []) st);
      part_same = λ join b c xs same h. absurd (source_streams (2 ∷ 2 ∷ 3 ∷ []) (inr join));
      rest_same = λ folds tails b c xs ys same set. absurd (cc);
      fetch_wants = λ m e front xs ys zs le. absurd (cc);
    })
    (record {
      part_nil = λ st b. refl;
      part_append = λ st b xs ys. joined_append b xs ys;
      part_same = λ join b c xs same h. rw same refl;
      rest_same = λ folds tails b c xs ys same set h. rw same (rw (unmatched_same c xs ys set) refl);
      fetch_wants = λ m e front xs ys zs le. absurd (cc);
    })
    (record {
      part_nil = λ st b. absurd (sink_streams st);
      part_append = λ st b xs ys. absurd (sink_streams st);
      part_same = λ join b c xs same h. absurd (sink_streams (inr join));
      rest_same = λ folds tails b c xs ys same set. absurd (cc);
      fetch_wants = λ m e front xs ys zs le. absurd (cc);
    })

pub lawful : Lawful plan
lawful =
    record {
      equality = record { same = λ x y. nat_eq x y; tells = λ x y e. eqb-true x y e; self = λ x. eq-eqb x x refl };
      nodes = lawful_node;
    }

is_input : (n e : ℕ) → 1 ≤ e → e < n → plan.user e ≡ n → IsInput plan n e
is_input n e a b c = record { node = a; before = b; user = c }

placed : (n : ℕ) → IsNode plan n → IsPlaced plan n
placed =
    four (λ n. IsPlaced plan n)
    (record {
      starts = inl refl;
      first = λ no_source. absurd (no_source refl);
      second = λ join. absurd (source_streams (1 ∷ 2 ∷ []) (inr join));
      apart = λ join. absurd (source_streams (1 ∷ 2 ∷ []) (inr join));
      plain = λ only. refl;
      gives = λ low folds. absurd (cc);
      in_order = λ only. absurd (cc);
      loose_join = λ join. absurd (source_streams (1 ∷ 2 ∷ []) (inr join));
      loose_cuts = λ cuts. absurd (cc);
      closes = λ join. absurd (source_streams (1 ∷ 2 ∷ []) (inr join));
      fetch = λ m e. absurd (cc);
    })
    (record {
      starts = inl refl;
      first = λ no_source. absurd (no_source refl);
      second = λ join. absurd (source_streams (2 ∷ 2 ∷ 3 ∷ []) (inr join));
      apart = λ join. absurd (source_streams (2 ∷ 2 ∷ 3 ∷ []) (inr join));
      plain = λ only. refl;
      gives = λ low folds. absurd (cc);
      in_order = λ only. absurd (cc);
      loose_join = λ join. absurd (source_streams (2 ∷ 2 ∷ 3 ∷ []) (inr join));
      loose_cuts = λ cuts. absurd (cc);
      closes = λ join. absurd (source_streams (2 ∷ 2 ∷ 3 ∷ []) (inr join));
      fetch = λ m e. absurd (cc);
    })
    (record {
      starts = inr (inl refl);
      first = λ no_source. is_input 3 1 (lit≤ tt) (lit< tt) refl;
      second = λ join. is_input 3 2 (lit≤ tt) (lit< tt) refl;
      apart = λ join e. omega (arith, e);
      plain = λ only. absurd (cc);
      gives = λ low folds streams. refl;
      in_order = λ only. absurd (cc);
      loose_join = λ join. refl;
      loose_cuts = λ cuts. refl;
      closes = λ join tails. refl;
      fetch = λ m e. absurd (cc);
    })
    (record {
      starts = inr (inl refl);
      first = λ no_source. is_input 4 3 (lit≤ tt) (lit< tt) refl;
      second = λ join. absurd (sink_streams (inr join));
      apart = λ join. absurd (sink_streams (inr join));
      plain = λ only. refl;
      gives = λ low. absurd (omega arith);
      in_order = λ only. absurd (cc);
      loose_join = λ join. absurd (sink_streams (inr join));
      loose_cuts = λ cuts. absurd (cc);
      closes = λ join. absurd (sink_streams (inr join));
      fetch = λ m e. absurd (cc);
    })

users : (e : ℕ) → IsEdge plan e → (e < plan.user e) × (plan.user e ≤ 4)
users e edge =
    four (λ n. n < 4 → (n < plan.user n) × (plan.user n ≤ 4))
    (λ low. (lit< tt, lit≤ tt)) (λ low. (lit< tt, lit≤ tt)) (λ low. (lit< tt, lit≤ tt)) (λ low. absurd (omega arith))
    e (edge.0, (let a = edge.1 in omega arith)) edge.1

pub well_formed : WellFormed plan
well_formed =
    record {
      nodes = placed;
      sink = record { folds = refl; only_folds = (refl, refl); no_fetch = refl; in_order = λ e. absurd (cc) };
      sink_node = lit≤ tt;
      users = users;
      batch = lit≤ tt;
      resume = lit≤ tt;
    }

pub budget : IsBudget plan most_rows most_batches
unfolding meaning_within
budget =
    record {
      of_rows = λ n edge.
          four (λ m. m < 4 → length (meaning plan m) ≤ 4) (λ low. lit≤ tt) (λ low. lit≤ tt) (λ low. lit≤ tt) (λ low. absurd (omega arith))
          n (edge.0, (let a = edge.1 in omega arith)) edge.1;
      of_source = λ n node is. four (λ m. IsSource (plan.node m) → parts plan.batch (plan.node m).table ≤ most_batches m) (λ d. lit≤ tt) (λ d. lit≤ tt) (λ d. absurd (cc)) (λ d. absurd (cc)) n node is;
      of_stream = λ n node is. four (λ m. OnlyStreams (plan.node m) → most_batches (plan.node m).first + cond (plan.node m).cuts (most_rows m) 0 ≤ most_batches m) (λ d. absurd (cc)) (λ d. absurd (cc)) (λ d. absurd (cc)) (λ d. absurd (cc)) n node is;
      of_join = λ n node is. four (λ m. IsJoin (plan.node m) → most_batches (plan.node m).first + most_rows m ≤ most_batches m) (λ d. absurd (source_streams (1 ∷ 2 ∷ []) (inr d))) (λ d. absurd (source_streams (2 ∷ 2 ∷ 3 ∷ []) (inr d))) (λ d. lit≤ tt) (λ d. absurd (sink_streams (inr d))) n node is;
      of_fold = λ n node is plain. four (λ m. (plan.node m).streams ≡ false → cond (plan.node m).tails (most_rows m) 0 ≤ most_batches m) (λ d. lit≤ tt) (λ d. lit≤ tt) (λ d. lit≤ tt) (λ d. lit≤ tt) n node plain;
    }
