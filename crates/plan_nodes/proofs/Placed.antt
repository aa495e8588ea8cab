-- A node of a well-formed plan, as the machine sees it: in its place, and lawful.
use Rattle.std.proofs.Common.{◌≡◌, ℕ, ◌<◌, ◌⊎◌, inl, inr, Bool, true, false, List, length, Some, None, refl, sym, ◌∙◌, ap}
use Rattle.std.specs.List.{Contains}
use Rattle.scalar_value.specs.declared.value.Value.{Value}
use Rattle.plan_machine.specs.Plan.{Plan as MachinePlan, IsSource, Folds, OnlyStreams, IsJoin, folds_from, streams_from}
use Rattle.plan_machine.specs.WellFormed.{IsInput, IsPlaced, IsSinkNode, LawfulNode}
use Rattle.plan_nodes.specs.declared.node.Node.{Node}
use Rattle.plan_nodes.specs.Operators.{OpMeaning}
use Rattle.plan_nodes.specs.Kinds.{is_source, is_sink, asks_order}
use Rattle.plan_nodes.specs.Plans.{Pace, IsNodeOf, is_kept, node_at, input_at, input_schemas, input_marks, meaning_at, machine_node_at, machine_plan}
use Rattle.plan_nodes.proofs.Lawful.{LawfulMeaning}
use Rattle.plan_nodes.proofs.EachKind.{is_join, kind-lawful, kind-asks, kind-wants, FitKind, kind-fit, KeepsMark, HasNoMark}
use Rattle.plan_nodes.proofs.Inputs.{first-in, first-of-two, second-of-two, two-apart, first-marked, starts-folding, starts-streaming, source-emits, folds-first, streams-first}

bool-cases : (b : Bool) → (b ≡ true) ⊎ (b ≡ false)
bool-cases true = inl refl
bool-cases false = inr refl

module _ (nodes : List Node) (tables : List (List (List Value))) (pace : Pace) where
  abbrev plan : MachinePlan (List Value)
  plan = machine_plan nodes tables pace

  abbrev the_meaning : ℕ → OpMeaning
  the_meaning n = meaning_at nodes pace.batch n

  fit-at : (n : ℕ) → FitKind (node_at nodes n).kind (the_meaning n)
  fit-at n = kind-fit (node_at nodes n).kind (input_schemas nodes (node_at nodes n)) pace.batch

  -- a node that is marked by its kind keeps order only where its first input does
  kept-by-first : (n : ℕ) → IsNodeOf nodes n (node_at nodes n) → is_source (node_at nodes n).kind ≡ false → KeepsMark (node_at nodes n).kind → length (node_at nodes n).inputs ≡ 1 → is_kept (node_at nodes n).mark ≡ true → is_kept (node_at nodes (input_at (node_at nodes n).inputs 0)).mark ≡ true
  kept-by-first n is no_source keeps one kept =
      elim is.mark [
        | inl source ↦ absurd (cc)
        | inr m ↦ elim m [
          | inl none ↦ absurd (let e = ap is_kept none in cc)
          | inr by ↦
              let e : (node_at nodes n).mark ≡ (node_at nodes (input_at (node_at nodes n).inputs 0)).mark =
              by ∙ keeps (input_marks nodes (node_at nodes n)) ∙ first-marked (λ e. (node_at nodes e).mark) (node_at nodes n).inputs one in
              sym (ap is_kept e) ∙ kept
        ]
      ]

  -- a node whose kind has no mark is unordered
  unmarked : (n : ℕ) → IsNodeOf nodes n (node_at nodes n) → is_source (node_at nodes n).kind ≡ false → HasNoMark (node_at nodes n).kind → is_kept (node_at nodes n).mark ≡ false
  unmarked n is no_source none =
      elim is.mark [
        | inl source ↦ absurd (cc)
        | inr m ↦ elim m [
          | inl e ↦ ap is_kept e
          | inr by ↦ ap is_kept (by ∙ none (input_marks nodes (node_at nodes n)))
        ]
      ]

  join-unmarked : (n : ℕ) → IsNodeOf nodes n (node_at nodes n) → is_join (node_at nodes n).kind ≡ true → is_kept (node_at nodes n).mark ≡ false
  join-unmarked n is join = let a = (fit-at n).a_join join in unmarked n is a.0 a.3

  is-input : (n e : ℕ) → IsNodeOf nodes n (node_at nodes n) → Contains (node_at nodes n).inputs e → IsInput plan n e
  is-input n e is has = let a = is.inputs e has in record { node = a.0; before = a.1; user = a.2 }

  is-joined : (n : ℕ) → IsJoin (plan.node n) → is_join (node_at nodes n).kind ≡ true
  unfolding machine_node_at
  is-joined n join = (fit-at n).joins (starts-folding (is_source (node_at nodes n).kind) (the_meaning n).shape join.0).1 join.1

  two-inputs : (n : ℕ) → IsNodeOf nodes n (node_at nodes n) → is_join (node_at nodes n).kind ≡ true → length (node_at nodes n).inputs ≡ 2
  two-inputs n is join = is.count ∙ (fit-at n).two join

  one-input : (n : ℕ) → IsNodeOf nodes n (node_at nodes n) → is_source (node_at nodes n).kind ≡ false → is_join (node_at nodes n).kind ≡ false → length (node_at nodes n).inputs ≡ 1
  one-input n is no_source no_join = is.count ∙ (fit-at n).one no_source no_join

  starts-at : (n : ℕ) → IsSource (plan.node n) ⊎ (Folds (plan.node n) ⊎ OnlyStreams (plan.node n))
  unfolding machine_node_at
  starts-at n =
      elim (bool-cases (is_source (node_at nodes n).kind)) [
        | inl source ↦ inl (source-emits (is_source (node_at nodes n).kind) (the_meaning n).shape source)
        | inr no_source ↦ inr (elim (bool-cases (the_meaning n).shape.folds) [
          | inl folds ↦ inl (folds-first (is_source (node_at nodes n).kind) (the_meaning n).shape no_source folds)
          | inr streams ↦ inr (streams-first (is_source (node_at nodes n).kind) (the_meaning n).shape no_source streams)
        ])
      ]

  first-at : (n : ℕ) → IsNodeOf nodes n (node_at nodes n) → (IsSource (plan.node n) → ⊥) → IsInput plan n (plan.node n).first
  unfolding machine_node_at
  first-at n is no_source =
      elim (bool-cases (is_source (node_at nodes n).kind)) [
        | inl source ↦ absurd (no_source (source-emits (is_source (node_at nodes n).kind) (the_meaning n).shape source))
        | inr other ↦ is-input n (input_at (node_at nodes n).inputs 0) is (elim (bool-cases (is_join (node_at nodes n).kind)) [
          | inl join ↦ first-of-two (node_at nodes n).inputs (two-inputs n is join)
          | inr no_join ↦ first-in (node_at nodes n).inputs (one-input n is other no_join)
        ])
      ]

  second-at : (n : ℕ) → IsNodeOf nodes n (node_at nodes n) → IsJoin (plan.node n) → IsInput plan n (plan.node n).second
  unfolding machine_node_at
  second-at n is join =
      is-input n (input_at (node_at nodes n).inputs 1) is (second-of-two (node_at nodes n).inputs (two-inputs n is (is-joined n join)))

  apart-at : (n : ℕ) → IsNodeOf nodes n (node_at nodes n) → IsJoin (plan.node n) → (plan.node n).first ≡ (plan.node n).second → ⊥
  unfolding machine_node_at
  apart-at n is join same = two-apart (node_at nodes n).inputs (two-inputs n is (is-joined n join)) is.apart same

  -- what only streams is no source and gathers nothing
  only-streams : (n : ℕ) → OnlyStreams (plan.node n) → (is_source (node_at nodes n).kind ≡ false) × ((the_meaning n).shape.folds ≡ false)
  unfolding machine_node_at
  only-streams n only = starts-streaming (is_source (node_at nodes n).kind) (the_meaning n).shape only

  not-join : (n : ℕ) → (the_meaning n).shape.folds ≡ false → is_join (node_at nodes n).kind ≡ false
  not-join n none =
      elim (bool-cases (is_join (node_at nodes n).kind)) [
        | inl join ↦ absurd (let a = ((fit-at n).a_join join).1 in cc)
        | inr no_join ↦ no_join
      ]

  not-sink : (n : ℕ) → is_sink (node_at nodes n).kind ≡ false → Folds (plan.node n) → (plan.node n).streams ≡ false → (plan.node n).tails ≡ true
  unfolding machine_node_at
  not-sink n no_sink folds streams =
      (fit-at n).gathers (starts-folding (is_source (node_at nodes n).kind) (the_meaning n).shape folds).1 streams no_sink

  no-tails : (n : ℕ) → OnlyStreams (plan.node n) → (plan.node n).tails ≡ false
  unfolding machine_node_at
  no-tails n only = let a = only-streams n only in ((fit-at n).streams a.0 a.1).0

  ordered : (n : ℕ) → IsNodeOf nodes n (node_at nodes n) → OnlyStreams (plan.node n) → (plan.node n).kept ≡ true → (plan.node (streams_from plan n)).kept ≡ true
  unfolding machine_node_at
  ordered n is only kept =
      let a = only-streams n only in
      kept-by-first n is a.0 ((fit-at n).streams a.0 a.1).1 (one-input n is a.0 (not-join n a.1)) kept

  loose : (n : ℕ) → IsNodeOf nodes n (node_at nodes n) → IsJoin (plan.node n) → (plan.node n).kept ≡ false
  unfolding machine_node_at
  loose n is join = join-unmarked n is (is-joined n join)

  cut-loose : (n : ℕ) → IsNodeOf nodes n (node_at nodes n) → (plan.node n).cuts ≡ true → (plan.node n).kept ≡ false
  unfolding machine_node_at
  cut-loose n is cuts = join-unmarked n is ((fit-at n).cuts cuts)

  joins-cut : (n : ℕ) → IsJoin (plan.node n) → (plan.node n).cuts ≡ true
  unfolding machine_node_at
  joins-cut n join = ((fit-at n).a_join (is-joined n join)).2

  -- a node that asks for an order gathers its first input, whose order is kept
  asked-kept : (n : ℕ) → IsNodeOf nodes n (node_at nodes n) → asks_order (node_at nodes n).kind (input_schemas nodes (node_at nodes n)) ≡ true → (plan.node (folds_from plan n)).kept ≡ true
  unfolding machine_node_at
  asked-kept n is asks =
      let a = kind-asks (node_at nodes n).kind (input_schemas nodes (node_at nodes n)) pace.batch asks in
      let streams : (the_meaning n).shape.streams ≡ false = a.2 in
      let first = first-marked (λ e. (node_at nodes e).mark) (node_at nodes n).inputs (one-input n is a.0 a.1) in
      rw streams (ap is_kept (sym first ∙ is.ordered asks))

  -- a node that wants to see only some rows gathers them, and their order is kept
  fetch-at : (n m : ℕ) → IsNodeOf nodes n (node_at nodes n) → (plan.node n).wanted ≡ Some m → Folds (plan.node n) × ((plan.node n).streams ≡ false) × ((plan.node (folds_from plan n)).kept ≡ true)
  unfolding machine_node_at
  fetch-at n m is wants =
      let w = kind-wants (node_at nodes n).kind (input_schemas nodes (node_at nodes n)) pace.batch m wants in
      let a = kind-asks (node_at nodes n).kind (input_schemas nodes (node_at nodes n)) pace.batch w.1 in
      (folds-first (is_source (node_at nodes n).kind) (the_meaning n).shape a.0 w.0, a.2, asked-kept n is w.1)

  pub placed : (n : ℕ) → IsNodeOf nodes n (node_at nodes n) → (n < length nodes → is_sink (node_at nodes n).kind ≡ false) → IsPlaced plan n
  placed n is no_sink = record {
    starts = starts-at n;
    first = first-at n is;
    second = second-at n is;
    apart = apart-at n is;
    plain = no-tails n;
    gives = λ low. not-sink n (no_sink low);
    in_order = ordered n is;
    loose_join = loose n is;
    loose_cuts = cut-loose n is;
    closes = λ join tails. joins-cut n join;
    fetch = λ m. fetch-at n m is;
  }

  sink-folds : (n : ℕ) → is_sink (node_at nodes n).kind ≡ true → Folds (plan.node n) × ((plan.node n).streams ≡ false) × ((plan.node n).tails ≡ false)
  unfolding machine_node_at
  sink-folds n sink =
      let a = (fit-at n).sinks sink in
      (folds-first (is_source (node_at nodes n).kind) (the_meaning n).shape a.0 a.2, a.3, a.4)

  sink-ordered : (n : ℕ) → IsNodeOf nodes n (node_at nodes n) → is_sink (node_at nodes n).kind ≡ true → (plan.node n).kept ≡ true → (plan.node (folds_from plan n)).kept ≡ true
  unfolding machine_node_at
  sink-ordered n is sink kept =
      let a = (fit-at n).sinks sink in
      let streams : (the_meaning n).shape.streams ≡ false = a.3 in
      rw streams (kept-by-first n is a.0 a.5 (one-input n is a.0 a.1) kept)

  sink-wants : (n : ℕ) → is_sink (node_at nodes n).kind ≡ true → (plan.node n).wanted ≡ None
  unfolding machine_node_at
  sink-wants n sink = ((fit-at n).sinks sink).6

  pub sink-placed : (n : ℕ) → IsNodeOf nodes n (node_at nodes n) → is_sink (node_at nodes n).kind ≡ true → IsSinkNode plan n
  sink-placed n is sink =
      let a = sink-folds n sink in
      record { folds = a.0; only_folds = (a.1, a.2); no_fetch = sink-wants n sink; in_order = sink-ordered n is sink }

  lawful-at : (n : ℕ) → IsNodeOf nodes n (node_at nodes n) → (gathers : Bool) → (asks_order (node_at nodes n).kind (input_schemas nodes (node_at nodes n)) ≡ true → gathers ≡ true) → LawfulMeaning (the_meaning n) gathers (is_kept (node_at nodes n).mark)
  lawful-at n is gathers asked =
      kind-lawful (node_at nodes n).kind (input_schemas nodes (node_at nodes n)) pace.batch gathers (is_kept (node_at nodes n).mark) is.built (join-unmarked n is) asked

  pub node-lawful : (n : ℕ) → IsNodeOf nodes n (node_at nodes n) → LawfulNode plan n
  unfolding machine_node_at
  node-lawful n is =
      let l = lawful-at n is (plan.node (folds_from plan n)).kept (asked-kept n is) in
      record {
        part_nil = λ streams. l.part_nil;
        part_append = λ streams. l.part_append;
        part_same = λ join. l.part_same;
        rest_same = λ folds. l.rest_same;
        fetch_wants = l.fetch_wants;
      }
