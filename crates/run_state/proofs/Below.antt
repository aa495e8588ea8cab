-- Which nodes are below a node by their users, and how the walk that ends them goes from the highest down.
use Rattle.std.proofs.Common.{◌≡◌, ◌≢◌, ℕ, zero, suc, ◌+◌, ◌-◌, ◌<◌, ◌≤◌, Bool, true, false, cond, nat_eq, nat_lt, nat_le, ◌&&◌, ◌||◌, List, length, ◌⊎◌, inl, inr, refl, sym, ap, ap₂, subst, ◌∙◌, arith, slice_index_or, slice_set}
use Rattle.std.proofs.lemmas.Bool.{and_parts, and_left, and_right, or_from, ltb-true, lt-ltb, le-ltb, le-leb, lt-leb, ne_eqb, cases_lt}
use Rattle.std.proofs.lemmas.List.{length-set, get_or_default, get_or-set_same, get_or-set_other}
use Rattle.plan_machine.proofs.Weigh.{same_or}
use Rattle.plan_store.specs.declared.queue.Queue.{Queue}
use Rattle.plan_store.specs.declared.stage.Stage.{Stage}
use Rattle.plan_store.specs.declared.stage.NodeInfo.{NodeInfo}
use Rattle.plan_store.proofs.At.{some_of}
use Rattle.run_state.specs.Stages.{ended}
use Rattle.run_state.specs.Stopping.{IsEmptied, no_info, user_in, leads_in, is_below, AreEnded, AreEmptied}

-- ---- tests

where_true : (a b : Bool) → (a ≡ true → b ≡ false) → (a && b) ≡ false
where_true true b h = h refl
where_true false b h = refl

pub same_where : (a b c : Bool) → (a ≡ true → b ≡ c) → (a && b) ≡ (a && c)
same_where true b c h = h refl
same_where false b c h = refl

both_true : (a b c : Bool) → a ≡ true → b ≡ true → ((a && b) && c) ≡ c
both_true a b c p q = rw (p, q) refl

pub within : (m n : ℕ) → (nat_lt 0 m && nat_lt m n) ≡ true → (0 < m) × (m < n)
within m n e = let p = and_parts (nat_lt 0 m) (nat_lt m n) e in (ltb-true 0 m p.0, ltb-true m n p.1)

-- ---- nodes below

module _ (infos : List NodeInfo) (users : (k : ℕ) (d : NodeInfo) → suc k < length infos → suc k < (slice_index_or infos k d).user) where
  -- a node's user has a higher number
  later : (m : ℕ) → 0 < m → m < length infos → m < user_in infos m
  later m low up =
      let at : suc (m - 1) ≡ m = omega arith in
      let h = users (m - 1) no_info (omega arith) in
      subst (λ j. j < user_in infos m) at h

  -- so none is below a node with a lower number
  above : (f m n : ℕ) → n ≤ m → leads_in infos f m n ≡ false
  above zero m n h = refl
  above (suc f) m n h =
      where_true (nat_lt 0 m && nat_lt m (length infos)) (nat_eq (user_in infos m) n || leads_in infos f (user_in infos m) n)
      (λ t.
      let w = within m (length infos) t in
      let up = later m w.0 w.1 in
      or_from (nat_eq (user_in infos m) n) (leads_in infos f (user_in infos m) n)
      (ne_eqb (user_in infos m) n (λ e. omega arith))
      (above f (user_in infos m) n (omega arith)))

  -- as many edges as there are numbers between the nodes are enough
  enough : (f g m n : ℕ) → n ≤ m + f → n ≤ m + g → leads_in infos f m n ≡ leads_in infos g m n
  enough zero g m n a b = sym (above g m n (omega arith))
  enough (suc f) zero m n a b = above (suc f) m n (omega arith)
  enough (suc f) (suc g) m n a b =
      same_where (nat_lt 0 m && nat_lt m (length infos))
      (nat_eq (user_in infos m) n || leads_in infos f (user_in infos m) n) (nat_eq (user_in infos m) n || leads_in infos g (user_in infos m) n)
      (λ t.
      let w = within m (length infos) t in
      let up = later m w.0 w.1 in
      ap (λ r. nat_eq (user_in infos m) n || r) (enough f g (user_in infos m) n (omega arith) (omega arith)))

  -- a node is below another where its user is that node, or is below it
  by_user : (m n : ℕ) → 0 < m → m < length infos → n ≤ length infos → is_below infos m n ≡ (nat_eq (user_in infos m) n || is_below infos (user_in infos m) n)
  by_user m n low up few =
      enough (length infos) (suc (length infos)) m n (omega arith) (omega arith)
      ∙ both_true (nat_lt 0 m) (nat_lt m (length infos)) (nat_eq (user_in infos m) n || is_below infos (user_in infos m) n) (lt-ltb 0 m low) (lt-ltb m (length infos) up)

-- ---- the walk

-- whether node suc k is below n and was reached, where each turn of the walk goes to the next lower node, from n down
abbrev pub passed : List NodeInfo → ℕ → ℕ → ℕ → Bool
passed infos n turns k = nat_le n (suc k + turns) && is_below infos (suc k) n

module _ (infos : List NodeInfo) (n turns p : ℕ) (at : suc p + turns + 1 ≡ n) where
  passed_else : (k : ℕ) → k ≢ p → passed infos n (turns + 1) k ≡ passed infos n turns k
  passed_else k ne = ap (λ b. b && is_below infos (suc k) n) (by (cases_lt k p))
    where
      by : (k < p) ⊎ (p ≤ k) → nat_le n (suc k + (turns + 1)) ≡ nat_le n (suc k + turns)
      by (inl lt) = lt-leb n (suc k + (turns + 1)) (omega arith) ∙ sym (lt-leb n (suc k + turns) (omega arith))
      by (inr le) = le-leb n (suc k + (turns + 1)) (omega arith) ∙ sym (le-leb n (suc k + turns) (omega arith))

  passed_here : passed infos n (turns + 1) p ≡ is_below infos (suc p) n
  passed_here = ap (λ b. b && is_below infos (suc p) n) (le-leb n (suc p + (turns + 1)) (omega arith))

  passed_before : passed infos n turns p ≡ false
  passed_before = ap (λ b. b && is_below infos (suc p) n) (lt-leb n (suc p + turns) (omega arith))

  passed_past : is_below infos (suc p) n ≡ false → (k : ℕ) → passed infos n (turns + 1) k ≡ passed infos n turns k
  passed_past other k = by (same_or k p)
    where
      by : (k ≡ p) ⊎ (k ≢ p) → passed infos n (turns + 1) k ≡ passed infos n turns k
      by (inl e) = subst (λ j. passed infos n (turns + 1) j ≡ passed infos n turns j) (sym e) (passed_here ∙ other ∙ sym passed_before)
      by (inr ne) = passed_else k ne

-- these stages have ended, and all others stand where they stood
pub record EndedAt (at : ℕ → Bool) (old stages : List Stage) : Type 0 where
  pub size : length stages ≡ length old
  pub each : (k : ℕ) (d : Stage) → k < length old → slice_index_or stages k d ≡ cond (at k) (ended (slice_index_or old k d)) (slice_index_or old k d)

ended_none : (at : ℕ → Bool) (old : List Stage) → ((k : ℕ) → at k ≡ false) → EndedAt at old old
ended_none at old none =
    record { size = refl; each = λ k d lt. sym (ap (λ b. cond b (ended (slice_index_or old k d)) (slice_index_or old k d)) (none k)) }

ended_same : (at at' : ℕ → Bool) (old stages : List Stage) → ((k : ℕ) → at' k ≡ at k) → EndedAt at old stages → EndedAt at' old stages
ended_same at at' old stages same h =
    record { size = h.size; each = λ k d lt. h.each k d lt ∙ sym (ap (λ b. cond b (ended (slice_index_or old k d)) (slice_index_or old k d)) (same k)) }

ended_more : (at at' : ℕ → Bool) (p : ℕ) (old stages stages' : List Stage) → p < length old → at p ≡ false → at' p ≡ true → ((k : ℕ) → k ≢ p → at' k ≡ at k)
    → ((d : Stage) → stages' ≡ slice_set stages p (ended (slice_index_or stages p d))) → EndedAt at old stages → EndedAt at' old stages'
ended_more at at' p old stages stages' low before now others set h =
    record {
      size = let d = some_of p old low in ap length (set d) ∙ length-set stages p (ended (slice_index_or stages p d)) ∙ h.size;
      each = λ k d lt. by k d lt (same_or k p);
    }
  where
    by : (k : ℕ) (d : Stage) → k < length old → (k ≡ p) ⊎ (k ≢ p) → slice_index_or stages' k d ≡ cond (at' k) (ended (slice_index_or old k d)) (slice_index_or old k d)
    by k d lt (inl e) =
        let size = h.size in
        subst (λ j. slice_index_or stages' j d ≡ cond (at' j) (ended (slice_index_or old j d)) (slice_index_or old j d)) (sym e)
        (ap (λ (xs : List Stage). slice_index_or xs p d) (set d)
        ∙ get_or-set_same stages p (ended (slice_index_or stages p d)) d (omega arith)
        ∙ ap ended (h.each p d low ∙ ap (λ b. cond b (ended (slice_index_or old p d)) (slice_index_or old p d)) before)
        ∙ sym (ap (λ b. cond b (ended (slice_index_or old p d)) (slice_index_or old p d)) now))
    by k d lt (inr ne) =
        ap (λ (xs : List Stage). slice_index_or xs k d) (set d)
        ∙ get_or-set_other stages p k (ended (slice_index_or stages p d)) d ne
        ∙ h.each k d lt
        ∙ sym (ap (λ b. cond b (ended (slice_index_or old k d)) (slice_index_or old k d)) (others k ne))

-- nothing waits any more where the test holds, else the edge is as it was
abbrev pub EmptiedIf : Bool → Queue → Queue → Type 0
EmptiedIf true old q = IsEmptied old q
EmptiedIf false old q = q ≡ old

pub record EmptiedAt (at : ℕ → Bool) (old queues : List Queue) : Type 0 where
  pub size : length queues ≡ length old
  pub each : (k : ℕ) (d : Queue) → k < length old → EmptiedIf (at k) (slice_index_or old k d) (slice_index_or queues k d)

emptied_none : (at : ℕ → Bool) (old : List Queue) → ((k : ℕ) → at k ≡ false) → EmptiedAt at old old
emptied_none at old none =
    record { size = refl; each = λ k d lt. subst (λ b. EmptiedIf b (slice_index_or old k d) (slice_index_or old k d)) (sym (none k)) refl }

emptied_same : (at at' : ℕ → Bool) (old queues : List Queue) → ((k : ℕ) → at' k ≡ at k) → EmptiedAt at old queues → EmptiedAt at' old queues
emptied_same at at' old queues same h =
    record { size = h.size; each = λ k d lt. subst (λ b. EmptiedIf b (slice_index_or old k d) (slice_index_or queues k d)) (sym (same k)) (h.each k d lt) }

emptied_more : (at at' : ℕ → Bool) (p : ℕ) (old queues queues' : List Queue) → p < length old → at p ≡ false → at' p ≡ true → ((k : ℕ) → k ≢ p → at' k ≡ at k)
    → ((d : Queue) → (q : Queue) × (queues' ≡ slice_set queues p q) × IsEmptied (slice_index_or queues p d) q) → EmptiedAt at old queues → EmptiedAt at' old queues'
emptied_more at at' p old queues queues' low before now others set h =
    record {
      size = let s = set (some_of p old low) in ap length s.1 ∙ length-set queues p s.0 ∙ h.size;
      each = λ k d lt. by k d lt (same_or k p);
    }
  where
    by : (k : ℕ) (d : Queue) → k < length old → (k ≡ p) ⊎ (k ≢ p) → EmptiedIf (at' k) (slice_index_or old k d) (slice_index_or queues' k d)
    by k d lt (inl e) =
        let size = h.size in
        let s = set d in
        let is : slice_index_or queues p d ≡ slice_index_or old p d = subst (λ b. EmptiedIf b (slice_index_or old p d) (slice_index_or queues p d)) before (h.each p d low) in
        let got : slice_index_or queues' p d ≡ s.0 = ap (λ (xs : List Queue). slice_index_or xs p d) s.1 ∙ get_or-set_same queues p s.0 d (omega arith) in
        subst (λ j. EmptiedIf (at' j) (slice_index_or old j d) (slice_index_or queues' j d)) (sym e)
        (subst (λ b. EmptiedIf b (slice_index_or old p d) (slice_index_or queues' p d)) (sym now)
        (subst (λ q. IsEmptied (slice_index_or old p d) q) (sym got) (subst (λ q. IsEmptied q s.0) is s.2)))
    by k d lt (inr ne) =
        let s = set d in
        subst (λ b. EmptiedIf b (slice_index_or old k d) (slice_index_or queues' k d)) (sym (others k ne))
        (subst (λ q. EmptiedIf (at k) (slice_index_or old k d) q) (sym (ap (λ (xs : List Queue). slice_index_or xs k d) s.1 ∙ get_or-set_other queues p k s.0 d ne)) (h.each k d lt))

-- After so many turns, from the node before n down, those below n are marked and have ended.
pub record Walked (infos : List NodeInfo) (n turns : ℕ) (marks : List Bool) (stages stages' : List Stage) (queues queues' : List Queue) : Type 0 where
  pub places : length marks ≡ 256
  pub marked : (k : ℕ) → suc k < n → slice_index_or marks k false ≡ passed infos n turns k
  pub stages_are : EndedAt (passed infos n turns) stages stages'
  pub queues_are : EmptiedAt (passed infos n turns) queues queues'

module _ (infos : List NodeInfo) (users : (k : ℕ) (d : NodeInfo) → suc k < length infos → suc k < (slice_index_or infos k d).user) (n : ℕ) where
  passed_none : (k : ℕ) → passed infos n 0 k ≡ false
  passed_none k = by (cases_lt (suc k) n)
    where
      by : (suc k < n) ⊎ (n ≤ suc k) → passed infos n 0 k ≡ false
      by (inl lt) = and_left (nat_le n (suc k + 0)) (is_below infos (suc k) n) (lt-leb n (suc k + 0) (omega arith))
      by (inr le) = and_right (nat_le n (suc k + 0)) (is_below infos (suc k) n) (above infos users (length infos) (suc k) n le)

  pub walk_begins : (marks : List Bool) (stages : List Stage) (queues : List Queue) → length marks ≡ 256 → ((k : ℕ) → suc k < n → slice_index_or marks k false ≡ false)
      → Walked infos n 0 marks stages stages queues queues
  walk_begins marks stages queues places none =
      record {
        places = places;
        marked = λ k lt. none k lt ∙ sym (passed_none k);
        stages_are = ended_none (passed infos n 0) stages passed_none;
        queues_are = emptied_none (passed infos n 0) queues passed_none;
      }

  module _ (turns p : ℕ) (at : suc p + turns + 1 ≡ n) (few : n ≤ length infos) where
    -- the node's user tells, by its mark where it stands before n
    by_mark : (marks : List Bool) (u : ℕ) → suc p < u → ((k : ℕ) → suc k < n → slice_index_or marks k false ≡ passed infos n turns k)
        → (nat_lt u n && slice_index_or marks (u - 1) false) ≡ is_below infos u n
    by_mark marks u late marked = by (cases_lt u n)
      where
        by : (u < n) ⊎ (n ≤ u) → (nat_lt u n && slice_index_or marks (u - 1) false) ≡ is_below infos u n
        by (inl lt) =
            let same : suc (u - 1) ≡ u = omega arith in
            ap₂ (λ a b. a && b) (lt-ltb u n lt) (marked (u - 1) (omega arith))
            ∙ ap (λ j. nat_le n (j + turns) && is_below infos j n) same
            ∙ ap (λ b. b && is_below infos u n) (le-leb n (u + turns) (omega arith))
        by (inr le) = and_left (nat_lt u n) (slice_index_or marks (u - 1) false) (le-ltb u n le) ∙ sym (above infos users (length infos) u n le)

    pub told_by_user : (marks : List Bool) (e : NodeInfo) (r : Bool) → ((k : ℕ) → suc k < n → slice_index_or marks k false ≡ passed infos n turns k)
        → r ≡ (nat_eq (slice_index_or infos p e).user n || (nat_lt (slice_index_or infos p e).user n && slice_index_or marks ((slice_index_or infos p e).user - 1) false))
        → r ≡ is_below infos (suc p) n
    told_by_user marks e r marked is =
        let same : p ≡ suc p - 1 = omega arith in
        let u : ℕ = (slice_index_or infos p e).user in
        let is_user : u ≡ user_in infos (suc p) = ap (λ (i : NodeInfo). i.user) (get_or_default infos p e no_info (omega arith)) ∙ ap (λ k. (slice_index_or infos k no_info).user) same in
        is
        ∙ ap (λ b. nat_eq u n || b) (by_mark marks u (users p e (omega arith)) marked)
        ∙ ap (λ j. nat_eq j n || is_below infos j n) is_user
        ∙ sym (by_user infos users (suc p) n (omega arith) (omega arith) few)

    -- the walk passes a node that is below, and one that isn't
    pub walk_ends : (marks marks' : List Bool) (stages before after : List Stage) (queues first later : List Queue) → is_below infos (suc p) n ≡ true
        → p < length stages → p < length queues → p < 256
        → marks' ≡ slice_set marks p true
        → ((d : Stage) → after ≡ slice_set before p (ended (slice_index_or before p d)))
        → ((d : Queue) → (q : Queue) × (later ≡ slice_set first p q) × IsEmptied (slice_index_or first p d) q)
        → Walked infos n turns marks stages before queues first → Walked infos n (turns + 1) marks' stages after queues later
    walk_ends marks marks' stages before after queues first later is in_stages in_queues in_marks mark set_stage set_queue h =
        let now : passed infos n (turns + 1) p ≡ true = passed_here infos n turns p at ∙ is in
        record {
          places = ap length mark ∙ length-set marks p true ∙ h.places;
          marked = λ k lt. by k lt now (same_or k p);
          stages_are = ended_more (passed infos n turns) (passed infos n (turns + 1)) p stages before after in_stages (passed_before infos n turns p at) now (passed_else infos n turns p at) set_stage h.stages_are;
          queues_are = emptied_more (passed infos n turns) (passed infos n (turns + 1)) p queues first later in_queues (passed_before infos n turns p at) now (passed_else infos n turns p at) set_queue h.queues_are;
        }
      where
        by : (k : ℕ) → suc k < n → passed infos n (turns + 1) p ≡ true → (k ≡ p) ⊎ (k ≢ p) → slice_index_or marks' k false ≡ passed infos n (turns + 1) k
        by k lt now (inl e) =
            let places = h.places in
            subst (λ j. slice_index_or marks' j false ≡ passed infos n (turns + 1) j) (sym e)
            (ap (λ (xs : List Bool). slice_index_or xs p false) mark ∙ get_or-set_same marks p true false (omega arith) ∙ sym now)
        by k lt now (inr ne) =
            ap (λ (xs : List Bool). slice_index_or xs k false) mark ∙ get_or-set_other marks p k true false ne ∙ h.marked k lt ∙ sym (passed_else infos n turns p at k ne)

    pub walk_passes : (marks : List Bool) (stages before : List Stage) (queues first : List Queue) → is_below infos (suc p) n ≡ false
        → Walked infos n turns marks stages before queues first → Walked infos n (turns + 1) marks stages before queues first
    walk_passes marks stages before queues first other h =
        let same = passed_past infos n turns p at other in
        record {
          places = h.places;
          marked = λ k lt. h.marked k lt ∙ sym (same k);
          stages_are = ended_same (passed infos n turns) (passed infos n (turns + 1)) stages before same h.stages_are;
          queues_are = emptied_same (passed infos n turns) (passed infos n (turns + 1)) queues first same h.queues_are;
        }

-- ---- the end of the walk

module _ (infos : List NodeInfo) (n turns : ℕ) (all : n ≤ suc turns) where
  passed_all : (k : ℕ) → is_below infos (suc k) n ≡ passed infos n turns k
  passed_all k = sym (ap (λ b. b && is_below infos (suc k) n) (le-leb n (suc k + turns) (omega arith)))

  pub ended_all : (marks : List Bool) (stages stages' : List Stage) (queues queues' : List Queue) → Walked infos n turns marks stages stages' queues queues' → AreEnded infos n stages stages'
  ended_all marks stages stages' queues queues' h =
      let e = ended_same (passed infos n turns) (λ k. is_below infos (suc k) n) stages stages' passed_all h.stages_are in
      record { size = e.size; each = e.each }

  pub emptied_all : (marks : List Bool) (stages stages' : List Stage) (queues queues' : List Queue) → Walked infos n turns marks stages stages' queues queues' → AreEmptied infos n queues queues'
  emptied_all marks stages stages' queues queues' h =
      let e = emptied_same (passed infos n turns) (λ k. is_below infos (suc k) n) queues queues' passed_all h.queues_are in
      record {
        size = e.size;
        emptied = λ k d lt is. subst (λ b. EmptiedIf b (slice_index_or queues k d) (slice_index_or queues' k d)) is (e.each k d lt);
        others = λ k d lt is. subst (λ b. EmptiedIf b (slice_index_or queues k d) (slice_index_or queues' k d)) is (e.each k d lt);
      }
