-- What a worker can do first, from what is stored of a node.
use Rattle.std.proofs.Common.{◌≡◌, ℕ, ◌<◌, ◌≤◌, Bool, true, false, not, cond, ◌&&◌, nat_lt, nat_eq, [], length, ◌⊎◌, inl, inr, Option, Some, None, refl, sym, ap, ◌∙◌, arith, ltb-true, lt-ltb, eqb-true, eq-eqb}
use Rattle.std.proofs.lemmas.List.{nil_from_length}
use Rattle.plan_machine.specs.declared.entry.Phase.{Phase}
use Rattle.plan_machine.specs.declared.entry.Phase.TheVariants.{Emitting, Folding, Streaming, Tailing, Sealed, Done}
use Rattle.plan_machine.specs.declared.entry.Job.{Job}
use Rattle.plan_machine.specs.declared.entry.Job.TheVariants.{Emit, Fold, Seal, Stream, Close, Tail}
use Rattle.plan_machine.specs.Batch.{parts}
use Rattle.plan_machine.specs.Plan.{Plan, folds_from, streams_from}
use Rattle.plan_machine.specs.State.{State, tasks_at, tail_rows, IsEndedEdge}
use Rattle.plan_machine.specs.Enabled.{CanDo}
use Rattle.plan_machine.specs.InFlight.{phase_of}
use Rattle.plan_machine.specs.Driver.{place_of}
use Rattle.run_state.specs.Choosing.{job_by, number_by, NoJob, IsFirstJob}

pub and_left : (a b : Bool) → (a && b) ≡ true → a ≡ true
and_left true b e = refl
and_left false b e = e

pub and_right : (a b : Bool) → (a && b) ≡ true → b ≡ true
and_right true b e = e
and_right false b e = cc

pub and_both : (a b : Bool) → a ≡ true → b ≡ true → (a && b) ≡ true
and_both a b p q = rw (p, q) refl

pub not_true : (b : Bool) → not b ≡ true → b ≡ false
not_true true e = cc
not_true false e = refl

true_not : (b : Bool) → b ≡ false → not b ≡ true
true_not b e = rw e refl

never : (b : Bool) → b ≡ false → b ≡ true → ⊥
never b f t = let e = sym f ∙ t in cc

not_sealed : (job : Job) → phase_of job ≡ Sealed → ⊥
not_sealed Emit e = cc
not_sealed Fold e = cc
not_sealed Seal e = cc
not_sealed Stream e = cc
not_sealed Close e = cc
not_sealed Tail e = cc

pub not_done : (job : Job) → phase_of job ≡ Done → ⊥
not_done Emit e = cc
not_done Fold e = cc
not_done Seal e = cc
not_done Stream e = cc
not_done Close e = cc
not_done Tail e = cc

module _ {R : Type 0} (P : Plan R) (s : State R) where
  -- what an edge offers: whether a batch waits, and whether it has ended
  pub record Offers (e : ℕ) (waits ended : Bool) : Type 0 where
    pub some : waits ≡ true → 0 < length (s.waiting e)
    pub none : waits ≡ false → length (s.waiting e) ≡ 0
    pub over : ended ≡ true → IsEndedEdge P s e
    pub going : ended ≡ false → IsEndedEdge P s e → ⊥

  -- what is stored of a node
  pub record Sees (n next count busy : ℕ) (tails paused waits ended : Bool) : Type 0 where
    pub next_is : next ≡ s.next n
    pub emits : s.phase n ≡ Emitting → count ≡ parts P.batch (P.node n).table
    pub ends : s.phase n ≡ Tailing → count ≡ parts P.batch (tail_rows P s n)
    pub busy_is : busy ≡ length (tasks_at P s n)
    pub tails_is : (P.node n).tails ≡ tails
    pub paused_is : paused ≡ s.paused n
    pub folds : s.phase n ≡ Folding → Offers (folds_from P n) waits ended
    pub streams : s.phase n ≡ Streaming → Offers (streams_from P n) waits ended

  pub can_phase : (n : ℕ) (job : Job) (k : ℕ) → CanDo P s n job k → s.phase n ≡ phase_of job
  can_phase n Emit k c = c.0
  can_phase n Fold k c = c.0
  can_phase n Seal k c = c.0
  can_phase n Stream k c = c.0
  can_phase n Close k c = c.0
  can_phase n Tail k c = c.0

  abbrev pub JobIs : ℕ → ℕ → Option Job → Type 0
  JobIs n next None = NoJob P s n
  JobIs n next (Some job) = IsFirstJob P s n job (number_by job next)

  by_test : (n next : ℕ) (b : Bool) (x y : Option Job) → (b ≡ true → JobIs n next x) → (b ≡ false → JobIs n next y) → JobIs n next (cond b x y)
  by_test n next true x y f g = f refl
  by_test n next false x y f g = g refl

  module _ (n next count busy : ℕ) (tails paused waits ended : Bool) (S : Sees n next count busy tails paused waits ended) where
    -- ---- in each phase the one or two jobs of it
    none_but : (p : Phase) → s.phase n ≡ p → ((job : Job) (k : ℕ) → phase_of job ≡ p → CanDo P s n job k → ⊥) → NoJob P s n
    none_but p at nothing job k c = nothing job k (sym (can_phase n job k c) ∙ at) c

    emitting : s.phase n ≡ Emitting → JobIs n next (job_by Emitting next count busy tails paused waits ended)
    emitting at =
        by_test n next (nat_lt next count && not paused) (Some Emit) None
        (λ t.
        let lt = ltb-true next count (and_left (nat_lt next count) (not paused) t) in
        let free = not_true paused (and_right (nat_lt next count) (not paused) t) in
        let all = S.emits at in
        let same = S.next_is in
        ((at, sym same, omega arith, sym S.paused_is ∙ free), first))
        (λ f. none_but Emitting at (nothing f))
      where
        first : (job : Job) (k : ℕ) → CanDo P s n job k → (place_of Emit < place_of job) ⊎ ((Emit ≡ job) × (next ≤ k))
        first Emit k c = let a = c.1 in let b = S.next_is in inr (refl, omega arith)
        first Fold k c = inl (omega arith)
        first Seal k c = inl (omega arith)
        first Stream k c = inl (omega arith)
        first Close k c = inl (omega arith)
        first Tail k c = inl (omega arith)

        nothing : (nat_lt next count && not paused) ≡ false → (job : Job) (k : ℕ) → phase_of job ≡ Emitting → CanDo P s n job k → ⊥
        nothing f Emit k e c =
            let all = S.emits at in
            let same = S.next_is in
            let a = c.1 in
            let b = c.2 in
            never (nat_lt next count && not paused) f (and_both (nat_lt next count) (not paused) (lt-ltb next count (omega arith)) (true_not paused (S.paused_is ∙ c.3)))
        nothing f Fold k e c = cc
        nothing f Seal k e c = cc
        nothing f Stream k e c = cc
        nothing f Close k e c = cc
        nothing f Tail k e c = cc

    tailing : s.phase n ≡ Tailing → JobIs n next (job_by Tailing next count busy tails paused waits ended)
    tailing at =
        by_test n next (nat_lt next count && not paused) (Some Tail) None
        (λ t.
        let lt = ltb-true next count (and_left (nat_lt next count) (not paused) t) in
        let free = not_true paused (and_right (nat_lt next count) (not paused) t) in
        let all = S.ends at in
        let same = S.next_is in
        ((at, sym same, omega arith, sym S.paused_is ∙ free), first))
        (λ f. none_but Tailing at (nothing f))
      where
        first : (job : Job) (k : ℕ) → CanDo P s n job k → (place_of Tail < place_of job) ⊎ ((Tail ≡ job) × (next ≤ k))
        first Emit k c = let e = sym at ∙ c.0 in cc
        first Fold k c = let e = sym at ∙ c.0 in cc
        first Seal k c = let e = sym at ∙ c.0 in cc
        first Stream k c = let e = sym at ∙ c.0 in cc
        first Close k c = let e = sym at ∙ c.0 in cc
        first Tail k c = let a = c.1 in let b = S.next_is in inr (refl, omega arith)

        nothing : (nat_lt next count && not paused) ≡ false → (job : Job) (k : ℕ) → phase_of job ≡ Tailing → CanDo P s n job k → ⊥
        nothing f Emit k e c = cc
        nothing f Fold k e c = cc
        nothing f Seal k e c = cc
        nothing f Stream k e c = cc
        nothing f Close k e c = cc
        nothing f Tail k e c =
            let all = S.ends at in
            let same = S.next_is in
            let a = c.1 in
            let b = c.2 in
            never (nat_lt next count && not paused) f (and_both (nat_lt next count) (not paused) (lt-ltb next count (omega arith)) (true_not paused (S.paused_is ∙ c.3)))

    idle : nat_eq busy 0 ≡ true → tasks_at P s n ≡ []
    idle t = nil_from_length (tasks_at P s n) (sym S.busy_is ∙ eqb-true busy 0 t)

    idle_back : tasks_at P s n ≡ [] → nat_eq busy 0 ≡ true
    idle_back e = eq-eqb busy 0 (S.busy_is ∙ ap length e)

    over_back : (e : ℕ) → Offers e waits ended → (b : Bool) → b ≡ ended → IsEndedEdge P s e → b ≡ true
    over_back e o true same h = refl
    over_back e o false same h = absurd (o.going (sym same) h)

    folding : s.phase n ≡ Folding → JobIs n next (job_by Folding next count busy tails paused waits ended)
    folding at =
        by_test n next waits (Some Fold) (cond (ended && nat_eq busy 0) (Some Seal) None)
        (λ t. ((at, o.some t), first_fold))
        (λ f. by_test n next (ended && nat_eq busy 0) (Some Seal) None
        (λ t. ((at, idle (and_right ended (nat_eq busy 0) t), o.over (and_left ended (nat_eq busy 0) t), refl), first_seal f))
        (λ g. none_but Folding at (nothing f g)))
      where
        o : Offers (folds_from P n) waits ended
        o = S.folds at

        first_fold : (job : Job) (k : ℕ) → CanDo P s n job k → (place_of Fold < place_of job) ⊎ ((Fold ≡ job) × (0 ≤ k))
        first_fold Emit k c = let e = sym at ∙ c.0 in cc
        first_fold Fold k c = inr (refl, omega arith)
        first_fold Seal k c = inl (omega arith)
        first_fold Stream k c = inl (omega arith)
        first_fold Close k c = inl (omega arith)
        first_fold Tail k c = inl (omega arith)

        first_seal : waits ≡ false → (job : Job) (k : ℕ) → CanDo P s n job k → (place_of Seal < place_of job) ⊎ ((Seal ≡ job) × (0 ≤ k))
        first_seal f Emit k c = let e = sym at ∙ c.0 in cc
        first_seal f Fold k c = let a = (S.folds at).none f in let b = c.1 in absurd (omega arith)
        first_seal f Seal k c = inr (refl, omega arith)
        first_seal f Stream k c = inl (omega arith)
        first_seal f Close k c = inl (omega arith)
        first_seal f Tail k c = inl (omega arith)

        nothing : waits ≡ false → (ended && nat_eq busy 0) ≡ false → (job : Job) (k : ℕ) → phase_of job ≡ Folding → CanDo P s n job k → ⊥
        nothing f g Emit k e c = cc
        nothing f g Fold k e c = let a = (S.folds at).none f in let b = c.1 in omega arith
        nothing f g Seal k e c = never (ended && nat_eq busy 0) g (and_both ended (nat_eq busy 0) (over_back (folds_from P n) (S.folds at) ended refl c.2) (idle_back c.1))
        nothing f g Stream k e c = cc
        nothing f g Close k e c = cc
        nothing f g Tail k e c = cc

    streaming : s.phase n ≡ Streaming → JobIs n next (job_by Streaming next count busy tails paused waits ended)
    streaming at =
        by_test n next (waits && not paused) (Some Stream) (cond (ended && (tails && nat_eq busy 0)) (Some Close) None)
        (λ t. ((at, o.some (and_left waits (not paused) t), sym S.paused_is ∙ not_true paused (and_right waits (not paused) t)), first_stream))
        (λ f. by_test n next (ended && (tails && nat_eq busy 0)) (Some Close) None
        (λ t.
        let r = and_right ended (tails && nat_eq busy 0) t in
        ((at, idle (and_right tails (nat_eq busy 0) r), o.over (and_left ended (tails && nat_eq busy 0) t), refl, S.tails_is ∙ and_left tails (nat_eq busy 0) r), first_close f))
        (λ g. none_but Streaming at (nothing f g)))
      where
        o : Offers (streams_from P n) waits ended
        o = S.streams at

        waits_back : (b : Bool) → b ≡ waits → 0 < length (s.waiting (streams_from P n)) → b ≡ true
        waits_back true same h = refl
        waits_back false same h = let a = (S.streams at).none (sym same) in absurd (omega arith)

        no_stream : (waits && not paused) ≡ false → (k : ℕ) → CanDo P s n Stream k → ⊥
        no_stream f k c =
            let a = c.1 in
            never (waits && not paused) f (and_both waits (not paused) (waits_back waits refl (omega arith)) (true_not paused (S.paused_is ∙ c.2)))

        first_stream : (job : Job) (k : ℕ) → CanDo P s n job k → (place_of Stream < place_of job) ⊎ ((Stream ≡ job) × (0 ≤ k))
        first_stream Emit k c = let e = sym at ∙ c.0 in cc
        first_stream Fold k c = let e = sym at ∙ c.0 in cc
        first_stream Seal k c = let e = sym at ∙ c.0 in cc
        first_stream Stream k c = inr (refl, omega arith)
        first_stream Close k c = inl (omega arith)
        first_stream Tail k c = inl (omega arith)

        first_close : (waits && not paused) ≡ false → (job : Job) (k : ℕ) → CanDo P s n job k → (place_of Close < place_of job) ⊎ ((Close ≡ job) × (0 ≤ k))
        first_close f Emit k c = let e = sym at ∙ c.0 in cc
        first_close f Fold k c = let e = sym at ∙ c.0 in cc
        first_close f Seal k c = let e = sym at ∙ c.0 in cc
        first_close f Stream k c = absurd (no_stream f k c)
        first_close f Close k c = inr (refl, omega arith)
        first_close f Tail k c = inl (omega arith)

        nothing : (waits && not paused) ≡ false → (ended && (tails && nat_eq busy 0)) ≡ false → (job : Job) (k : ℕ) → phase_of job ≡ Streaming → CanDo P s n job k → ⊥
        nothing f g Emit k e c = cc
        nothing f g Fold k e c = cc
        nothing f g Seal k e c = cc
        nothing f g Stream k e c = no_stream f k c
        nothing f g Close k e c =
            never (ended && (tails && nat_eq busy 0)) g
            (and_both ended (tails && nat_eq busy 0) (over_back (streams_from P n) (S.streams at) ended refl c.2)
            (and_both tails (nat_eq busy 0) (sym S.tails_is ∙ c.4) (idle_back c.1)))
        nothing f g Tail k e c = cc

    by_phase : (p : Phase) → s.phase n ≡ p → JobIs n next (job_by p next count busy tails paused waits ended)
    by_phase Emitting at = emitting at
    by_phase Folding at = folding at
    by_phase Streaming at = streaming at
    by_phase Tailing at = tailing at
    by_phase Sealed at = none_but Sealed at (λ job k e c. not_sealed job e)
    by_phase Done at = none_but Done at (λ job k e c. not_done job e)

    pub job_is : (p : Phase) → p ≡ s.phase n → JobIs n next (job_by p next count busy tails paused waits ended)
    job_is p at = by_phase p (sym at)
