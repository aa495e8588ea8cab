-- What the closed table has, where the first seat has joined all others.
use Rattle.std.proofs.Common.{◌≡◌, ◌≢◌, ℕ, suc, ◌||◌, Bool, true, false, cond, eqb, eq-eqb, ne_eqb, map, List, [], ◌∷◌, get_or, refl, sym, ◌∙◌, ap, subst, arith, All, Option, Some, None}
use Rattle.std.proofs.lemmas.Bool.{eqb-true}
use mathlib.Core.Option.{some, some-injective}
use mathlib.Core.Logic.{dite}
use native.Mathlib.Decide.{ℕ_discrete}
use lib.ListN.{get_elem?}
use Rattle.atomic_table.specs.Table.{State, Final, Seen}
use Rattle.turn_cell.specs.History.{entries_of}
use Rattle.turn_cell.specs.Knowledge.{is_one_of, joined_entries, entries_left}
use Rattle.turn_cell.specs.Rule.{live_count, Sits, FitsFirst, Fits, InTurns}
use Rattle.turn_cell.specs.declared.knowledge.Known.{Known}
use Rattle.turn_cell.specs.declared.knowledge.View.{View}
use Rattle.turn_cell.proofs.Entries.{some_same, none_some}
use Rattle.turn_cell.proofs.Views.{same_view, only_one}

-- what a number that was not given out has left: nothing
none_of_joined : {E : Type 0} (given : List ℕ) (joined : List (ℕ × List E)) (n : ℕ) → All (λ p. is_one_of given p.0 ≡ true) joined → is_one_of given n ≡ false → joined_entries joined n ≡ []
none_of_joined given [] n all_given other = refl
none_of_joined {E = E} given (p ∷ joined) n all_given other = by_test (eqb p.0 n) refl (none_of_joined given joined n (λ k d h. all_given (suc k) d (omega arith)) other)
  where
    by_test : (b : Bool) → eqb p.0 n ≡ b → joined_entries joined n ≡ [] → cond b p.1 (joined_entries joined n) ≡ []
    by_test true same rest = let here : is_one_of given p.0 ≡ true = all_given 0 p (omega arith) in let there : is_one_of given n ≡ true = sym (ap (λ (m : ℕ). is_one_of given m) (eqb-true p.0 n same)) ∙ here in absurd (cc)
    by_test false apart rest = rest

module _ {E : Type 0} (owner : E → Option ℕ) (log : List E) where
  -- what a joined number has left: its entries
  all_of_joined : (joined : List (ℕ × List E)) (n : ℕ) → All (λ p. entries_of owner p.0 log ≡ p.1) joined → is_one_of (map (λ p. p.0) joined) n ≡ true → entries_of owner n log ≡ joined_entries joined n
  all_of_joined [] n exact there = absurd (cc)
  all_of_joined (p ∷ joined) n exact there = by_test (eqb p.0 n) refl there (all_of_joined joined n (λ k d h. exact (suc k) d (omega arith)))
    where
      by_test : (b : Bool) → eqb p.0 n ≡ b → (b || is_one_of (map (λ q. q.0) joined) n) ≡ true → (is_one_of (map (λ q. q.0) joined) n ≡ true → entries_of owner n log ≡ joined_entries joined n) → entries_of owner n log ≡ cond b p.1 (joined_entries joined n)
      by_test true same found rest = ap (λ (m : ℕ). entries_of owner m log) (sym (eqb-true p.0 n same)) ∙ exact 0 p (omega arith)
      by_test false apart found rest = rest found

module _ {B M E J : Type 0} (owner : E → Option ℕ) (history : B → List E) (job_of : B → J) (job : M → J) (start : M) where
  abbrev Rule : State (Option B) (View M E) → Type 0
  Rule = InTurns owner history job_of job start

  -- what is known of the machine that comes back
  pub record Ending (k : Known E) (b : B) : Type 0 where
    pub same_job : job_of b ≡ job start
    pub whole : history b ≡ k.seen
    pub own : entries_of owner k.number (history b) ≡ k.own_entries
    pub joined : All (λ p. entries_of owner p.0 (history b) ≡ p.1) k.joined
    pub not_given : (n : ℕ) → is_one_of k.given n ≡ false → entries_of owner n (history b) ≡ []
    pub every_number : (n : ℕ) → entries_of owner n (history b) ≡ entries_left k n

  -- the slot has such a machine
  pub record Found (k : Known E) (found : Option B) : Type 0 where
    pub machine : B
    pub is : found ≡ Some machine
    pub ending : Ending k machine

  pub ends : (id : ℕ) (v : View M E) (words : List ℕ) (slots : List (Option B)) → v.is_live ≡ true → v.knows.is_first ≡ true → v.knows.in_turn ≡ false → v.knows.unjoined ≡ 0
      → Final (Seen Rule id v) words slots → (found : Option B) → get_elem? slots 0 ≡ some found → Found v.knows found
  ends id v words slots live is_first is_outside all_joined (s, (r, at), words_are, _, at_home) found taken = record {
    machine = b;
    is = some-injective found (Some b) (sym taken ∙ at_home 0 (Some b) there.1);
    ending = record {
      same_job = there.3;
      whole = is_log ∙ sym seen_all;
      own = ap (λ (l : List E). entries_of owner v.knows.number l) is_log ∙ fit.all_own;
      joined = λ k d h. ap (λ (l : List E). entries_of owner (get_or v.knows.joined k d).0 l) is_log ∙ (first.each_joined k d h).entries;
      not_given = λ n other. ap (λ (l : List E). entries_of owner n l) is_log ∙ (first.new n other).1;
      every_number = λ n. ap (λ (l : List E). entries_of owner n l) is_log ∙ every n (is_one_of v.knows.given n) refl;
    };
  }
    where
      sits : Sits s.views id v
      sits = (at, live)

      fit : Fits owner r.log r.seat_of start r.holder (get_or s.words 1 0) (live_count s.views) id v
      fit = r.fits id v sits

      first : FitsFirst owner r.log r.seat_of (live_count s.views) id v.knows.given v.knows.joined v.knows.unjoined
      first = fit.first is_first

      alone : (j : ℕ) (u : View M E) → Sits s.views j u → u ≡ v
      alone j u there = same_view s.views id u v (subst (λ (i : ℕ). get_elem? s.views i ≡ some u) (only_one s.views id j v u (omega (arith, first.counts)) sits there) there.0) at

      held_by_nobody : get_or s.words 1 0 ≢ 0 → ⊥
      held_by_nobody held = let t = (r.taken held).1 in let inside : v.knows.in_turn ≡ true = sym (ap (λ (x : View M E). x.knows.in_turn) (alone r.holder t.0 t.1)) ∙ t.2 in cc

      is_free : get_or s.words 1 0 ≡ 0
      is_free = dite (ℕ_discrete (get_or s.words 1 0) 0) (λ e. e) (λ held. absurd (held_by_nobody held))

      there : (b : B) × (get_elem? s.homes 0 ≡ some (some (Some b))) × (history b ≡ r.log) × (job_of b ≡ job start)
      there = r.free is_free

      b : B
      b = there.0

      is_log : history b ≡ r.log
      is_log = there.2

      -- the entries of a number, by whether it was given out, and whether a seat has it
      every : (n : ℕ) (b : Bool) → is_one_of v.knows.given n ≡ b → entries_of owner n r.log ≡ entries_left v.knows n
      every n true given = seated (r.seat_of n) refl
        where
          seated : (o : Option ℕ) → r.seat_of n ≡ o → entries_of owner n r.log ≡ entries_left v.knows n
          seated (Some i) e =
              let t = r.each_seat n i e in
              let same : v.knows.number ≡ n = sym (ap (λ (x : View M E). x.knows.number) (alone i t.0 t.1)) ∙ t.2 in
              ap (λ (m : ℕ). entries_of owner m r.log) (sym same) ∙ fit.all_own ∙ sym (ap (λ (b : Bool). cond b v.knows.own_entries (joined_entries v.knows.joined n)) (eq-eqb v.knows.number n same))
          seated None e =
              all_of_joined owner r.log v.knows.joined n (λ k d h. (first.each_joined k d h).entries) (first.all_known n given e)
              ∙ sym (ap (λ (b : Bool). cond b v.knows.own_entries (joined_entries v.knows.joined n)) (ne_eqb v.knows.number n (λ same. none_some (sym e ∙ sym (ap r.seat_of same) ∙ fit.seated))))
      every n false other =
          let nothing = first.new n other in
          nothing.1 ∙ sym (ap (λ (b : Bool). cond b v.knows.own_entries (joined_entries v.knows.joined n)) (ne_eqb v.knows.number n (λ same. none_some (sym nothing.0 ∙ sym (ap r.seat_of same) ∙ fit.seated)))
          ∙ none_of_joined v.knows.given v.knows.joined n (λ k d h. (first.each_joined k d h).was_given) other)

      seen_all : v.knows.seen ≡ r.log
      seen_all = sym (ap (λ (x : View M E). x.knows.seen) (alone r.longest.0 r.longest.1 r.longest.2)) ∙ r.longest.3

  -- the same of the machine in hand, as the contract names what the seat knows
  pub ending_of : (k known : Known E) (r : B) (found : Option B) → known ≡ k → found ≡ Some r → Found known found → Ending k r
  ending_of k known r found same_knows is_r f =
      subst (λ (x : B). Ending k x) (some_same (sym f.is ∙ is_r)) (subst (λ (x : Known E). Ending x f.machine) same_knows f.ending)
