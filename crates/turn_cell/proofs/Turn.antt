-- The rule at the beginning, and the steps by which the turn is taken, an entry is counted and the turn is given back.
use Rattle.std.proofs.Common.{◌≡◌, ◌≢◌, ℕ, ◌+◌, ◌%◌, ◌^◌, ◌<◌, ◌⊎◌, ◌||◌, Bool, true, false, cond, eqb, eq-eqb, List, [], ◌∷◌, ◌++◌, length, get_or, set, refl, sym, ◌∙◌, ap, subst, ⊎_elim, arith, length-set, length-append, option_map, Option, Some, None}
use Rattle.std.proofs.lemmas.Bool.{eqb-true}
use Rattle.std.proofs.lemmas.List.{get_or-set_same, get_or-set_other, set-get_or, append_cancel_left}
use mathlib.Core.Option as maybe
use mathlib.Core.Option.{some, none, some-ne-none}
use lib.ListN.{get_elem?}
use prog.Atomic.{either}
use Rattle.atomic_table.specs.Table.{State, Me, Step, step, Act, rest, keeps, takes, gives, stepped, Allows, Valid, carried_after, opening}
use Rattle.atomic_table.proofs.Lists.{set_here, set_again, exchanged}
use Rattle.turn_cell.specs.History.{entries_of, BeginsWith}
use Rattle.turn_cell.specs.Knowledge.{is_one_of, entered, outside, with_entry}
use Rattle.turn_cell.specs.Rule.{live_count, Sits, FitsFirst, Fits, InTurns}
use Rattle.turn_cell.specs.Steps.{first_view, HandsOut, Takes, Counts, Gives}
use Rattle.turn_cell.specs.declared.knowledge.View.{View}
use Rattle.turn_cell.proofs.Entries.{some_same, none_some, is_one_of-cons, entries_of-append, entries_of-other, begins-grown, begins-itself}
use Rattle.turn_cell.proofs.Views.{at_changed, each_seat_after_set, live_count-same, each_after_set, each_after_push}

first_same : {E : Type 0} {x y : E} {xs ys : List E} → x ∷ xs ≡ y ∷ ys → x ≡ y
first_same e = cc

-- a machine that is held
in_hand : {B : Type 0} → B → List (ℕ × Option B) → B
in_hand b [] = b
in_hand b ((n, None) ∷ held) = b
in_hand b ((n, Some x) ∷ held) = x

held_same : {B : Type 0} (b b' : B) (held : List (ℕ × Option B)) → held ≡ (0, Some b) ∷ [] → held ≡ (0, Some b') ∷ [] → b ≡ b'
unfolding in_hand
held_same {B = B} b b' held e e' = sym (ap (λ (l : List (ℕ × Option B)). in_hand b l) e) ∙ ap (λ (l : List (ℕ × Option B)). in_hand b l) e'

-- the machine that a seat takes out of the slot is the one that the step handed out
pub taken_out : {B : Type 0} (b r : B) (found : Option B) (held others : List (ℕ × Option B)) → held ≡ (0, Some b) ∷ [] → held ≡ (0, found) ∷ others → found ≡ Some r → b ≡ r
unfolding in_hand
taken_out {B = B} b r found held others e e' is =
    sym (ap (λ (l : List (ℕ × Option B)). in_hand b l) e) ∙ ap (λ (l : List (ℕ × Option B)). in_hand b l) e' ∙ ap (λ (o : Option B). in_hand b ((0, o) ∷ others)) is

-- a job that is that of the first machine
pub job_of_start : {M J : Type 0} (job : M → J) (o : Option M) (j : J) → option_map job o ≡ Some j → (x : M) → o ≡ Some x → j ≡ job x
job_of_start job o j same x begun = some_same (sym same ∙ ap (option_map job) begun)

-- one slot that is held is the first one
pub held_first : {S : Type 0} (x : ℕ × S) (held : List (ℕ × S)) → held ≡ x ∷ [] → held ≡ x ∷ rest held
held_first {S = S} x held e = e ∙ ap (λ (l : List (ℕ × S)). x ∷ rest l) (sym e)

module _ {B M E J : Type 0} (owner : E → Option ℕ) (history : B → List E) (job_of : B → J) (job : M → J) (start : M) where
  abbrev S : Type 0
  S = State (Option B) (View M E)

  abbrev Rule : S → Type 0
  Rule = InTurns owner history job_of job start

  -- the table at the beginning
  begins : (b : B) (n : ℕ) → history b ≡ [] → job_of b ≡ job start → Rule (opening (0 ∷ 0 ∷ []) (Some b ∷ []) (first_view start n))
  begins b n empty same_job = record {
    log = [];
    seat_of = seat_of;
    holder = 0;
    two_words = refl;
    length_is = refl;
    free = λ _. (b, refl, empty, same_job);
    taken = λ ne. absurd (ne refl);
    longest = (0, first_view start n, (refl, refl), refl);
    each_seat = λ m i e. each_seat m i (eqb n m) refl e;
    fits = each_after_push (λ id v. Fits owner [] seat_of start 0 0 1 id v) [] (first_view start n) (λ _. first) (λ j u sits. absurd (some-ne-none u (sym sits.0)));
  }
    where
      seat_of : ℕ → Option ℕ
      seat_of m = cond (eqb n m) (Some 0) None

      new : (m : ℕ) → is_one_of (n ∷ []) m ≡ false → (seat_of m ≡ None) × (entries_of owner m [] ≡ [])
      new m other = (ap (λ (b : Bool). cond b (Some 0) None) (is_one_of-cons n [] m other).0, refl)

      given_has_seat : (b : Bool) → (b || false) ≡ true → cond {A = Option ℕ} b (Some 0) None ≡ None → ⊥
      given_has_seat true given nobody = cc
      given_has_seat false given nobody = cc

      each_seat : (m i : ℕ) (b : Bool) → eqb n m ≡ b → cond {A = Option ℕ} b (Some 0) None ≡ Some i → (v : View M E) × Sits (first_view start n ∷ []) i v × (v.knows.number ≡ m)
      each_seat m i true same e = (first_view start n, (subst (λ (k : ℕ). get_elem? (first_view {E = E} start n ∷ []) k ≡ some (first_view {E = E} start n)) (some_same e) refl, refl), eqb-true n m same)
      each_seat m i false other e = absurd (none_some e)

      first : Fits owner [] seat_of start 0 0 1 0 (first_view start n)
      first = record {
        started = refl;
        begins = begins-itself [];
        seen_own = refl;
        all_own = refl;
        seated = ap (λ (b : Bool). cond b (Some 0) None) (eq-eqb n n refl);
        in_turn = λ inside. absurd (cc);
        first = λ _. record { is_first_view = refl; each_joined = λ k d h. absurd (omega arith); new = new; all_known = λ m given nobody. absurd (given_has_seat (eqb n m) given nobody); counts = refl };
      }

  pub begins_with : (b : B) (n : ℕ) (slots : List (Option B)) → slots ≡ Some b ∷ [] → history b ≡ [] → job_of b ≡ job start → Rule (opening (0 ∷ 0 ∷ []) slots (first_view start n))
  begins_with b n slots one empty same_job = subst (λ (xs : List (Option B)). Rule (opening (0 ∷ 0 ∷ []) xs (first_view start n))) (sym one) (begins b n empty same_job)

  -- a step that changes nothing
  unchanged : (s : S) (id : ℕ) (v : View M E) → get_elem? s.views id ≡ some v → Rule s → Rule (stepped s 1 (get_or s.words 1 0) id [] v keeps)
  unchanged s id v at r =
      let same : stepped s 1 (get_or s.words 1 0) id [] v keeps ≡ s = λ i. record { words = set-get_or s.words 1 0 i; homes = s.homes; views = set_again s.views id v at i } in
      subst Rule (sym same) r

  module _ (s : S) (r : Rule s) (id : ℕ) (v : View M E) (sits : Sits s.views id v) where
    fit : Fits owner r.log r.seat_of start r.holder (get_or s.words 1 0) (live_count s.views) id v
    fit = r.fits id v sits

    -- a step after which the seat has seen the whole history: it began with the history before, no other number has more entries in it, and no other seat has the turn
    goes_on : (log own : List E) (holds_turn : Bool) (words : List ℕ) (homes : List (maybe.Option (Option B))) (holder : ℕ) → length words ≡ 2 → get_or words 0 0 ≡ length log
        → (get_or words 1 0 ≡ 0 → (b : B) × (get_elem? homes 0 ≡ some (some (Some b))) × (history b ≡ log) × (job_of b ≡ job start))
        → (get_or words 1 0 ≢ 0 → (get_elem? homes 0 ≡ some none) × (holds_turn ≡ true))
        → (holds_turn ≡ true → (get_or words 1 0 ≡ 1) × (id ≡ holder))
        → BeginsWith log r.log → ((n : ℕ) → (r.seat_of n ≡ Some id → ⊥) → entries_of owner n log ≡ entries_of owner n r.log)
        → entries_of owner v.knows.number log ≡ own
        → ((j : ℕ) (u : View M E) → j ≢ id → Sits s.views j u → u.knows.in_turn ≡ true → ⊥)
        → Rule (record { words = words; homes = homes; views = set s.views id (record v { knows = record v.knows { seen = log; own_entries = own; in_turn = holds_turn } }) })
    goes_on log own holds_turn words homes holder two_words length_is free taken in_turn begins same_entries all_own no_other = record {
      log = log;
      seat_of = r.seat_of;
      holder = holder;
      two_words = two_words;
      length_is = length_is;
      free = free;
      taken = λ held. let t = taken held in (t.0, (w, (subst (λ (i : ℕ). get_elem? (set s.views id w) i ≡ some w) (in_turn t.1).1 at_w, sits.1), t.1));
      longest = (id, w, (at_w, sits.1), refl);
      each_seat = each_seat_after_set r.seat_of s.views id v w sits sits.1 refl r.each_seat;
      fits = each_after_set (λ j u. Fits owner log r.seat_of start holder turn live j u) s.views id w (λ _. mine) others;
    }
      where
        w : View M E
        w = record v { knows = record v.knows { seen = log; own_entries = own; in_turn = holds_turn } }

        turn : ℕ
        turn = get_or words 1 0

        live : ℕ
        live = live_count (set s.views id w)

        at_w : get_elem? (set s.views id w) id ≡ some w
        at_w = at_changed s.views id v w sits.0

        first_still : (j : ℕ) (given : List ℕ) (joined : List (ℕ × List E)) (unjoined : ℕ) → FitsFirst owner r.log r.seat_of (live_count s.views) j given joined unjoined → FitsFirst owner log r.seat_of live j given joined unjoined
        first_still j given joined unjoined f = record {
          is_first_view = f.is_first_view;
          each_joined = λ i d h. let p = f.each_joined i d h in record { entries = same_entries _ (λ at. none_some (sym p.unseated ∙ at)) ∙ p.entries; was_given = p.was_given; unseated = p.unseated };
          new = λ n other. let p = f.new n other in (p.0, same_entries n (λ at. none_some (sym p.0 ∙ at)) ∙ p.1);
          all_known = f.all_known;
          counts = live_count-same s.views id v w sits sits.1 ∙ f.counts;
        }

        mine : Fits owner log r.seat_of start holder turn live id w
        mine = record {
          started = fit.started;
          begins = begins-itself log;
          seen_own = all_own;
          all_own = all_own;
          seated = fit.seated;
          in_turn = λ held. let t = in_turn held in (t.0, t.1, refl);
          first = λ is_first. first_still id v.knows.given v.knows.joined v.knows.unjoined (fit.first is_first);
        }

        others : (j : ℕ) (u : View M E) → j ≢ id → Sits s.views j u → Fits owner log r.seat_of start holder turn live j u
        others j u other there = let f = r.fits j u there in record {
          started = f.started;
          begins = begins-grown log r.log u.knows.seen begins f.begins;
          seen_own = f.seen_own;
          all_own = same_entries u.knows.number (λ at. other (some_same (sym f.seated ∙ at))) ∙ f.all_own;
          seated = f.seated;
          in_turn = λ inside. absurd (no_other j u other there inside);
          first = λ is_first. first_still j u.knows.given u.knows.joined u.knows.unjoined (f.first is_first);
        }

    -- the history is as it was
    same_history : (log : List E) → log ≡ r.log → BeginsWith log r.log × ((n : ℕ) → (r.seat_of n ≡ Some id → ⊥) → entries_of owner n log ≡ entries_of owner n r.log)
    same_history log same = (subst (λ (l : List E). BeginsWith l r.log) (sym same) (begins-itself r.log), (λ n _. ap (λ (l : List E). entries_of owner n l) same))

    -- the turn is taken, with the machine that was at home
    takes_free : length s.homes ≡ 1 → (is_free : get_or s.words 1 0 ≡ 0)
        → Rule (stepped s 1 1 id [] (record v { knows = entered v.knows (history (r.free is_free).0) }) (takes 0 (Some (r.free is_free).0)))
    takes_free one is_free =
        let home = r.free is_free in
        let whole : history home.0 ≡ r.log = home.2 in
        let held : get_or (set s.words 1 1) 1 0 ≡ 1 = get_or-set_same s.words 1 1 0 (omega (arith, r.two_words)) in
        let same = same_history (history home.0) whole in
        goes_on (history home.0) v.knows.own_entries true (set s.words 1 1) (set s.homes 0 none) id
        (length-set s.words 1 1 ∙ r.two_words)
        (get_or-set_other s.words 1 0 1 0 (λ h. omega arith) ∙ r.length_is ∙ sym (ap length whole))
        (λ is_zero. absurd (omega (arith, held)))
        (λ _. (set_here s.homes 0 none (omega arith), refl))
        (λ _. (held, refl))
        same.0
        same.1
        (ap (λ (l : List E). entries_of owner v.knows.number l) whole ∙ fit.all_own)
        (λ j u other there inside. omega (arith, ((r.fits j u there).in_turn inside).0))

    module _ (inside : v.knows.in_turn ≡ true) where
      turn : (get_or s.words 1 0 ≡ 1) × (id ≡ r.holder) × (v.knows.seen ≡ r.log)
      turn = fit.in_turn inside

      no_other : (j : ℕ) (u : View M E) → j ≢ id → Sits s.views j u → u.knows.in_turn ≡ true → ⊥
      no_other j u other there u_inside = other (((r.fits j u there).in_turn u_inside).1 ∙ sym turn.1)

      -- an entry is counted
      counts_entry : (e : E) → (owner e ≡ None) ⊎ (owner e ≡ Some v.knows.number) → (m : ℕ) → m ≡ get_or s.words 0 0 + 1 → (held : List (ℕ × Option B))
          → Rule (stepped s 0 m id held (record v { knows = with_entry owner v.knows e }) keeps)
      counts_entry e allowed m one_more held =
          let turn_same : get_or (set s.words 0 m) 1 0 ≡ get_or s.words 1 0 = get_or-set_other s.words 0 1 m 0 (λ h. omega arith) in
          subst (λ (b : Bool). Rule (stepped s 0 m id held (record v { knows = record v.knows { seen = log; own_entries = own; in_turn = b } }) keeps)) (sym inside)
          (goes_on log own true (set s.words 0 m) s.homes r.holder
          (length-set s.words 0 m ∙ r.two_words)
          (get_or-set_same s.words 0 m 0 (omega (arith, r.two_words)) ∙ omega (arith, one_more, r.length_is, ap length turn.2, length-append v.knows.seen (e ∷ [])))
          (λ is_zero. absurd (omega (arith, turn_same, turn.0)))
          (λ _. ((r.taken (λ is_zero. omega (arith, turn.0))).0, refl))
          (λ _. (turn_same ∙ turn.0, turn.1))
          (e ∷ [], grown)
          (λ n not_here. ap (λ (l : List E). entries_of owner n l) grown ∙ entries_of-other owner n r.log e (elsewhere n not_here))
          (entries_of-append owner v.knows.number v.knows.seen (e ∷ []) ∙ ap (λ (l : List E). l ++ entries_of owner v.knows.number (e ∷ [])) fit.seen_own)
          no_other)
        where
          log : List E
          log = v.knows.seen ++ e ∷ []

          own : List E
          own = v.knows.own_entries ++ entries_of owner v.knows.number (e ∷ [])

          grown : log ≡ r.log ++ e ∷ []
          grown = ap (λ (l : List E). l ++ e ∷ []) turn.2

          -- the entry belongs to no number that another seat has, or none
          elsewhere : (n : ℕ) → (r.seat_of n ≡ Some id → ⊥) → owner e ≢ Some n
          elsewhere n not_here e_n = ⊎_elim (λ (none_owner : owner e ≡ None). cc) (λ (mine : owner e ≡ Some v.knows.number). not_here (subst (λ (k : ℕ). r.seat_of k ≡ Some id) (some_same (sym mine ∙ e_n)) fit.seated)) allowed

      -- the turn is given back, with a machine of the same job that has the history which the seat has seen
      gives_back : (b : B) → length s.homes ≡ 1 → history b ≡ v.knows.seen → job_of b ≡ job start
          → Rule (stepped s 1 0 id ((0, Some b) ∷ []) (record v { knows = outside v.knows }) gives)
      gives_back b one whole same_job =
          let is_free : get_or (set s.words 1 0) 1 0 ≡ 0 = get_or-set_same s.words 1 0 0 (omega (arith, r.two_words)) in
          let same = same_history v.knows.seen turn.2 in
          goes_on v.knows.seen v.knows.own_entries false (set s.words 1 0) (set s.homes 0 (some (Some b))) r.holder
          (length-set s.words 1 0 ∙ r.two_words)
          (get_or-set_other s.words 1 0 0 0 (λ h. omega arith) ∙ r.length_is ∙ sym (ap length turn.2))
          (λ _. (b, set_here s.homes 0 (some (Some b)) (omega arith), whole, same_job))
          (λ held. absurd (held is_free))
          (λ held. absurd (cc))
          same.0
          same.1
          fit.seen_own
          no_other

  -- counting and giving back tell the same of every step
  abbrev any_step : Step (Option B)
  any_step = step 0 0 0 0 none

  abbrev Holds : Type 0
  Holds = Me (Option B) (View M E)

  -- a seat that holds nothing may try to take the turn
  pub may_take : (take : Step (Option B)) (slots id : ℕ) (me : Holds) → slots ≡ 1 → me.0.is_live ≡ true → me.1 ≡ []
      → Allows Rule slots id me 1 (λ n. either (eqb n 0) 1 n) (Takes owner history job_of job take me)
  may_take take slots id me one_slot live empty =
      subst (λ (held : List (ℕ × Option B)). Allows Rule slots id (me.0, held) 1 (λ n. either (eqb n 0) 1 n) (Takes owner history job_of job take (me.0, held))) (sym empty) with_nothing
    where
      v : View M E
      v = me.0

      with_nothing : Allows Rule slots id (v, []) 1 (λ n. either (eqb n 0) 1 n) (Takes owner history job_of job take (v, []))
      with_nothing s r homes at small = exchanged found 0 1 After hit miss
        where
          found : ℕ
          found = get_or s.words 1 0

          After : ℕ → Type 0
          After m = (w : View M E) × (a : Act (Option B)) × Valid s.homes [] a × Rule (stepped s 1 m id [] w a) × Takes owner history job_of job take (v, []) found (w, carried_after [] a)

          fit : Fits owner r.log r.seat_of start r.holder found (live_count s.views) id v
          fit = r.fits id v (at, live)

          hit : found ≡ 0 → After 1
          hit is_free = (
            record v { knows = entered v.knows (history b) },
            takes 0 (Some b),
            (r.free is_free).1,
            takes_free s r id v (at, live) (homes ∙ one_slot) is_free,
            record { taken = λ _. (b, refl, refl, handed); refused = λ not_free. absurd (not_free is_free) },
          )
            where
              b : B
              b = (r.free is_free).0

              same_history : history b ≡ r.log
              same_history = (r.free is_free).2

              handed : HandsOut owner history job_of job v b
              handed = record {
                same_job = λ x begun. (r.free is_free).3 ∙ ap job (some_same (sym fit.started ∙ begun));
                begins = subst (λ (l : List E). BeginsWith l v.knows.seen) (sym same_history) fit.begins;
                seen_own = fit.seen_own;
                all_own = ap (λ (l : List E). entries_of owner v.knows.number l) same_history ∙ fit.all_own;
              }

          miss : found ≢ 0 → After found
          miss not_free = (v, keeps, tt, unchanged s id v at r, record { taken = λ is_free. absurd (not_free is_free); refused = λ _. refl })

  -- a seat in the turn may count the entry by which the machine that it holds is ahead
  pub may_count : (slots id : ℕ) (me : Holds) (b : B) (e : E) → me.0.is_live ≡ true → me.0.knows.in_turn ≡ true → me.1 ≡ (0, Some b) ∷ [] → history b ≡ me.0.knows.seen ++ e ∷ []
      → (owner e ≡ None) ⊎ (owner e ≡ Some me.0.knows.number) → length (history b) < 2 ^ 64
      → Allows Rule slots id me 0 (λ n. (n + 1) % 2 ^ 64) (Counts owner history any_step me)
  may_count slots id me b e live inside held ahead allowed fits s r homes at small = (
    record v { knows = with_entry owner v.knows e },
    keeps,
    tt,
    counts_entry s r id v (at, live) inside e allowed ((get_or s.words 0 0 + 1) % 2 ^ 64) no_wrap me.1,
    λ b' e' held' ahead'. (refl, ap (λ (x : E). record v { knows = with_entry owner v.knows x }) (same_entry b' e' held' ahead')),
  )
    where
      v : View M E
      v = me.0

      seen_all : v.knows.seen ≡ r.log
      seen_all = ((r.fits id v (at, live)).in_turn inside).2

      no_wrap : (get_or s.words 0 0 + 1) % 2 ^ 64 ≡ get_or s.words 0 0 + 1
      no_wrap = omega (arith, r.length_is, ap length seen_all, ap length ahead, length-append v.knows.seen (e ∷ []))

      same_entry : (b' : B) (e' : E) → me.1 ≡ (0, Some b') ∷ [] → history b' ≡ v.knows.seen ++ e' ∷ [] → e ≡ e'
      same_entry b' e' held' ahead' = first_same (append_cancel_left v.knows.seen (e ∷ []) (e' ∷ []) (sym ahead ∙ ap history (held_same b b' me.1 held held') ∙ ahead'))

  -- a seat in the turn may give it back, with a machine of the cell's job that has the history which the seat has seen
  pub may_give : (slots id : ℕ) (me : Holds) (b : B) → slots ≡ 1 → me.0.is_live ≡ true → me.0.knows.in_turn ≡ true → me.1 ≡ (0, Some b) ∷ [] → history b ≡ me.0.knows.seen
      → ((x : M) → me.0.start ≡ Some x → job_of b ≡ job x)
      → Allows Rule slots id me 1 (λ _. 0) (λ _. Gives any_step me 0)
  may_give slots id me b one_slot live inside held same_history same_job =
      subst (λ (hand : List (ℕ × Option B)). Allows Rule slots id (me.0, hand) 1 (λ _. 0) (λ _. Gives any_step (me.0, hand) 0)) (sym held) with_machine
    where
      v : View M E
      v = me.0

      with_machine : Allows Rule slots id (v, (0, Some b) ∷ []) 1 (λ _. 0) (λ _. Gives any_step (v, (0, Some b) ∷ []) 0)
      with_machine s r homes at small = (
        record v { knows = outside v.knows },
        gives,
        tt,
        gives_back s r id v (at, live) inside b (homes ∙ one_slot) same_history (same_job start (r.fits id v (at, live)).started),
        (refl, refl),
      )
