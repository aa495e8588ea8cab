-- The steps by which a seat is split off the first one, and by which another seat is joined with it.
use Rattle.std.proofs.Common.{◌≡◌, ◌≢◌, ℕ, ◌+◌, ◌||◌, Bool, true, false, cond, eqb, eq-eqb, ne_eqb, List, [], ◌∷◌, ◌++◌, length, map, get_or, set, refl, sym, ◌∙◌, ap, subst, arith, Option, Some, None}
use Rattle.std.proofs.lemmas.Bool.{eqb-true}
use Rattle.std.proofs.lemmas.List.Elements.{All-cons}
use mathlib.Core.Option.{some}
use mathlib.Core.Logic.{dite}
use native.Mathlib.Decide.{ℕ_discrete}
use lib.ListN.{get_elem?}
use Rattle.atomic_table.specs.Table.{State, Splits, Joins}
use Rattle.atomic_table.proofs.Lists.{set_else, at_last}
use Rattle.turn_cell.specs.History.{entries_of}
use Rattle.turn_cell.specs.Knowledge.{is_one_of}
use Rattle.turn_cell.specs.Rule.{live_count, Sits, IsJoined, FitsFirst, Fits, InTurns}
use Rattle.turn_cell.specs.Steps.{splitting_view, split_view, joining_view, spent_view}
use Rattle.turn_cell.specs.declared.knowledge.View.{View}
use Rattle.turn_cell.proofs.Entries.{some_same, none_some, is_one_of-cons, entries_of-begins, entries_of-longer, begins-longer, longer-first, longer-second}
use Rattle.turn_cell.proofs.Views.{at_changed, each_seat_after_set, sits_set, sits_push, same_view, live_count-same, live_count-more, live_count-gone, only_one, each_after_set, each_after_push}

-- what has no seat has none after a seat is gone
still_none : (b : Bool) (found : Option ℕ) → found ≡ None → cond b None found ≡ None
still_none true found e = refl
still_none false found e = e

one_more : (a b : Bool) → b ≡ true → (a || b) ≡ true
one_more true b e = refl
one_more false b e = e

module _ {B M E J : Type 0} (owner : E → Option ℕ) (history : B → List E) (job_of : B → J) (job : M → J) (start : M) where
  abbrev S : Type 0
  S = State (Option B) (View M E)

  abbrev Rule : S → Type 0
  Rule = InTurns owner history job_of job start

  -- the first seat may be split, by a number that was not given out
  pub may_split : (n id : ℕ) (v : View M E) → v.is_live ≡ true → v.knows.is_first ≡ true → v.knows.in_turn ≡ false → is_one_of v.knows.given n ≡ false
      → Splits Rule id v (splitting_view n v) (split_view n v)
  may_split n id v live is_first is_outside fresh s r at = record {
    log = r.log;
    seat_of = seat_of;
    holder = r.holder;
    two_words = r.two_words;
    length_is = r.length_is;
    free = r.free;
    taken = λ held. let t = r.taken held in (t.0, (t.1.0, kept_view r.holder t.1.0 (not_holder held) t.1.1, t.1.2));
    longest = dite (ℕ_discrete r.longest.0 id) longest_here longest_there;
    each_seat = λ m i e. each_seat m i (eqb n m) refl e;
    fits = each_after_push P changed new (λ _. of_new) (each_after_set P s.views id left (λ _. of_first) of_others);
  }
    where
      left : View M E
      left = splitting_view n v

      new : View M E
      new = split_view n v

      changed : List (View M E)
      changed = set s.views id left

      place : ℕ
      place = length changed

      seat_of : ℕ → Option ℕ
      seat_of m = cond (eqb n m) (Some place) (r.seat_of m)

      turn : ℕ
      turn = get_or s.words 1 0

      live_after : ℕ
      live_after = live_count (changed ++ new ∷ [])

      P : ℕ → View M E → Type 0
      P j u = Fits owner r.log seat_of start r.holder turn live_after j u

      sits : Sits s.views id v
      sits = (at, live)

      fit : Fits owner r.log r.seat_of start r.holder turn (live_count s.views) id v
      fit = r.fits id v sits

      first : FitsFirst owner r.log r.seat_of (live_count s.views) id v.knows.given v.knows.joined v.knows.unjoined
      first = fit.first is_first

      -- no seat has the number yet, and it has no entry
      is_new : (r.seat_of n ≡ None) × (entries_of owner n r.log ≡ [])
      is_new = first.new n fresh

      seated_still : (m i : ℕ) → r.seat_of m ≡ Some i → seat_of m ≡ Some i
      seated_still m i e = ap (λ (b : Bool). cond b (Some place) (r.seat_of m)) (ne_eqb n m (λ same. none_some (sym is_new.0 ∙ ap r.seat_of same ∙ e))) ∙ e

      unseated_still : (m : ℕ) → eqb n m ≡ false → r.seat_of m ≡ None → seat_of m ≡ None
      unseated_still m other e = ap (λ (b : Bool). cond b (Some place) (r.seat_of m)) other ∙ e

      one_live_more : live_after ≡ live_count s.views + 1
      one_live_more = omega (arith, live_count-more changed new refl, live_count-same s.views id v left sits live)

      kept_view : (j : ℕ) (u : View M E) → j ≢ id → Sits s.views j u → Sits (changed ++ new ∷ []) j u
      kept_view j u other there = sits_push changed j new u (sits_set s.views id j left u other there)

      not_holder : turn ≢ 0 → r.holder ≢ id
      not_holder held same = let t = (r.taken held).1 in let u = t.0 in
          let here : u ≡ v = same_view s.views id u v (subst (λ (i : ℕ). get_elem? s.views i ≡ some u) same t.1.0) at in
          let inside : v.knows.in_turn ≡ true = sym (ap (λ (x : View M E). x.knows.in_turn) here) ∙ t.2 in cc

      longest_here : r.longest.0 ≡ id → (i : ℕ) × (u : View M E) × Sits (changed ++ new ∷ []) i u × (u.knows.seen ≡ r.log)
      longest_here same = let u = r.longest.1 in
          let here : u ≡ v = same_view s.views id u v (subst (λ (i : ℕ). get_elem? s.views i ≡ some u) same r.longest.2.0) at in
          (id, left, sits_push changed id new left (at_changed s.views id v left at, live), sym (ap (λ (x : View M E). x.knows.seen) here) ∙ r.longest.3)

      longest_there : r.longest.0 ≢ id → (i : ℕ) × (u : View M E) × Sits (changed ++ new ∷ []) i u × (u.knows.seen ≡ r.log)
      longest_there other = (r.longest.0, r.longest.1, kept_view r.longest.0 r.longest.1 other r.longest.2, r.longest.3)

      known_still : (m : ℕ) (b : Bool) → (b || is_one_of v.knows.given m) ≡ true → cond b (Some place) (r.seat_of m) ≡ None → is_one_of (map (λ p. p.0) v.knows.joined) m ≡ true
      known_still m true given nobody = absurd (none_some (sym nobody))
      known_still m false given nobody = first.all_known m given nobody

      each_seat : (m i : ℕ) (b : Bool) → eqb n m ≡ b → cond b (Some place) (r.seat_of m) ≡ Some i → (u : View M E) × Sits (changed ++ new ∷ []) i u × (u.knows.number ≡ m)
      each_seat m i true same e = (new, (subst (λ (k : ℕ). get_elem? (changed ++ new ∷ []) k ≡ some new) (some_same e) (at_last changed new place refl), refl), eqb-true n m same)
      each_seat m i false other e = let t = each_seat_after_set r.seat_of s.views id v left sits live refl r.each_seat m i e in (t.0, sits_push changed i new t.0 t.1, t.2)

      of_new : P place new
      of_new = record {
        started = fit.started;
        begins = fit.begins;
        seen_own = entries_of-begins owner n r.log v.knows.seen fit.begins is_new.1;
        all_own = is_new.1;
        seated = ap (λ (b : Bool). cond b (Some place) (r.seat_of n)) (eq-eqb n n refl);
        in_turn = λ inside. absurd (cc);
        first = λ claims. absurd (cc);
      }

      joined_apart : (p : ℕ × List E) → IsJoined owner r.log r.seat_of v.knows.given p → eqb n p.0 ≡ false
      joined_apart p joined = ne_eqb n p.0 (λ same. let given : is_one_of v.knows.given n ≡ true = ap (λ (m : ℕ). is_one_of v.knows.given m) same ∙ joined.was_given in absurd (cc))

      of_first : P id left
      of_first = record {
        started = fit.started;
        begins = fit.begins;
        seen_own = fit.seen_own;
        all_own = fit.all_own;
        seated = seated_still v.knows.number id fit.seated;
        in_turn = λ inside. absurd (cc);
        first = λ _. record {
          is_first_view = first.is_first_view;
          each_joined = λ k d h. let p = first.each_joined k d h in let q = get_or v.knows.joined k d in record {
            entries = p.entries;
            was_given = one_more (eqb n q.0) (is_one_of v.knows.given q.0) p.was_given;
            unseated = unseated_still q.0 (joined_apart q p) p.unseated;
          };
          new = λ m other. let t = is_one_of-cons n v.knows.given m other in let q = first.new m t.1 in (unseated_still m t.0 q.0, q.1);
          all_known = λ m given nobody. known_still m (eqb n m) given nobody;
          counts = omega (arith, one_live_more, first.counts);
        };
      }

      of_others : (j : ℕ) (u : View M E) → j ≢ id → Sits s.views j u → P j u
      of_others j u other there = let f = r.fits j u there in record {
        started = f.started;
        begins = f.begins;
        seen_own = f.seen_own;
        all_own = f.all_own;
        seated = seated_still u.knows.number j f.seated;
        in_turn = f.in_turn;
        first = λ claims. absurd (other ((f.first claims).is_first_view ∙ sym first.is_first_view));
      }

  -- another seat may be joined with the first one, both outside the turn
  pub may_join : (id : ℕ) (v : View M E) (gone : ℕ) (w : View M E) → v.is_live ≡ true → w.is_live ≡ true → v.knows.is_first ≡ true → v.knows.in_turn ≡ false → w.knows.in_turn ≡ false
      → Joins Rule id v gone w (joining_view v w) spent_view
  may_join id v gone w live w_live is_first is_outside w_outside s r at two at_changed_list = record {
    log = r.log;
    seat_of = seat_of;
    holder = r.holder;
    two_words = r.two_words;
    length_is = r.length_is;
    free = r.free;
    taken = λ held. let t = r.taken held in (t.0, (t.1.0, kept_view r.holder t.1.0 (not_holder id v sits is_outside held) (not_holder gone w w_sits w_outside held) t.1.1, t.1.2));
    longest = dite (ℕ_discrete r.longest.0 id) longest_here (λ other. dite (ℕ_discrete r.longest.0 gone) longest_gone (longest_there other));
    each_seat = λ m i e. each_seat m i (eqb w.knows.number m) refl e;
    fits = each_after_set P changed gone spent_view (λ there. absurd (cc)) (λ j u still sits_j. each_after_set Q s.views id both (λ _ _. of_first) of_others j u sits_j still);
  }
    where
      both : View M E
      both = joining_view v w

      changed : List (View M E)
      changed = set s.views id both

      after : List (View M E)
      after = set changed gone spent_view

      seat_of : ℕ → Option ℕ
      seat_of m = cond (eqb w.knows.number m) None (r.seat_of m)

      turn : ℕ
      turn = get_or s.words 1 0

      P : ℕ → View M E → Type 0
      P j u = Fits owner r.log seat_of start r.holder turn (live_count after) j u

      Q : ℕ → View M E → Type 0
      Q j u = j ≢ gone → P j u

      sits : Sits s.views id v
      sits = (at, live)

      w_sits : Sits s.views gone w
      w_sits = (sym (set_else s.views id gone both two) ∙ at_changed_list, w_live)

      fit : Fits owner r.log r.seat_of start r.holder turn (live_count s.views) id v
      fit = r.fits id v sits

      w_fit : Fits owner r.log r.seat_of start r.holder turn (live_count s.views) gone w
      w_fit = r.fits gone w w_sits

      first : FitsFirst owner r.log r.seat_of (live_count s.views) id v.knows.given v.knows.joined v.knows.unjoined
      first = fit.first is_first

      seated_still : (m i : ℕ) → i ≢ gone → r.seat_of m ≡ Some i → seat_of m ≡ Some i
      seated_still m i other e = ap (λ (b : Bool). cond b None (r.seat_of m)) (ne_eqb w.knows.number m (λ same. other (some_same (sym e ∙ sym (ap r.seat_of same) ∙ w_fit.seated)))) ∙ e

      one_live_less : live_count after + 1 ≡ live_count s.views
      one_live_less = live_count-gone changed gone w spent_view (at_changed_list, w_live) refl ∙ live_count-same s.views id v both sits live

      some_unjoined : v.knows.unjoined ≢ 0
      some_unjoined none_out = two (only_one s.views id gone v w (omega (arith, first.counts, none_out)) sits w_sits)

      kept_view : (j : ℕ) (u : View M E) → j ≢ id → j ≢ gone → Sits s.views j u → Sits after j u
      kept_view j u other still there = sits_set changed gone j spent_view u still (sits_set s.views id j both u other there)

      both_sits : Sits after id both
      both_sits = sits_set changed gone id spent_view both (λ e. two (sym e)) (at_changed s.views id v both at, live)

      not_holder : (j : ℕ) (u : View M E) → Sits s.views j u → u.knows.in_turn ≡ false → turn ≢ 0 → r.holder ≢ j
      not_holder j u there u_outside held same = let t = (r.taken held).1 in let x = t.0 in
          let here : x ≡ u = same_view s.views j x u (subst (λ (i : ℕ). get_elem? s.views i ≡ some x) same t.1.0) there.0 in
          let inside : u.knows.in_turn ≡ true = sym (ap (λ (y : View M E). y.knows.in_turn) here) ∙ t.2 in cc

      seen_at : (j : ℕ) (u : View M E) → get_elem? s.views j ≡ some u → r.longest.0 ≡ j → u.knows.seen ≡ r.log
      seen_at j u at_u same = let x = r.longest.1 in
          let here : x ≡ u = same_view s.views j x u (subst (λ (i : ℕ). get_elem? s.views i ≡ some x) same r.longest.2.0) at_u in
          sym (ap (λ (y : View M E). y.knows.seen) here) ∙ r.longest.3

      longest_here : r.longest.0 ≡ id → (i : ℕ) × (u : View M E) × Sits after i u × (u.knows.seen ≡ r.log)
      longest_here same = (id, both, both_sits, longer-first r.log v.knows.seen w.knows.seen w_fit.begins (seen_at id v at same))

      longest_gone : r.longest.0 ≡ gone → (i : ℕ) × (u : View M E) × Sits after i u × (u.knows.seen ≡ r.log)
      longest_gone same = (id, both, both_sits, longer-second r.log v.knows.seen w.knows.seen fit.begins (seen_at gone w w_sits.0 same))

      longest_there : r.longest.0 ≢ id → r.longest.0 ≢ gone → (i : ℕ) × (u : View M E) × Sits after i u × (u.knows.seen ≡ r.log)
      longest_there other still = (r.longest.0, r.longest.1, kept_view r.longest.0 r.longest.1 other still r.longest.2, r.longest.3)

      known_still : (m : ℕ) (b : Bool) → is_one_of v.knows.given m ≡ true → cond b None (r.seat_of m) ≡ None → (b || is_one_of (map (λ p. p.0) v.knows.joined) m) ≡ true
      known_still m true given nobody = refl
      known_still m false given nobody = first.all_known m given nobody

      each_seat : (m i : ℕ) (b : Bool) → eqb w.knows.number m ≡ b → cond b None (r.seat_of m) ≡ Some i → (u : View M E) × Sits after i u × (u.knows.number ≡ m)
      each_seat m i true same e = absurd (none_some e)
      each_seat m i false other e = let t = each_seat_after_set r.seat_of s.views id v both sits live refl r.each_seat m i e in (t.0, sits_set changed gone i spent_view t.0 not_gone t.1, t.2)
        where
          not_gone : i ≢ gone
          not_gone same =
              let u = r.each_seat m i e in
              let here : u.0 ≡ w = same_view s.views gone u.0 w (subst (λ (k : ℕ). get_elem? s.views k ≡ some u.0) same u.1.0) w_sits.0 in
              let yes : eqb w.knows.number m ≡ true = eq-eqb w.knows.number m (sym (ap (λ (x : View M E). x.knows.number) here) ∙ u.2) in cc

      w_given : (b : Bool) → is_one_of v.knows.given w.knows.number ≡ b → is_one_of v.knows.given w.knows.number ≡ true
      w_given true e = e
      w_given false e = absurd (none_some (sym (first.new w.knows.number e).0 ∙ w_fit.seated))

      of_first : P id both
      of_first = record {
        started = fit.started;
        begins = begins-longer r.log v.knows.seen w.knows.seen fit.begins w_fit.begins;
        seen_own = entries_of-longer owner v.knows.number r.log v.knows.seen w.knows.seen v.knows.own_entries fit.begins w_fit.begins fit.seen_own fit.all_own;
        all_own = fit.all_own;
        seated = seated_still v.knows.number id (λ e. two (sym e)) fit.seated;
        in_turn = λ inside. absurd (cc);
        first = λ _. record {
          is_first_view = first.is_first_view;
          each_joined = All-cons (IsJoined owner r.log seat_of v.knows.given) (w.knows.number, w.knows.own_entries) v.knows.joined
              (record {
                entries = w_fit.all_own;
                was_given = w_given (is_one_of v.knows.given w.knows.number) refl;
                unseated = ap (λ (b : Bool). cond b None (r.seat_of w.knows.number)) (eq-eqb w.knows.number w.knows.number refl);
              })
              (λ k d h. let p = first.each_joined k d h in let q = get_or v.knows.joined k d in record { entries = p.entries; was_given = p.was_given; unseated = still_none (eqb w.knows.number q.0) (r.seat_of q.0) p.unseated });
          new = λ m other. let q = first.new m other in (still_none (eqb w.knows.number m) (r.seat_of m) q.0, q.1);
          all_known = λ m given nobody. known_still m (eqb w.knows.number m) given nobody;
          counts = omega (arith, one_live_less, first.counts, some_unjoined);
        };
      }

      of_others : (j : ℕ) (u : View M E) → j ≢ id → Sits s.views j u → Q j u
      of_others j u other there still = let f = r.fits j u there in record {
        started = f.started;
        begins = f.begins;
        seen_own = f.seen_own;
        all_own = f.all_own;
        seated = seated_still u.knows.number j still f.seated;
        in_turn = f.in_turn;
        first = λ claims. absurd (other ((f.first claims).is_first_view ∙ sym first.is_first_view));
      }
