-- The part of a state that belongs to a number, after the entries of others.
use Rattle.std.proofs.Common.{◌≡◌, ◌≢◌, ℕ, Bool, true, false, cond, eqb, eq-eqb, List, [], ◌∷◌, ◌++◌, refl, sym, ◌∙◌, ap, subst, Option, Some, None}
use Rattle.std.proofs.lemmas.List.{append-nil, append_cancel_left}
use Rattle.std.proofs.lemmas.List.Sums.{fold-append}
use Rattle.turn_cell.specs.History.{replay, belongs_to, entries_of, BeginsWith}
use Rattle.turn_cell.specs.Steps.{HandsOut}
use Rattle.turn_cell.specs.declared.knowledge.Known.{Known}
use Rattle.turn_cell.specs.declared.knowledge.View.{View}
use Rattle.turn_cell.proofs.Entries.{entries_of-append}

-- where the first entry is not kept, it has another owner, and the rest is empty
not_kept : {E : Type 0} (n : ℕ) (o : Option ℕ) (e : E) (rest : List E) → cond (belongs_to n o) (e ∷ rest) rest ≡ [] → (o ≢ Some n) × (rest ≡ [])
not_kept n None e rest empty = ((λ h. cc), empty)
not_kept {E = E} n (Some m) e rest empty = by_test (eqb m n) refl
  where
    by_test : (b : Bool) → eqb m n ≡ b → (Some m ≢ Some n) × (rest ≡ [])
    by_test true same = let kept : e ∷ rest ≡ [] = sym (ap (λ (b : Bool). cond b (e ∷ rest) rest) same) ∙ empty in absurd (cc)
    by_test false other = ((λ h. let same : m ≡ n = cc in let yes : eqb m n ≡ true = eq-eqb m n same in cc), sym (ap (λ (b : Bool). cond b (e ∷ rest) rest) other) ∙ empty)

module _ {S E P : Type 0} (owner : E → Option ℕ) (own : S → ℕ → P) (after : S → E → S) (keeps_others : (s : S) (e : E) (n : ℕ) → owner e ≢ Some n → own (after s e) n ≡ own s n) where
  -- the entries of others leave it as it was
  own_after_others : (n : ℕ) (s : S) (entries : List E) → entries_of owner n entries ≡ [] → own (replay after s entries) n ≡ own s n
  own_after_others n s [] none_there = refl
  own_after_others n s (e ∷ entries) none_there =
      let first = not_kept n (owner e) e (entries_of owner n entries) none_there in own_after_others n (after s e) entries first.1 ∙ keeps_others s e n first.0

  -- a history with no more entries of the number than its beginning
  own_after_more : (n : ℕ) (s : S) (log seen left : List E) → BeginsWith log seen → entries_of owner n seen ≡ left → entries_of owner n log ≡ left → own (replay after s log) n ≡ own (replay after s seen) n
  own_after_more n s log seen left (more, log_is) in_seen in_log =
      let both : left ++ entries_of owner n more ≡ left ++ [] =
      sym (ap (λ (l : List E). l ++ entries_of owner n more) in_seen) ∙ sym (entries_of-append owner n seen more) ∙ sym (ap (λ (l : List E). entries_of owner n l) log_is) ∙ in_log ∙ sym (append-nil left) in
      ap (λ (l : List E). own (replay after s l) n) log_is ∙ ap (λ (t : S). own t n) (fold-append after s seen more)
      ∙ own_after_others n (replay after s seen) more (append_cancel_left left (entries_of owner n more) [] both)

  module _ {B M J : Type 0} (history : B → List E) (job_of : B → J) (job : M → J) where
    -- what the turn hands out has the number's part as the seat has seen it, and as it was at first where the seat has left nothing
    pub own_of_seat : (s : S) (v : View M E) (k : Known E) (b r : B) → v.knows ≡ k → b ≡ r → HandsOut owner history job_of job v b
        → (own (replay after s (history r)) k.number ≡ own (replay after s k.seen) k.number) × (k.own_entries ≡ [] → own (replay after s (history r)) k.number ≡ own s k.number)
    own_of_seat s v k b r same_knows same_machine handed =
        let of_b : Part v.knows b = (own_after_more v.knows.number s (history b) v.knows.seen v.knows.own_entries handed.begins handed.seen_own handed.all_own, λ none_left. own_after_others v.knows.number s (history b) (handed.all_own ∙ none_left)) in
        subst (λ (x : B). Part k x) same_machine (subst (λ (x : Known E). Part x b) same_knows of_b)
      where
        Part : Known E → B → Type 0
        Part x m = (own (replay after s (history m)) x.number ≡ own (replay after s x.seen) x.number) × (x.own_entries ≡ [] → own (replay after s (history m)) x.number ≡ own s x.number)
