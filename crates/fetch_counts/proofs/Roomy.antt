-- Fetches that get more room, one after another.
use Rattle.std.proofs.Common.{◌≡◌, ◌≢◌, ◌<◌, ◌≤◌, ◌+◌, ℕ, ◌⊎◌, inl, inr, false, List, length, Option, Some, None, IsSome, refl, sym, ap, subst, ◌∙◌, slice_index_or, slice_set, vec_capacity, arith}
use Rattle.std.specs.Option.{is_some}
use Rattle.std.proofs.lemmas.List.{length-set, get_or-set_same, get_or-set_other, get_or_read, set-get_or}
use Rattle.plan_machine.proofs.Weigh.{same_or}
use Rattle.fetch_counts.specs.declared.front.Front.{Front}
use Rattle.fetch_counts.specs.Counts.{IsSameCount, AreSameCounts}

-- the fetches at the first places have room to count so many batches more
abbrev pub RoomBelow : ℕ → ℕ → List Front → Type 0
RoomBelow places more fronts =
    (k : ℕ) (d : Front) → k < places → k < length fronts → IsSome (slice_index_or fronts k d).wanted
    → length (slice_index_or fronts k d).behind.items + more ≤ vec_capacity (slice_index_or fronts k d).behind

pub same_count : (f : Front) → IsSameCount f f
same_count f = record { wanted = refl; first = refl; behind = refl; room = omega arith }

same_counts : (e f g : Front) → IsSameCount e f → IsSameCount f g → IsSameCount e g
same_counts e f g a b = record { wanted = b.wanted ∙ a.wanted; first = b.first ∙ a.first; behind = b.behind ∙ a.behind; room = (let x = a.room in let y = b.room in omega arith) }

-- one front gets more room
pub same_set : (old fronts : List Front) (p : ℕ) (e f : Front) → p < length fronts → e ≡ slice_index_or fronts p e → IsSameCount e f → AreSameCounts old fronts → AreSameCounts old (slice_set fronts p f)
same_set old fronts p e f lt is same h = record { size = length-set fronts p f ∙ h.size; each = λ k d low. by k d low (same_or k p) }
  where
    by : (k : ℕ) (d : Front) → k < length old → (k ≡ p) ⊎ (k ≢ p) → IsSameCount (slice_index_or old k d) (slice_index_or (slice_set fronts p f) k d)
    by k d low (inl q) =
        subst (λ j. IsSameCount (slice_index_or old j d) (slice_index_or (slice_set fronts p f) j d)) (sym q)
        (subst (λ x. IsSameCount (slice_index_or old p d) x) (sym (get_or-set_same fronts p f d lt))
        (same_counts (slice_index_or old p d) e f (subst (λ x. IsSameCount (slice_index_or old p d) x) (sym (get_or_read fronts p e lt is d)) (h.each p d (subst (λ j. j < length old) q low))) same))
    by k d low (inr ne) = subst (λ x. IsSameCount (slice_index_or old k d) x) (sym (get_or-set_other fronts p k f d ne)) (h.each k d low)

pub room_set : (fronts : List Front) (p more : ℕ) (f : Front) → p < length fronts → (length f.behind.items + more ≤ vec_capacity f.behind) → RoomBelow p more fronts → RoomBelow (p + 1) more (slice_set fronts p f)
room_set fronts p more f lt fits h k d low within = by (same_or k p)
  where
    by : (k ≡ p) ⊎ (k ≢ p) → IsSome (slice_index_or (slice_set fronts p f) k d).wanted → length (slice_index_or (slice_set fronts p f) k d).behind.items + more ≤ vec_capacity (slice_index_or (slice_set fronts p f) k d).behind
    by (inl q) some =
        subst (λ (x : Front). length x.behind.items + more ≤ vec_capacity x.behind)
        (sym (subst (λ j. slice_index_or (slice_set fronts p f) j d ≡ f) (sym q) (get_or-set_same fronts p f d lt))) fits
    by (inr ne) some =
        let same = get_or-set_other fronts p k f d ne in
        subst (λ (x : Front). length x.behind.items + more ≤ vec_capacity x.behind) (sym same)
        (h k d (omega arith) (let e = length-set fronts p f in omega arith) (subst (λ (x : Front). IsSome x.wanted) same some))

-- at a node that is no fetch
pub room_none : (fronts : List Front) (p more : ℕ) (e : Front) → p < length fronts → e ≡ slice_index_or fronts p e → (IsSome e.wanted → ⊥) → RoomBelow p more fronts → RoomBelow (p + 1) more fronts
room_none fronts p more e lt is none h k d low within some = by (same_or k p)
  where
    by : (k ≡ p) ⊎ (k ≢ p) → length (slice_index_or fronts k d).behind.items + more ≤ vec_capacity (slice_index_or fronts k d).behind
    by (inl q) = absurd (none (subst (λ (x : Front). IsSome x.wanted) (sym (get_or_read fronts p e lt is d)) (subst (λ j. IsSome (slice_index_or fronts j d).wanted) q some)))
    by (inr ne) = h k d (omega arith) within some

pub none_wanted : (o : Option ℕ) → is_some o ≡ false → IsSome o → ⊥
none_wanted None e some = cc
none_wanted (Some m) e some = absurd (cc)

-- what stood at a place is written there again
pub set_again : (fronts : List Front) (p : ℕ) (e : Front) → e ≡ slice_index_or fronts p e → fronts ≡ slice_set fronts p e
set_again fronts p e is = sym (ap (λ x. slice_set fronts p x) is ∙ set-get_or fronts p e)
