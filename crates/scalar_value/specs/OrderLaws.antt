-- The order of values is total, and ties exactly the values that are equal.
use Rattle.std.specs.Prelude.{◌≡◌, ℕ, ℤ, pos, Bool, true, false, cond, ◌==◌, List, nat_eq}
use Rattle.std.specs.declared.cmp.Ordering.{Ordering}
use Rattle.std.specs.declared.cmp.Ordering.TheVariants.{Less, Equal, Greater}
use Rattle.std.specs.Bool.{Decides}
use Rattle.std.specs.Ordering.{is_eq, ordering_then, nat_cmp, int_cmp, int_eq}
use Rattle.std.specs.Cmp.{IsTotalOrder, IsEquivalence, IsPartialEquivalence, eq_by_cmp_equiv, partial_equiv_from_equiv, total, unsigned_tied, unsigned_Decides, signed_Decides}
use Rattle.std.specs.Cmp.Lexicographic.{slice_cmp, pointwise, texts_ties, bytes_decides}
use Rattle.std.specs.Cmp.Rules.{comparing}
use Rattle.std.specs.Hash.{Alike, same_Alike}
use Rattle.std.proofs.Common.{rules, refl, ap, ap₂, sym, subst, ◌∙◌}
use Rattle.scalar_value.specs.declared.value.Value.{Value}
use Rattle.scalar_value.specs.declared.value.Value.TheVariants.{Missing, Int, Dec, Chr, Day, Lgl}
use Rattle.scalar_value.specs.Order.{value_cmp, value_same, value_rank, value_number, value_text, value_hash}

pub value_cmp-total : IsTotalOrder value_cmp
value_cmp-total = search (comparing, rules)

pub value_same-equivalence : IsEquivalence value_same
value_same-equivalence = eq_by_cmp_equiv value_cmp-total

pub value_same-partial : IsPartialEquivalence value_same
value_same-partial = partial_equiv_from_equiv value_same-equivalence

-- the value of this rank, number and text
abbrev value_from : ℕ → ℤ → List ℕ → Value
value_from rank number text =
    cond (rank == 0) (Int number) (cond (rank == 1) (Dec number) (cond (rank == 2) (Chr text) (cond (rank == 3) (Day number) (cond (rank == 4) (Lgl (int_eq number (pos 1))) Missing))))

value_from-parts : (v : Value) → value_from (value_rank v) (value_number v) (value_text v) ≡ v
value_from-parts (Int z) = refl
value_from-parts (Dec m) = refl
value_from-parts (Chr t) = refl
value_from-parts (Day d) = refl
value_from-parts (Lgl true) = refl
value_from-parts (Lgl false) = refl
value_from-parts Missing = refl

then-equal : (o p : Ordering) → is_eq (ordering_then o p) ≡ true → (is_eq o ≡ true) × (is_eq p ≡ true)
then-equal Less p h = (h, cc)
then-equal Equal p h = (refl, h)
then-equal Greater p h = (h, cc)

same-rank : (x y : ℕ) → is_eq (nat_cmp x y) ≡ true → x ≡ y
same-rank x y h = (unsigned_Decides x y).0 (sym (unsigned_tied x y) ∙ h)

same-text : (xs ys : List ℕ) → is_eq (slice_cmp nat_cmp xs ys) ≡ true → xs ≡ ys
same-text xs ys h = (bytes_decides xs ys).0 (texts_ties xs ys ∙ h)

same-parts : (a b : Value) → value_rank a ≡ value_rank b → value_number a ≡ value_number b → value_text a ≡ value_text b → a ≡ b
same-parts a b r n t =
    sym (value_from-parts a) ∙ ap (λ x. value_from x (value_number a) (value_text a)) r ∙ ap₂ (λ x y. value_from (value_rank b) x y) n t ∙ value_from-parts b

pub value_same-equal : (a b : Value) → value_same a b ≡ true → a ≡ b
value_same-equal a b h =
    let first = then-equal (nat_cmp (value_rank a) (value_rank b)) _ h in
    let second = then-equal (int_cmp (value_number a) (value_number b)) _ first.1 in
    same-parts a b (same-rank (value_rank a) (value_rank b) first.0) ((signed_Decides (value_number a) (value_number b)).0 second.0) (same-text (value_text a) (value_text b) second.1)

pub value_same-self : (a : Value) → value_same a a ≡ true
value_same-self a = value_same-equivalence.refl a

pub value_same-decides : (a b : Value) → Decides (value_same a b) (a ≡ b)
value_same-decides a b = (value_same-equal a b, λ e. let P : Value → Type 0 = λ v. value_same a v ≡ true in subst P e (value_same-self a))

pub value_hash-alike : Alike value_same value_hash
value_hash-alike = same_Alike value_hash value_same-decides
