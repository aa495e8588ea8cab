-- The entries of a number, where an entry is added, and where a list begins with another.
use Rattle.std.proofs.Common.{◌≡◌, ◌≢◌, ℕ, ◌<◌, ◌≤◌, Bool, true, false, cond, eqb, List, [], ◌∷◌, ◌++◌, length, nat_lt, refl, sym, ◌∙◌, ap, arith, Option, Some, None, length-append, append_assoc, ◌||◌}
use Rattle.std.proofs.lemmas.Bool.{ltb-true, ltb-false}
use Rattle.std.proofs.lemmas.List.{append-nil, append_cancel_left}
use Rattle.std.proofs.lemmas.List.Elements.{filter-append}
use Rattle.turn_cell.specs.Knowledge.{is_one_of}
use Rattle.turn_cell.specs.History.{belongs_to, belongs_to-other, entries_of, BeginsWith, longer}

-- the values of two options
pub some_same : {X : Type 0} {x y : X} → Some x ≡ Some y → x ≡ y
some_same e = cc

pub none_some : {X : Type 0} {x : X} → None ≡ Some x → ⊥
none_some e = cc

-- a number that is none of these is neither the first nor one of the rest
pub is_one_of-cons : (n : ℕ) (numbers : List ℕ) (m : ℕ) → is_one_of (n ∷ numbers) m ≡ false → (eqb n m ≡ false) × (is_one_of numbers m ≡ false)
is_one_of-cons n numbers m other = both (eqb n m) (is_one_of numbers m) other
  where
    both : (a b : Bool) → (a || b) ≡ false → (a ≡ false) × (b ≡ false)
    both true b e = absurd (cc)
    both false b e = (refl, e)

nil_of_append : {E : Type 0} (xs ys : List E) → xs ++ ys ≡ [] → xs ≡ []
nil_of_append [] ys e = refl
nil_of_append (x ∷ xs) ys e = cc

-- two beginnings of one history: the longer one begins with the other
begins-between : {E : Type 0} (xs ys more_x more_y : List E) → xs ++ more_x ≡ ys ++ more_y → length xs ≤ length ys → BeginsWith ys xs
begins-between [] ys more_x more_y e short = (ys, refl)
begins-between (x ∷ xs) [] more_x more_y e short = absurd (omega arith)
begins-between (x ∷ xs) (y ∷ ys) more_x more_y e short =
    let rest = begins-between xs ys more_x more_y (cc) (omega arith) in let same : y ≡ x = cc in
    (rest.0, λ i. same i ∷ rest.1 i)

-- what holds of both histories, where the second is the longer one, holds of the longer
longer_is : {E : Type 0} (Q : List E → Type 0) (xs ys : List E) → (length ys ≤ length xs → Q xs) → (length xs < length ys → Q ys) → Q (longer xs ys)
longer_is {E = E} Q xs ys first second = chosen (nat_lt (length xs) (length ys)) refl
  where
    chosen : (b : Bool) → nat_lt (length xs) (length ys) ≡ b → Q (cond b ys xs)
    chosen true e = second (ltb-true (length xs) (length ys) e)
    chosen false e = first (ltb-false (length xs) (length ys) e)

module _ {E : Type 0} (owner : E → Option ℕ) where
  pub entries_of-append : (n : ℕ) (xs ys : List E) → entries_of owner n (xs ++ ys) ≡ entries_of owner n xs ++ entries_of owner n ys
  entries_of-append n xs ys = filter-append (λ e. belongs_to n (owner e)) xs ys

  -- an entry of another number adds nothing
  pub entries_of-other : (n : ℕ) (xs : List E) (e : E) → owner e ≢ Some n → entries_of owner n (xs ++ e ∷ []) ≡ entries_of owner n xs
  entries_of-other n xs e other = entries_of-append n xs (e ∷ []) ∙ ap (λ (b : Bool). entries_of owner n xs ++ cond b (e ∷ []) []) (belongs_to-other n (owner e) other) ∙ append-nil (entries_of owner n xs)

  -- a list between two with the same entries of a number has these too
  between : (n : ℕ) (log xs ys own : List E) → BeginsWith log ys → BeginsWith ys xs → entries_of owner n xs ≡ own → entries_of owner n log ≡ own → entries_of owner n ys ≡ own
  between n log xs ys own (more_y, log_is) (more_x, ys_is) in_xs in_log =
      let of_ys : entries_of owner n ys ≡ own ++ entries_of owner n more_x = ap (λ (l : List E). entries_of owner n l) ys_is ∙ entries_of-append n xs more_x ∙ ap (λ (l : List E). l ++ entries_of owner n more_x) in_xs in
      let of_log : own ++ (entries_of owner n more_x ++ entries_of owner n more_y) ≡ own ++ [] =
      sym (append_assoc own (entries_of owner n more_x) (entries_of owner n more_y)) ∙ sym (ap (λ (l : List E). l ++ entries_of owner n more_y) of_ys)
      ∙ sym (entries_of-append n ys more_y) ∙ sym (ap (λ (l : List E). entries_of owner n l) log_is) ∙ in_log ∙ sym (append-nil own) in
      of_ys ∙ ap (λ (l : List E). own ++ l) (nil_of_append (entries_of owner n more_x) (entries_of owner n more_y) (append_cancel_left own (entries_of owner n more_x ++ entries_of owner n more_y) [] of_log)) ∙ append-nil own

  -- the longer of two beginnings of a history has the entries that the first one and the history have
  pub entries_of-longer : (n : ℕ) (log xs ys own : List E) → BeginsWith log xs → BeginsWith log ys → entries_of owner n xs ≡ own → entries_of owner n log ≡ own → entries_of owner n (longer xs ys) ≡ own
  entries_of-longer n log xs ys own begins_xs begins_ys in_xs in_log =
      longer_is (λ (l : List E). entries_of owner n l ≡ own) xs ys (λ _. in_xs)
      (λ short. between n log xs ys own begins_ys (begins-between xs ys begins_xs.0 begins_ys.0 (sym begins_xs.1 ∙ begins_ys.1) (omega arith)) in_xs in_log)

  -- where a history has no entry of a number, what it begins with has none
  pub entries_of-begins : (n : ℕ) (log xs : List E) → BeginsWith log xs → entries_of owner n log ≡ [] → entries_of owner n xs ≡ []
  entries_of-begins n log xs begins none_there = nil_of_append (entries_of owner n xs) (entries_of owner n begins.0) (sym (entries_of-append n xs begins.0) ∙ sym (ap (λ (l : List E). entries_of owner n l) begins.1) ∙ none_there)

module _ {E : Type 0} where
  -- a history that goes on from another begins with what that one begins with
  pub begins-grown : (longer_log log xs : List E) → BeginsWith longer_log log → BeginsWith log xs → BeginsWith longer_log xs
  begins-grown longer_log log xs (more, e) (between, e') = (between ++ more, e ∙ ap (λ (l : List E). l ++ more) e' ∙ append_assoc xs between more)

  pub begins-itself : (log : List E) → BeginsWith log log
  begins-itself log = ([], sym (append-nil log))

  -- a beginning that is as long as the whole is the whole
  pub begins-whole : (log xs : List E) → BeginsWith log xs → length log ≤ length xs → xs ≡ log
  begins-whole log xs (more, e) long = whole more e
    where
      whole : (more : List E) → log ≡ xs ++ more → xs ≡ log
      whole [] e = sym (append-nil xs) ∙ sym e
      whole (m ∷ more) e = absurd (omega (arith, ap length e, length-append xs (m ∷ more)))

  -- the longer of two beginnings of a history is one
  pub begins-longer : (log xs ys : List E) → BeginsWith log xs → BeginsWith log ys → BeginsWith log (longer xs ys)
  begins-longer log xs ys begins_xs begins_ys = longer_is (λ (l : List E). BeginsWith log l) xs ys (λ _. begins_xs) (λ _. begins_ys)

  length-begins : (log xs : List E) → BeginsWith log xs → length xs ≤ length log
  length-begins log xs begins = omega (arith, ap length begins.1, length-append xs begins.0)

  -- the longer of two beginnings of a history is the whole where one of them is
  pub longer-first : (log xs ys : List E) → BeginsWith log ys → xs ≡ log → longer xs ys ≡ log
  longer-first log xs ys begins_ys whole = longer_is (λ (l : List E). l ≡ log) xs ys (λ _. whole) (λ short. absurd (omega (arith, length-begins log ys begins_ys, ap length whole)))

  pub longer-second : (log xs ys : List E) → BeginsWith log xs → ys ≡ log → longer xs ys ≡ log
  longer-second log xs ys begins_xs whole = longer_is (λ (l : List E). l ≡ log) xs ys (λ long. begins-whole log xs begins_xs (omega (arith, ap length whole))) (λ _. whole)
