-- What is given one after the other: all of it, or the first fault.
use Rattle.std.proofs.Common.{ℕ, suc, ◌+◌, ◌<◌, ◌≤◌, ◌≡◌, refl, sym, ap, ◌∙◌, List, [], ◌∷◌, ◌++◌, length, map, drop, get_or, arith, drop-cons, append_assoc, append-nil, Result, Ok, Err}
use Rattle.std.proofs.lemmas.List.{drop_all}
use Rattle.term_calls.specs.Faults.{and_then, all_of}

-- what is left, behind what has been given
abbrev pub behind : {A F : Type 0} → List A → Result (List A) F → Result (List A) F
behind had r = and_then r (λ xs. Ok (had ++ xs))

behind_more : {A F : Type 0} (had : List A) (x : A) (r : Result (List A) F) → behind had (and_then r (λ xs. Ok (x ∷ xs))) ≡ behind (had ++ x ∷ []) r
behind_more had x (Ok xs) = ap (λ l. Ok l) (sym (append_assoc had (x ∷ []) xs))
behind_more had x (Err e) = refl

-- one more that is given
pub one_given : {E A F : Type 0} (g : E → Result A F) (had : List A) (e : E) (es : List E) (x : A) → g e ≡ Ok x → behind had (all_of (map g (e ∷ es))) ≡ behind (had ++ x ∷ []) (all_of (map g es))
one_given g had e es x is =
    ap (λ r. behind had (and_then r (λ y. and_then (all_of (map g es)) (λ ys. Ok (y ∷ ys))))) is ∙ behind_more had x (all_of (map g es))

-- a fault decides
pub one_faulty : {E A F : Type 0} (g : E → Result A F) (had : List A) (e : E) (es : List E) (f : F) → g e ≡ Err f → behind had (all_of (map g (e ∷ es))) ≡ Err f
one_faulty g had e es f is = ap (λ r. behind had (and_then r (λ y. and_then (all_of (map g es)) (λ ys. Ok (y ∷ ys))))) is

split : {E : Type 0} (es : List E) (n : ℕ) (e : E) → n < length es → e ≡ get_or es n e → drop n es ≡ e ∷ drop (suc n) es
split es n e h is = drop-cons es n e h ∙ ap (λ x. x ∷ drop (suc n) es) (sym is)

pub given_at : {E A F : Type 0} (g : E → Result A F) (had : List A) (es : List E) (n : ℕ) (e : E) (x : A) → n < length es → e ≡ get_or es n e → g e ≡ Ok x → behind had (all_of (map g (drop n es))) ≡ behind (had ++ x ∷ []) (all_of (map g (drop (n + 1) es)))
given_at g had es n e x h is given =
    let one : suc n ≡ n + 1 = omega arith in
    ap (λ l. behind had (all_of (map g l))) (split es n e h is) ∙ one_given g had e (drop (suc n) es) x given ∙ ap (λ k. behind (had ++ x ∷ []) (all_of (map g (drop k es)))) one

pub faulty_at : {E A F : Type 0} (g : E → Result A F) (had : List A) (es : List E) (n : ℕ) (e : E) (f : F) → n < length es → e ≡ get_or es n e → g e ≡ Err f → behind had (all_of (map g (drop n es))) ≡ Err f
faulty_at g had es n e f h is given = ap (λ l. behind had (all_of (map g l))) (split es n e h is) ∙ one_faulty g had e (drop (suc n) es) f given

pub given_all : {E A F : Type 0} (g : E → Result A F) (had : List A) (es : List E) (n : ℕ) → length es ≤ n → behind had (all_of (map g (drop n es))) ≡ Ok had
given_all g had es n h = ap (λ l. behind had (all_of (map g l))) (drop_all n es h) ∙ ap (λ l. Ok l) (append-nil had)
