-- Reading one record after another: which bytes are left, that fields are text, and how csv's list of records goes on.
use Rattle.std.proofs.Common.{◌≡◌, ℕ, zero, suc, ◌+◌, ◌<◌, ◌≤◌, ◌⊎◌, inl, inr, Bool, true, false, List, [], ◌∷◌, ◌++◌, length, get_or, refl, sym, ap, ◌∙◌, append_assoc, append-nil, Option, Some, None, if◌then◌else◌, arith, ◌==◌, ◌||◌, ◌&&◌, lit<, add-one, length-append}
use Rattle.std.specs.Borrow.{Bor}
use Rattle.std.specs.Str.{IsUtf8}
use Rattle.std.proofs.lemmas.Str.{IsUtf8-append, IsUtf8-drop, IsUtf8-nil, IsUtf8-past_char, IsUtf8-take, IsCharBoundary-after_ascii, IsCharBoundary-before_ascii}
use Rattle.std.proofs.Math.Seq.{get_or-append_seam, take-append_seam, drop-append-add}
use Rattle.std.proofs.lemmas.Bool.{eqb-true}
use Rattle.csv.specs.Machine.{Read, ends_at_end, field_after, fields_after, in_field, is_end, next_record, start_field, step}
use Rattle.csv_source.specs.Records.{records_of}
use Rattle.csv.specs.Reading.{AreRecords, Reached, is_bom, default_config, records_from, records_next, strip_bom}
use Rattle.csv.specs.Records.{AllText}
use Rattle.csv.specs.declared.parser.Action.{Action}
use Rattle.csv.specs.declared.parser.Action.TheVariants as act
use Rattle.csv.specs.declared.parser.State.{State}
use Rattle.csv.specs.declared.parser.State.TheVariants as st
use Rattle.csv.specs.declared.reader.Reader.{Reader}
use Rattle.csv.proofs.RecordFacts.{text-more}
use Rattle.csv_source.specs.Readers.{IsAt, ShowsNext}

-- ---- one byte

both : (a b : Bool) → (a && b) ≡ true → (a ≡ true) × (b ≡ true)
both true b h = (refl, h)
both false b h = cc h

-- csv's default settings have no comments
abbrev is_plain : State → Bool
is_plain st.StartRecord = true
is_plain st.StartField = true
is_plain st.InField = true
is_plain st.InQuoted = true
is_plain st.AfterQuote = true
is_plain st.InEscape = true
is_plain st.InComment = false
is_plain st.AfterCr = true

-- what a byte does: it stays outside comments, only a byte of ASCII does not join the field, and at the end of a record nothing is begun
record Good (c : ℕ) (p : State × Action) : Type 0 where
  plain : is_plain p.0 ≡ true
  ascii : (p.1 ≡ act.Copy) ⊎ (c < 128)
  done : is_end p.1 ≡ true → ends_at_end p.0 ≡ false

low : (c k : ℕ) → (c == k) ≡ true → k < 128 → c < 128
low c k e h = let same = eqb-true c k e in omega arith

line_low : (c : ℕ) (r n : Bool) → (c == 13) ≡ r → (c == 10) ≡ n → (r || n) ≡ true → c < 128
line_low c true n e f h = low c 13 e (lit< tt)
line_low c false true e f h = low c 10 f (lit< tt)
line_low c false false e f h = cc h

good_if : (c : ℕ) (b : Bool) (p q : State × Action) → (b ≡ true → Good c p) → Good c q → Good c (if b then p else q)
good_if c true p q f g = f refl
good_if c false p q f g = g

good_line : (c : ℕ) (r n : Bool) → (c == 13) ≡ r → (c == 10) ≡ n → Good c (if r || n then ((if r then st.AfterCr else st.StartRecord), act.EndRecord) else (st.InField, act.Copy))
good_line c true n e f = record { plain = refl; ascii = inr (low c 13 e (lit< tt)); done = λ h. refl }
good_line c false true e f = record { plain = refl; ascii = inr (low c 10 f (lit< tt)); done = λ h. refl }
good_line c false false e f = record { plain = refl; ascii = inl refl; done = λ h. cc h }

good_field : (c : ℕ) → Good c (in_field default_config c)
good_field c = good_if c (c == 44) _ _ (λ e. record { plain = refl; ascii = inr (low c 44 e (lit< tt)); done = λ h. cc h }) (good_line c (c == 13) (c == 10) refl refl)

good_start : (c : ℕ) → Good c (start_field default_config c)
good_start c = good_if c (c == 34) _ _ (λ e. record { plain = refl; ascii = inr (low c 34 e (lit< tt)); done = λ h. cc h }) (good_field c)

good_record : (c : ℕ) → Good c (step default_config st.StartRecord c)
good_record c = good_if c ((c == 13) || (c == 10)) _ _ (λ e. record { plain = refl; ascii = inr (line_low c (c == 13) (c == 10) refl refl e); done = λ h. cc h }) (good_start c)

good_step : (s : State) (c : ℕ) → is_plain s ≡ true → Good c (step default_config s c)
good_step st.StartRecord c h = good_record c
good_step st.StartField c h = good_start c
good_step st.InField c h = good_field c
good_step st.InQuoted c h = good_if c (c == 34) _ _ (λ e. record { plain = refl; ascii = inr (low c 34 e (lit< tt)); done = λ k. cc k }) (record { plain = refl; ascii = inl refl; done = λ k. cc k })
good_step st.AfterQuote c h = good_if c (c == 34) _ _ (λ e. record { plain = refl; ascii = inl refl; done = λ k. cc k }) (good_field c)
good_step st.InEscape c h = record { plain = refl; ascii = inl refl; done = λ k. cc k }
good_step st.InComment c h = cc h
good_step st.AfterCr c h = good_if c (c == 10) _ _ (λ e. record { plain = refl; ascii = inr (low c 10 e (lit< tt)); done = λ k. cc k }) (good_record c)

-- ---- the bytes behind a record

-- between records: no comment, and nothing begun
pub record IsBetween (s : State) : Type 0 where
  pub plain : is_plain s ≡ true
  pub done : ends_at_end s ≡ false

pub at_start : IsBetween st.StartRecord
at_start = record { plain = refl; done = refl }

-- behind a record stand at most so many bytes
record Behind (p : Read) (n : ℕ) : Type 0 where
  between : IsBetween p.1
  shorter : length p.2 ≤ n

behind_by : (a : Action) (t : State) (c : ℕ) (fields : List (List ℕ)) (field rest : List ℕ) (p : Read) → Good c (t, a)
    → ((fs : List (List ℕ)) (f : List ℕ) → next_record default_config t fs f rest ≡ Some p → Behind p (length rest))
    → (if is_end a then Some (fields_after a fields field, t, rest) else next_record default_config t (fields_after a fields field) (field_after a c field) rest) ≡ Some p → Behind p (length rest)
behind_by act.Copy t c fields field rest p g more h = more fields (field ++ c ∷ []) h
behind_by act.Skip t c fields field rest p g more h = more fields field h
behind_by act.EndField t c fields field rest p g more h = more (fields ++ field ∷ []) [] h
behind_by act.EndRecord t c fields field rest p g more h =
    let same : (fields ++ field ∷ [], t, rest) ≡ p = cc in rw (← same) (record { between = record { plain = g.plain; done = g.done refl }; shorter = omega arith })

last_behind : (b : Bool) (fields : List (List ℕ)) (p : Read) → ◌≡◌ {A = Option Read} (if b then Some (fields, st.StartRecord, []) else None) (Some p) → Behind p 0
last_behind true fields p h = let same : (fields, st.StartRecord, []) ≡ p = cc in rw (← same) (record { between = at_start; shorter = omega arith })
last_behind false fields p h = cc h

weaker : (p : Read) (n m : ℕ) → n ≤ m → Behind p n → Behind p m
weaker p n m h b = record { between = b.between; shorter = omega (arith, b.shorter) }

behind : (ys : List ℕ) (s : State) (fields : List (List ℕ)) (field : List ℕ) (p : Read) → is_plain s ≡ true → next_record default_config s fields field ys ≡ Some p → Behind p (length ys)
unfolding next_record
behind [] s fields field p plain h = last_behind (ends_at_end s) (fields ++ field ∷ []) p h
behind (c ∷ rest) s fields field p plain h =
    let good = good_step s c plain in
    weaker p (length rest) (suc (length rest)) (omega arith)
    (behind_by (step default_config s c).1 (step default_config s c).0 c fields field rest p good (λ fs f k. behind rest (step default_config s c).0 fs f p good.plain k) h)

-- the next record between records takes a byte at least
pub next_behind : (ys : List ℕ) (s : State) (p : Read) → IsBetween s → next_record default_config s [] [] ys ≡ Some p → IsBetween p.1 × (length p.2 < length ys)
unfolding next_record
next_behind [] s p b h = let none : ◌≡◌ {A = Option Read} None (Some p) = rw b.done at h in cc none
next_behind (c ∷ rest) s p b h =
    let good = good_step s c b.plain in
    let r = behind_by (step default_config s c).1 (step default_config s c).0 c [] [] rest p good (λ fs f k. behind rest (step default_config s c).0 fs f p good.plain k) h in
    (r.between, omega (arith, r.shorter))

-- ---- the records that are left

-- all records of the bytes that are left
abbrev pub rest_records : State → List ℕ → List (List (List ℕ))
rest_records s ys = records_from default_config (length ys + 1) s ys

enough_by : (n m : ℕ) (s : State) (ys : List ℕ) → ((p : Read) → next_record default_config s [] [] ys ≡ Some p → records_from default_config n p.1 p.2 ≡ records_from default_config m p.1 p.2)
    → (o : Option Read) → next_record default_config s [] [] ys ≡ o → records_next (records_from default_config n) o ≡ records_next (records_from default_config m) o
enough_by n m s ys more None e = refl
enough_by n m s ys more (Some p) e = ap (λ rows. p.0 ∷ rows) (more p e)

enough : (n m : ℕ) (s : State) (ys : List ℕ) → IsBetween s → length ys < n → length ys < m → records_from default_config n s ys ≡ records_from default_config m s ys
unfolding records_from
enough zero m s ys b h k = absurd (omega arith)
enough (suc n) zero s ys b h k = absurd (omega arith)
enough (suc n) (suc m) s ys b h k =
    enough_by n m s ys (λ p e. let r = next_behind ys s p b e in enough n m p.1 p.2 r.0 (omega (arith, r.1)) (omega (arith, r.1))) (next_record default_config s [] [] ys) refl

pub records_more : (s : State) (ys : List ℕ) (p : Read) → IsBetween s → next_record default_config s [] [] ys ≡ Some p → rest_records s ys ≡ p.0 ∷ rest_records p.1 p.2
unfolding records_from
records_more s ys p b h =
    let r = next_behind ys s p b h in
    rw add-one (ap (records_next (records_from default_config (length ys))) h
    ∙ ap (λ more. p.0 ∷ more) (enough (length ys) (length p.2 + 1) p.1 p.2 r.0 r.1 (omega arith)))

pub records_none : (s : State) (ys : List ℕ) → next_record default_config s [] [] ys ≡ None → rest_records s ys ≡ []
unfolding records_from
records_none s ys h = rw add-one (ap (records_next (records_from default_config (length ys))) h)

-- these are all: each is reached behind those before it, and there is none behind the last
all_by : (n : ℕ) (s : State) (xs : List ℕ) → ((p : Read) → next_record default_config s [] [] xs ≡ Some p → AreRecords default_config p.1 p.2 (records_from default_config n p.1 p.2))
    → (o : Option Read) → next_record default_config s [] [] xs ≡ o → AreRecords default_config s xs (records_next (records_from default_config n) o)
unfolding Reached
all_by n s xs more None e = (s, xs, (refl, refl), e)
all_by n s xs more (Some p) e = let rest = more p e in (rest.0, rest.1, (p, e, refl, rest.2), rest.3)

all_from : (n : ℕ) (s : State) (xs : List ℕ) → IsBetween s → length xs < n → AreRecords default_config s xs (records_from default_config n s xs)
unfolding records_from
all_from zero s xs b h = absurd (omega arith)
all_from (suc n) s xs b h = all_by n s xs (λ p e. let r = next_behind xs s p b e in all_from n p.1 p.2 r.0 (omega (arith, r.1))) (next_record default_config s [] [] xs) refl

pub all_records : (bytes : List ℕ) → AreRecords default_config st.StartRecord (strip_bom bytes) (records_of bytes)
all_records bytes = all_from (length (strip_bom bytes) + 1) st.StartRecord (strip_bom bytes) at_start (omega arith)

-- ---- the fields are text

-- two texts with a byte of ASCII between them
cut : (xs rest : List ℕ) (c : ℕ) → c < 128 → IsUtf8 (xs ++ c ∷ rest) → IsUtf8 xs × IsUtf8 rest
cut xs rest c h u =
    let whole = xs ++ c ∷ rest in
    let long : length xs < length whole = omega (arith, length-append xs (c ∷ rest)) in
    let here : get_or whole (length xs) 0 ≡ c = get_or-append_seam xs c rest 0 in
    let front = IsUtf8-take whole (length xs) u (IsCharBoundary-before_ascii whole (length xs) long (omega (arith, here))) in
    let back = IsUtf8-drop whole (length xs + 1) u (IsCharBoundary-after_ascii whole (length xs) u long (omega (arith, here))) in
    (rw (take-append_seam xs (c ∷ rest)) at front, rw (drop-append-add xs (c ∷ rest) 1) at back)

-- what a record is and what stands behind it is text
pub record IsTextual (p : Read) : Type 0 where
  pub fields : AllText p.0
  pub rest : IsUtf8 p.2

textual_by : (a : Action) (t : State) (c : ℕ) (fields : List (List ℕ)) (field rest : List ℕ) (p : Read) → Good c (t, a) → IsUtf8 (field ++ c ∷ rest) → AllText fields
    → ((fs : List (List ℕ)) (f : List ℕ) → next_record default_config t fs f rest ≡ Some p → IsUtf8 (f ++ rest) → AllText fs → IsTextual p)
    → (if is_end a then Some (fields_after a fields field, t, rest) else next_record default_config t (fields_after a fields field) (field_after a c field) rest) ≡ Some p → IsTextual p
textual_by act.Copy t c fields field rest p g u all more h = more fields (field ++ c ∷ []) h (rw (append_assoc field (c ∷ []) rest) u) all
textual_by act.Skip t c fields field rest p g u all more h = elim g.ascii [
  | inl same ↦ cc same
  | inr small ↦ let parts = cut field rest c small u in more fields field h (IsUtf8-append field rest parts.0 parts.1) all
]
textual_by act.EndField t c fields field rest p g u all more h = elim g.ascii [
  | inl same ↦ cc same
  | inr small ↦ let parts = cut field rest c small u in more (fields ++ field ∷ []) [] h parts.1 (text-more fields field all parts.0)
]
textual_by act.EndRecord t c fields field rest p g u all more h = elim g.ascii [
  | inl same ↦ cc same
  | inr small ↦
      let parts = cut field rest c small u in
      let same : (fields ++ field ∷ [], t, rest) ≡ p = cc in
      rw (← same) (record { fields = text-more fields field all parts.0; rest = parts.1 })
]

last_textual : (b : Bool) (fields : List (List ℕ)) (p : Read) → AllText fields → ◌≡◌ {A = Option Read} (if b then Some (fields, st.StartRecord, []) else None) (Some p) → IsTextual p
last_textual true fields p all h = let same : (fields, st.StartRecord, []) ≡ p = cc in rw (← same) (record { fields = all; rest = IsUtf8-nil })
last_textual false fields p all h = cc h

textual : (ys : List ℕ) (s : State) (fields : List (List ℕ)) (field : List ℕ) (p : Read) → is_plain s ≡ true → next_record default_config s fields field ys ≡ Some p → IsUtf8 (field ++ ys) → AllText fields → IsTextual p
unfolding next_record
textual [] s fields field p plain h u all = last_textual (ends_at_end s) (fields ++ field ∷ []) p (text-more fields field all (rw (append-nil field) at u)) h
textual (c ∷ rest) s fields field p plain h u all =
    let good = good_step s c plain in
    textual_by (step default_config s c).1 (step default_config s c).0 c fields field rest p good u all (λ fs f k v more. textual rest (step default_config s c).0 fs f p good.plain k v more) h

pub next_textual : (ys : List ℕ) (s : State) (p : Read) → IsBetween s → IsUtf8 ys → next_record default_config s [] [] ys ≡ Some p → IsTextual p
unfolding AllText
next_textual ys s p b u h = textual ys s [] [] p b.plain h u tt

-- ---- the mark at the start

mark_by : (a b c : ℕ) (rest : List ℕ) (m : Bool) → is_bom a b c ≡ m → IsUtf8 (a ∷ b ∷ c ∷ rest) → IsUtf8 (if m then rest else a ∷ b ∷ c ∷ rest)
unfolding lib.Utf8.encode
mark_by a b c rest true e u =
    let parts = both ((a == 239) && (b == 187)) (c == 191) e in
    let front = both (a == 239) (b == 187) parts.0 in
    let p = eqb-true a 239 front.0 in
    let q = eqb-true b 187 front.1 in
    let r = eqb-true c 191 parts.1 in
    IsUtf8-past_char (239 ∷ 187 ∷ 191 ∷ rest) rest 65279 (rw (p, q, r) at u) refl
mark_by a b c rest false e u = u

pub unmarked : (ys : List ℕ) → IsUtf8 ys → IsUtf8 (strip_bom ys)
unfolding strip_bom
unmarked [] u = u
unmarked (a ∷ []) u = u
unmarked (a ∷ b ∷ []) u = u
unmarked (a ∷ b ∷ c ∷ rest) u = mark_by a b c rest (is_bom a b c) refl u

-- ---- what was shown of a record

pub none_shown : (o : Option Read) (reader : Reader (Bor (List ℕ))) (found : Bool) (fields : List (List ℕ)) → ShowsNext o reader found fields → found ≡ false → o ≡ None
none_shown None reader found fields h e = refl
none_shown (Some p) reader found fields h e = let clash : true ≡ false = sym h.0 ∙ e in cc clash

pub some_shown : (o : Option Read) (reader : Reader (Bor (List ℕ))) (found : Bool) (fields : List (List ℕ)) → ShowsNext o reader found fields → found ≡ true
    → (p : Read) × (o ≡ Some p) × (fields ≡ p.0) × IsAt reader p.1 p.2
some_shown None reader found fields h e = let clash : false ≡ true = sym h ∙ e in cc clash
some_shown (Some p) reader found fields h e = (p, refl, h.1, h.2)
