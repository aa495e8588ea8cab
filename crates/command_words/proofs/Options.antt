-- The number options of a parse that succeeds are numbers in their ranges.
use Rattle.std.proofs.Common.{◌≡◌, ◌⊎◌, ◌∙◌, ◌<◌, ◌≤◌, ◌==◌, ◌&&◌, cond, not, zero, suc, ℕ, Bool, true, false, List, [], ◌∷◌, length, map, drop, Option, Some, None, refl, sym, ap, subst, arith, codes, inl, inr, true≢false, slice_index}
use Rattle.std.specs.Prelude.{option_map, unwrap_or, IfSome, pos, slice_get}
use Rattle.std.specs.List.{All, list_all, slice_index_or}
use Rattle.std.specs.Borrow.{Bor}
use Rattle.std.specs.Str.{bytes_eq}
use Rattle.std.specs.Str.Parse.{IsNumeral, digits_value, starts_with_minus, without_leading_plus}
use Rattle.std.proofs.lemmas.Bool.{ne_eqb}
use Rattle.std.proofs.lemmas.Int.{ints}
use Rattle.std.proofs.lemmas.Str.Parse.{digit_from_value}
use Rattle.std.proofs.lemmas.Slice.Eq.{bytes_eq-Decides}
use Rattle.std.proofs.lemmas.List.Elements.{All-get_or}
use Rattle.std.proofs.lemmas.List.{length-map}
use Rattle.std.proofs.Math.ListN.{get_or-map}
use Rattle.std.specs.Option.{option_map_or}
use Rattle.clap.specs.Lexer.{without_minus}
use Rattle.clap.specs.Built.{IsParsedFrom, NamesNoGroup}
use Rattle.clap.specs.Facts.{Entry, EntryPasses, HasReading, PassesArg, ValuesPass, args_of, groups_of, parser_of_value}
use Rattle.clap.specs.Matches.{found_of, matched_of, one_text}
use Rattle.clap.specs.Simple.{App, app_of, has_plain_fields}
use Rattle.clap.specs.Values.{Accepts, IsSignedIn, read_as, reading_of}
use Rattle.clap.specs.Walk.{Row, Rule, Text, is_empty, one_of, rows_of, rule_of}
use Rattle.clap.proofs.CallerLemmas.{entry_by_id, same_rules_by_id}
use Rattle.clap.proofs.WalkLemmas.{both, one_text-rows}
use Rattle.clap.specs.declared.builder.arg.Arg.{Arg}
use Rattle.clap.specs.declared.builder.command.Command.{Command}
use Rattle.clap.specs.declared.builder.command.Command.TheViews.{out-Command}
use Rattle.clap.specs.declared.builder.value_parser.ValueParser.{ValueParser}
use Rattle.clap.specs.declared.builder.value_parser.ValueParser.TheVariants as vp
use Rattle.clap.specs.declared.builder.value_parser.Reading.{Reading}
use Rattle.clap.specs.declared.builder.value_parser.Reading.TheVariants as reading
use Rattle.clap.specs.declared.parser.matches.ArgMatches.{ArgMatches}
use Rattle.clap.specs.declared.parser.matches.MatchedArg.{MatchedArg}
use Rattle.command_words.specs.Command.{arguments, command, number_option}
use Rattle.command_words.specs.Reading.{HasNumbers, IsNumberFrom, IsOption}
use Rattle.command_words.specs.Settings.{number_of, setting_of}
use Rattle.plan_store.specs.Beginning.{IsSetting}

-- ---- a text in a range

without_minus-cond : (t : List ℕ) → without_minus t ≡ cond (starts_with_minus t) (drop 1 t) t
without_minus-cond [] = refl
without_minus-cond (x ∷ xs) = go (x == 45)
  where
    go : (b : Bool) → unwrap_or (cond b (Some xs) None) (x ∷ xs) ≡ cond b xs (x ∷ xs)
    go true = refl
    go false = refl

no_plus : (ds : List ℕ) → IsNumeral 10 ds → without_leading_plus ds ≡ ds
no_plus [] h = refl
no_plus (d ∷ ds) h =
    let plus : (d == 43) ≡ false = ne_eqb _ _ (λ e. omega (arith, digit_from_value d h.1.0)) in
    ap (λ (b : Bool). drop (cond b 1 0) (d ∷ ds)) plus

-- a text that passed a range with no negative number is a number in it, as it is read
pub in_range : (least most : ℕ) (t : Text) → IsSignedIn (pos least) (pos most) t → IsNumberFrom least most (without_minus t)
in_range least most t passed = subst (IsNumberFrom least most) (sym (without_minus-cond t)) (go (starts_with_minus t) refl)
  where
    go : (b : Bool) → starts_with_minus t ≡ b → IsNumberFrom least most (cond (starts_with_minus t) (drop 1 t) t)
    go true minus =
        let numeral : IsNumeral 10 (drop 1 t) = rw minus at passed.0 in
        let low = rw minus at passed.2 in
        let high = rw minus at passed.3 in
        let same = no_plus (drop 1 t) numeral in
        rw (minus, same) (numeral, omega (arith, ints), omega (arith, ints))
    go false minus =
        let numeral : IsNumeral 10 (without_leading_plus t) = rw minus at passed.0 in
        let low = rw minus at passed.2 in
        let high = rw minus at passed.3 in
        rw minus (numeral, omega (arith, ints), omega (arith, ints))

-- ---- one argument of a list

-- the rule at a place is the only one of its name
abbrev is_new : Text → List Rule → Bool
is_new name rules = list_all (λ r. not (bytes_eq r.id name)) rules

abbrev is_alone : Text → ℕ → List Rule → Bool
is_alone name k [] = true
is_alone name zero (r ∷ rs) = is_new name rs
is_alone name (suc k) (r ∷ rs) = not (bytes_eq r.id name) && is_alone name k rs

differs : (name id : Text) → not (bytes_eq id name) ≡ true → bytes_eq id name ≡ true → ⊥
differs name id apart same =
    let bad : false ≡ true = rw same at apart in
    true≢false (sym bad)

new_at : (name : Text) (xs : List Arg) → is_new name (map rule_of xs) ≡ true → (j : ℕ) (e : Arg) → j < length xs
    → bytes_eq (slice_index_or xs j e).id.now name ≡ true → ⊥
new_at name [] h j e lt same = absurd (omega arith)
new_at name (x ∷ xs) h zero e lt same = differs name x.id.now (both _ _ h).0 same
new_at name (x ∷ xs) h (suc j) e lt same = new_at name xs (both _ _ h).1 j e (omega arith) same

alone_at : (name : Text) (xs : List Arg) (k : ℕ) → is_alone name k (map rule_of xs) ≡ true → (j : ℕ) (e : Arg) → j < length xs
    → bytes_eq (slice_index_or xs j e).id.now name ≡ true → j ≡ k
alone_at name [] k h j e lt same = absurd (omega arith)
alone_at name (x ∷ xs) zero h zero e lt same = refl
alone_at name (x ∷ xs) zero h (suc j) e lt same = absurd (new_at name xs h j e (omega arith) same)
alone_at name (x ∷ xs) (suc k) h zero e lt same = absurd (differs name x.id.now (both _ _ h).0 same)
alone_at name (x ∷ xs) (suc k) h (suc j) e lt same = ap suc (alone_at name xs k (both _ _ h).1 j e (omega arith) same)

no_items : {X : Type 0} (xs : List X) → is_empty xs ≡ true → xs ≡ []
no_items [] e = refl
no_items (x ∷ xs) e =
    let some : is_empty (x ∷ xs) ≡ false = ne_eqb _ _ (λ z. omega arith) in
    absurd (true≢false (sym e ∙ some))

-- no argument names a group
ungrouped : (a : Arg) → (rule_of a).is_simple ≡ true → a.groups.items ≡ []
ungrouped a h = no_items a.groups.items (both _ _ (both _ _ (both _ _ h).1).1).0

all_ungrouped : (xs : List Arg) → list_all (λ r. r.is_simple) (map rule_of xs) ≡ true → All (λ a. a.groups.items ≡ []) xs
all_ungrouped [] h k d lt = absurd (omega arith)
all_ungrouped (x ∷ xs) h zero d lt = ungrouped x (both _ _ h).0
all_ungrouped (x ∷ xs) h (suc k) d lt = all_ungrouped xs (both _ _ h).1 k d (omega arith)

-- ---- one option of a command

-- the argument at a place, of which the command has one
record IsOptionAt (old : Command) (k : ℕ) (d : Arg) (name : Text) (least most : ℕ) : Type 0 where
  inside : k < length (args_of old)
  rule : rule_of (slice_index_or (args_of old) k d) ≡ number_option name least most
  alone : is_alone name k (map rule_of (args_of old)) ≡ true
  named : name ≡ [] → ⊥
  own : (name ≡ codes "help") ⊎ (name ≡ codes "version") → ⊥

module _ (old : Command) (m : ArgMatches) (p : IsParsedFrom old m) (k : ℕ) (d : Arg) (name : Text) (least most : ℕ) (at : IsOptionAt old k d name least most) where
  abbrev arg : Arg
  arg = slice_index_or (args_of old) k d

  id_is : arg.id.now ≡ name
  id_is = ap (λ (r : Rule). r.id) at.rule

  parser_is : arg.value_parser ≡ Some (vp.Signed (pos least) (pos most))
  parser_is = ap (λ (r : Rule). r.parser) at.rule

  kept_parser : (j : ℕ) (x : Arg) → j < length (args_of p.built) → slice_index_or (args_of p.built) j x ≡ x → bytes_eq x.id.now name ≡ true
      → parser_of_value x.value_parser ≡ vp.Signed (pos least) (pos most)
  kept_parser j x lt is same =
      let s = same_rules_by_id old m p k d at.inside
      (λ i e low eq. alone_at name (args_of old) k at.alone i e low (subst (λ (t : Text). bytes_eq (slice_index_or (args_of old) i e).id.now t ≡ true) id_is eq))
      (λ auto. at.own (subst (λ (t : Text). (t ≡ codes "help") ⊎ (t ≡ codes "version")) id_is auto))
      j x lt is (subst (λ (t : Text). bytes_eq x.id.now t ≡ true) (sym id_is) same) in
      ap parser_of_value (s.parser _ parser_is)

  passes : (v : Text) → PassesArg p.built name v → IsSignedIn (pos least) (pos most) v
  passes v any =
      let accepts = any.4.1 in
      let P : ValueParser → Type 0 = λ q. Accepts any.1.ignore_case q v in
      subst P (kept_parser any.0 any.1 any.2 any.3 any.4.0) accepts

  reads : (how : Reading) → HasReading p.built name how → how ≡ reading.WithoutMinus
  reads how any = sym any.4.1 ∙ ap reading_of (kept_parser any.0 any.1 any.2 any.3 any.4.0)

  first_reads : (how : Reading) (vs : List (Bor Text)) → how ≡ reading.WithoutMinus → All (λ v. PassesArg p.built name v.now) vs
      → IfSome (option_map (λ s. read_as how s.now) (slice_get vs 0)) (IsNumberFrom least most)
  first_reads how [] is all = tt
  first_reads how (v ∷ vs) is all =
      let P : Reading → Type 0 = λ h. IsNumberFrom least most (read_as h v.now) in
      let pass : PassesArg p.built name v.now = All-get_or (λ (w : Bor Text). PassesArg p.built name w.now) (v ∷ vs) 0 v (omega arith) all in
      subst P (sym is) (in_range least most v.now (passes v.now pass))

  entry_reads : (x : MatchedArg) (e : Entry) → e.1 ≡ x → bytes_eq e.0.now name ≡ true → groups_of p.built ≡ [] → EntryPasses p.built e
      → IfSome (option_map (λ s. read_as x.reading s.now) (slice_get x.vals.items 0)) (IsNumberFrom least most)
  entry_reads x e same key no_groups pass =
      let key_id : e.0.now ≡ name = (bytes_eq-Decides e.0.now name).0 key in
      let no_group : e.1.is_group ≡ true → ⊥ = λ g. elim (pass.3 g) [
        | inl empty ↦ at.named (sym key_id ∙ empty)
        | inr lots ↦
            let bad : 0 < 0 = rw no_groups at lots in
            absurd (omega arith)
      ] in
      let all : All (λ v. PassesArg p.built name v.now) x.vals.items = elim pass.0 [
        | inl g ↦ absurd (no_group g)
        | inr vals ↦ subst (λ (w : Text). All (λ v. PassesArg p.built w v.now) x.vals.items) key_id (rw same at vals)
      ] in
      let how : e.1.reading ≡ reading.WithoutMinus = elim pass.4 [
        | inl g ↦ absurd (no_group g)
        | inr h ↦ reads e.1.reading (subst (λ (w : Text). HasReading p.built w e.1.reading) key_id h)
      ] in
      first_reads x.reading x.vals.items (ap (λ (y : MatchedArg). y.reading) (sym same) ∙ how) all

  option_reads : groups_of p.built ≡ [] → ValuesPass p.built (found_of m) → IsOption name least most (rows_of (found_of m))
  option_reads no_groups values =
      subst (λ (o : Option Text). IfSome o (IsNumberFrom least most)) (one_text-rows (found_of m) name) (go (matched_of (found_of m) name) refl)
    where
      go : (o : Option MatchedArg) → matched_of (found_of m) name ≡ o → IfSome (one_text (found_of m) name) (IsNumberFrom least most)
      go None e = rw e tt
      go (Some x) e =
          let got = entry_by_id (EntryPasses p.built) (found_of m).entries.items name x values e in
          rw e (entry_reads x got.0 got.1 got.2 no_groups got.3)

-- ---- the options of the command

rule_at : (xs : List Arg) (k : ℕ) (d : Arg) (rules : List Rule) → map rule_of xs ≡ rules → rule_of (slice_index_or xs k d) ≡ slice_index_or rules k (rule_of d)
rule_at xs k d rules same = sym (get_or-map rule_of xs k d) ∙ ap (λ (l : List Rule). slice_index_or l k (rule_of d)) same

length_of : (xs : List Arg) (rules : List Rule) → map rule_of xs ≡ rules → length xs ≡ length rules
length_of xs rules same = sym (length-map xs rule_of) ∙ ap length same

first_arg : (xs : List Arg) → length xs ≡ 9 → Arg
first_arg [] e = absurd (omega arith)
first_arg (x ∷ xs) e = x

-- building adds no argument of this name
own_name : (name : Text) → (slice_index name 0 ≡ 104 → ⊥) → (slice_index name 0 ≡ 118 → ⊥) → (name ≡ codes "help") ⊎ (name ≡ codes "version") → ⊥
own_name name h v (inl e) = h (ap (λ (t : Text). slice_index t 0) e)
own_name name h v (inr e) = v (ap (λ (t : Text). slice_index t 0) e)

full_name : (name : Text) → (slice_index name 0 ≡ 0 → ⊥) → name ≡ [] → ⊥
full_name name h e = h (ap (λ (t : Text). slice_index t 0) e)

-- what the command says of itself
arguments_are : (old : Command) → app_of old ≡ command → map rule_of (args_of old) ≡ arguments
unfolding command
arguments_are old same = ap (λ (a : App). a.top.rules) same

is_plain : (old : Command) → app_of old ≡ command → has_plain_fields (out-Command old) ≡ true
unfolding command
is_plain old same = ap (λ (a : App). a.top.is_plain) same

all_simple : list_all (λ r. r.is_simple) arguments ≡ true
all_simple = refl

no_globals : (old : Command) → app_of old ≡ command → (out-Command old).has_globals ≡ false
no_globals old same = denied (out-Command old).has_globals (both _ _ (both _ _ (both _ _ (is_plain old same)).1).1).0
  where
    denied : (b : Bool) → not b ≡ true → b ≡ false
    denied true e = sym e
    denied false e = refl

no_groups : (old : Command) → app_of old ≡ command → groups_of old ≡ []
no_groups old same = no_items (groups_of old) (both _ _ (is_plain old same)).0

names_no_group : (old : Command) → app_of old ≡ command → NamesNoGroup old
names_no_group old same = all_ungrouped (args_of old) (ap (list_all (λ (r : Rule). r.is_simple)) (arguments_are old same) ∙ all_simple)

module _ (old : Command) (m : ArgMatches) (p : IsParsedFrom old m) (same : app_of old ≡ command) where
  count : length (args_of old) ≡ 9
  count = length_of (args_of old) arguments (arguments_are old same)

  spare : Arg
  spare = first_arg (args_of old) count

  reads_at : (k : ℕ) (name : Text) (least most : ℕ) → k < 9 → slice_index_or arguments k (rule_of spare) ≡ number_option name least most
      → is_alone name k arguments ≡ true → (slice_index name 0 ≡ 0 → ⊥) → (slice_index name 0 ≡ 104 → ⊥) → (slice_index name 0 ≡ 118 → ⊥)
      → IsOption name least most (rows_of (found_of m))
  reads_at k name least most lt rule alone full help version =
      let is_alone_there : is_alone name k (map rule_of (args_of old)) ≡ true = ap (is_alone name k) (arguments_are old same) ∙ alone in
      let there : k < length (args_of old) = omega (arith, count) in
      option_reads old m p k spare name least most (record {
        inside = there;
        rule = rule_at (args_of old) k spare arguments (arguments_are old same) ∙ rule;
        alone = is_alone_there;
        named = full_name name full;
        own = own_name name help version;
      }) ((p.from.same_groups (names_no_group old same)).1 ∙ no_groups old same) (p.parsed (p.from.globals ∙ no_globals old same)).values

  pub has_numbers : HasNumbers (rows_of (found_of m))
  has_numbers = record {
    workers = reads_at 0 (codes "workers") 1 64 (omega arith) refl refl (λ e. omega arith) (λ e. omega arith) (λ e. omega arith);
    batch = reads_at 1 (codes "batch") 1 65536 (omega arith) refl refl (λ e. omega arith) (λ e. omega arith) (λ e. omega arith);
    pause = reads_at 2 (codes "pause") 1 1024 (omega arith) refl refl (λ e. omega arith) (λ e. omega arith) (λ e. omega arith);
    resume = reads_at 3 (codes "resume") 0 1023 (omega arith) refl refl (λ e. omega arith) (λ e. omega arith) (λ e. omega arith);
  }

-- ---- the setting

-- an option's number, or its default
pub number_within : (name : Text) (default least most : ℕ) (rows : List Row) → IsOption name least most rows → least ≤ default → default ≤ most
    → (least ≤ number_of name default rows) × (number_of name default rows ≤ most)
number_within name default least most rows option low high = go (one_of name rows) option
  where
    go : (o : Option Text) → IfSome o (IsNumberFrom least most)
        → (least ≤ option_map_or (λ text. digits_value 10 (without_leading_plus text)) o default)
        × (option_map_or (λ text. digits_value 10 (without_leading_plus text)) o default ≤ most)
    go None h = (low, high)
    go (Some t) h = (h.1, h.2)

pub widened : (name : Text) (least most : ℕ) (rows : List Row) → IsOption name least most rows → most ≤ 65536 → IsOption name 0 65536 rows
widened name least most rows option high = go (one_of name rows) option
  where
    go : (o : Option Text) → IfSome o (IsNumberFrom least most) → IfSome o (IsNumberFrom 0 65536)
    go None h = tt
    go (Some t) h = (h.0, omega arith, omega (arith, h.2))

pub is_setting : (rows : List Row) → HasNumbers rows → (setting_of rows).resume < (setting_of rows).pause → IsSetting (setting_of rows)
is_setting rows has below = record {
  batch = number_within (codes "batch") 4096 1 65536 rows has.batch (omega arith) (omega arith);
  workers = number_within (codes "workers") 4 1 64 rows has.workers (omega arith) (omega arith);
  pause = number_within (codes "pause") 8 1 1024 rows has.pause (omega arith) (omega arith);
  resume = below;
}
