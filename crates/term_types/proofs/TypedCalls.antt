-- Calls of operators and functions over typed parts give typed parts.
use Rattle.std.proofs.Common.{ℕ, ℤ, Bool, true, false, ◌||◌, if◌then◌else◌, Option, Some, None, Result, Ok, Err, ◌≡◌, refl, List, [], ◌∷◌, map}
use Rattle.std.specs.List.{list_all}
use Rattle.scalar_value.specs.declared.value.ColType.{ColType}
use Rattle.scalar_value.specs.declared.value.ColType.TheVariants.{Chr, Int, Lgl}
use Rattle.scalar_value.specs.Order.{is_day}
use Rattle.scalar_fns.specs.Days.{day_of_text}
use Rattle.row_table.specs.declared.field.Field.{Field}
use Rattle.na_expr.specs.declared.expr.TypeFault.{TypeFault}
use Rattle.na_expr.specs.declared.expr.ExprFn.{ExprFn}
use Rattle.na_expr.specs.declared.expr.ExprFn.TheVariants.{IfElse, Between, Coalesce, Paste0, IsIn, CaseWhen}
use Rattle.na_expr.specs.Evaluation.{is_comparison}
use Rattle.term_calls.specs.declared.fault.TermFault.{TermFault}
use Rattle.term_calls.specs.declared.piece.Piece.{Piece}
use Rattle.term_calls.specs.Faults.{and_then, all_of, stands_at}
use Rattle.term_calls.specs.Pieces.{kind_of, type_as, expr_as, needed, needed_by, first_kind, is_free, are_free, text_of, is_literal}
use Rattle.term_calls.specs.Calls.{call_of, alone, before, beside, agreement, agreement_as, free_where, of_one, of_two, choice, within, of_three, over, in_list, choice_over, first_there, case_kind, case_args, case_kinds, case_values, cases_by, cases, of_few, of_parts, text_day, text_as_date, beside_date, has_date, comparison, operated, between_parts, piece_of_part, function_call, with_items, among_literals, membership}
use Rattle.term_types.proofs.Calendar as calendar
use Rattle.term_types.proofs.TypedPieces.{Every, IfThere, IfGiven, every_map, then_given, every_given, stands_given, HaveTypes, IsTyped, typed_as, all_typed_as, call_typed}

-- a part with its place, and a condition with its value
abbrev pub PartTyped : List Field → ℕ × Piece → Type 0
PartTyped schema part = IsTyped schema part.1

abbrev pub CaseTyped : List Field → Piece × Piece → Type 0
CaseTyped schema c = IsTyped schema c.0 × IsTyped schema c.1

-- ---- functions of one value, of two and of three

pub one_typed : (schema : List Field) (f : ExprFn) (a : Piece) → IsTyped schema a → IfGiven (IsTyped schema) (of_one f a)
unfolding of_one
one_typed schema f a h = call_typed schema f (expr_as (alone f) a ∷ []) (type_as (alone f) a ∷ []) (typed_as schema (alone f) a h, tt)

pub two_typed : (schema : List Field) (f : ExprFn) (a b : Piece) → IsTyped schema a → IsTyped schema b → IfGiven (IsTyped schema) (of_two f a b)
unfolding of_two
two_typed schema f a b h k =
    let left : ColType = before f (kind_of b) in
    let right : ColType = beside f (kind_of a) in
    call_typed schema f (expr_as left a ∷ expr_as right b ∷ []) (type_as left a ∷ type_as right b ∷ []) (typed_as schema left a h, (typed_as schema right b k, tt))

three_as : (schema : List Field) (f : ExprFn) (s t u : ColType) (a b c : Piece) → IsTyped schema a → IsTyped schema b → IsTyped schema c → IfGiven (IsTyped schema) (call_of f (expr_as s a ∷ expr_as t b ∷ expr_as u c ∷ []) (type_as s a ∷ type_as t b ∷ type_as u c ∷ []))
three_as schema f s t u a b c h k l =
    call_typed schema f (expr_as s a ∷ expr_as t b ∷ expr_as u c ∷ []) (type_as s a ∷ type_as t b ∷ type_as u c ∷ []) (typed_as schema s a h, (typed_as schema t b k, (typed_as schema u c l, tt)))

-- a choice among free parts is free
free_typed : (schema : List Field) (free : Bool) (r : Result Piece TypeFault) → IfGiven (IsTyped schema) r → IfGiven (IsTyped schema) (free_where free r)
free_typed schema true (Ok p) h = tt
free_typed schema false (Ok p) h = h
free_typed schema free (Err e) h = tt

choice_typed : (schema : List Field) (c a b : Piece) → IsTyped schema c → IsTyped schema a → IsTyped schema b → IfGiven (IsTyped schema) (choice c a b)
choice_typed schema c a b h k l =
    let t : ColType = needed (kind_of a ∷ kind_of b ∷ []) in
    let kind : ColType = agreement (type_as t a ∷ type_as t b ∷ []) in
    free_typed schema (are_free (kind_of a ∷ kind_of b ∷ [])) (call_of (IfElse kind) (expr_as Lgl c ∷ expr_as t a ∷ expr_as t b ∷ []) (type_as Lgl c ∷ type_as t a ∷ type_as t b ∷ []))
    (three_as schema (IfElse kind) Lgl t t c a b h k l)

within_typed : (schema : List Field) (x a b : Piece) → IsTyped schema x → IsTyped schema a → IsTyped schema b → IfGiven (IsTyped schema) (within x a b)
unfolding within
within_typed schema x a b h k l = let t : ColType = needed (kind_of x ∷ kind_of a ∷ kind_of b ∷ []) in three_as schema Between t t t x a b h k l

three_typed : (schema : List Field) (f : ExprFn) (x a b : Piece) → IsTyped schema x → IsTyped schema a → IsTyped schema b → IfGiven (IsTyped schema) (of_three f x a b)
three_typed schema (IfElse t) x a b h k l = choice_typed schema x a b h k l
three_typed schema Between x a b h k l = within_typed schema x a b h k l
three_typed schema f x a b h k l = three_as schema f Chr Int Int x a b h k l

-- ---- functions of a list of values

over_typed : (schema : List Field) (f : ExprFn) (t : ColType) (ps : List Piece) → Every (IsTyped schema) ps → IfGiven (IsTyped schema) (over f t ps)
unfolding over
over_typed schema f t ps h = call_typed schema f (map (expr_as t) ps) (map (type_as t) ps) (all_typed_as schema t ps h)

in_list_typed : (schema : List Field) (ps : List Piece) → Every (IsTyped schema) ps → IfGiven (IsTyped schema) (in_list ps)
unfolding in_list
in_list_typed schema ps h = over_typed schema IsIn (needed (map kind_of ps)) ps h

choice_over_typed : (schema : List Field) (f : ExprFn) (kind : Option ColType) (ps : List Piece) → Every (IsTyped schema) ps → IfGiven (IsTyped schema) (choice_over f kind ps)
unfolding choice_over
choice_over_typed schema f kind ps h = free_typed schema (is_free kind) (over f (needed_by kind) ps) (over_typed schema f (needed_by kind) ps h)

first_typed : (schema : List Field) (ps : List Piece) → Every (IsTyped schema) ps → IfGiven (IsTyped schema) (first_there ps)
unfolding first_there
first_typed schema ps h =
    let kind : Option ColType = first_kind (map kind_of ps) in
    choice_over_typed schema (Coalesce (agreement_as (needed_by kind) ps)) kind ps h

case_parts_typed : (schema : List Field) (t : ColType) (cs : List (Piece × Piece)) (default : Option Piece) → Every (CaseTyped schema) cs → IfThere (IsTyped schema) default → HaveTypes schema (case_args t cs default) (case_kinds t cs default)
case_parts_typed schema t [] None h k = tt
case_parts_typed schema t [] (Some d) h k = (typed_as schema t d k, tt)
case_parts_typed schema t (c ∷ cs) default h k = (typed_as schema Lgl c.0 h.0.0, (typed_as schema t c.1 h.0.1, case_parts_typed schema t cs default h.1 k))

cases_by_typed : (schema : List Field) (kind : Option ColType) (cs : List (Piece × Piece)) (default : Option Piece) → Every (CaseTyped schema) cs → IfThere (IsTyped schema) default → IfGiven (IsTyped schema) (cases_by kind cs default)
unfolding cases_by
cases_by_typed schema kind cs default h k =
    let t : ColType = needed_by kind in
    let f : ExprFn = CaseWhen (agreement (case_values t cs default)) in
    free_typed schema (is_free kind) (call_of f (case_args t cs default) (case_kinds t cs default)) (call_typed schema f (case_args t cs default) (case_kinds t cs default) (case_parts_typed schema t cs default h k))

pub cases_typed : (schema : List Field) (cs : List (Piece × Piece)) (default : Option Piece) → Every (CaseTyped schema) cs → IfThere (IsTyped schema) default → IfGiven (IsTyped schema) (cases cs default)
cases_typed schema [] default h k = tt
cases_typed schema (c ∷ cs) default h k = cases_by_typed schema (case_kind (c ∷ cs) default) (c ∷ cs) default h k

-- ---- a call by its number of parts

few_typed : (schema : List Field) (f : ExprFn) (ps : List Piece) → Every (IsTyped schema) ps → IfGiven (IsTyped schema) (of_few f ps)
few_typed schema f [] h = tt
few_typed schema f (a ∷ []) h = one_typed schema f a h.0
few_typed schema f (a ∷ b ∷ []) h = two_typed schema f a b h.0 h.1.0
few_typed schema f (a ∷ b ∷ c ∷ []) h = three_typed schema f a b c h.0 h.1.0 h.1.1.0
few_typed schema f (a ∷ b ∷ c ∷ d ∷ ps) h = tt

parts_typed : (schema : List Field) (f : ExprFn) (ps : List Piece) → Every (IsTyped schema) ps → IfGiven (IsTyped schema) (of_parts f ps)
parts_typed schema (Coalesce t) ps h = first_typed schema ps h
parts_typed schema Paste0 ps h = over_typed schema Paste0 Lgl ps h
parts_typed schema f ps h = few_typed schema f ps h

-- ---- texts that stand for dates

pub text_day_is : (text : Option (List ℕ)) (d : ℤ) → text_day text ≡ Some (Some d) → is_day d ≡ true
text_day_is None d h = cc
text_day_is (Some text) d h = let day : day_of_text text ≡ Some d = cc in calendar.text_day text d day

date_typed : (schema : List Field) (at : ℕ) (p : Piece) (day : Option (Option ℤ)) → ((d : ℤ) → day ≡ Some (Some d) → is_day d ≡ true) → IsTyped schema p → IfGiven (IsTyped schema) (text_as_date at p day)
date_typed schema at p None k h = h
date_typed schema at p (Some None) k h = tt
date_typed schema at p (Some (Some d)) k h = k d refl

beside_typed : (schema : List Field) (dated : Bool) (part : ℕ × Piece) → PartTyped schema part → IfGiven (IsTyped schema) (beside_date dated part)
unfolding beside_date
beside_typed schema true part h = date_typed schema part.0 part.1 (text_day (text_of part.1)) (text_day_is (text_of part.1)) h
beside_typed schema false part h = h

-- ---- calls at their places

comparison_typed : (schema : List Field) (at : ℕ) (f : ExprFn) (a b : ℕ × Piece) → PartTyped schema a → PartTyped schema b → IfGiven (IsTyped schema) (comparison at f a b)
unfolding comparison
comparison_typed schema at f a b h k =
    then_given (IsTyped schema) (IsTyped schema) (beside_date (has_date b) a) (λ left. and_then (beside_date (has_date a) b) (λ right. stands_at at (of_two f left right))) (beside_typed schema (has_date b) a h)
    (λ left p. then_given (IsTyped schema) (IsTyped schema) (beside_date (has_date a) b) (λ right. stands_at at (of_two f left right)) (beside_typed schema (has_date a) b k)
    (λ right q. stands_given (IsTyped schema) at (of_two f left right) (two_typed schema f left right p q)))

operated_by : (schema : List Field) (compares : Bool) (at : ℕ) (f : ExprFn) (a b : ℕ × Piece) → PartTyped schema a → PartTyped schema b → IfGiven (IsTyped schema) (if compares then comparison at f a b else stands_at at (of_two f a.1 b.1))
operated_by schema true at f a b h k = comparison_typed schema at f a b h k
operated_by schema false at f a b h k = stands_given (IsTyped schema) at (of_two f a.1 b.1) (two_typed schema f a.1 b.1 h k)

pub operated_typed : (schema : List Field) (at : ℕ) (f : ExprFn) (a b : ℕ × Piece) → PartTyped schema a → PartTyped schema b → IfGiven (IsTyped schema) (operated at f a b)
unfolding operated
operated_typed schema at f a b h k = operated_by schema (is_comparison f) at f a b h k

between_typed : (schema : List Field) (at : ℕ) (x a b : ℕ × Piece) → PartTyped schema x → PartTyped schema a → PartTyped schema b → IfGiven (IsTyped schema) (between_parts at x a b)
unfolding between_parts
between_typed schema at x a b h k l =
    let dated : Bool = has_date x || (has_date a || has_date b) in
    then_given (IsTyped schema) (IsTyped schema) (beside_date dated x) (λ y. and_then (beside_date dated a) (λ low. and_then (beside_date dated b) (λ high. stands_at at (within y low high)))) (beside_typed schema dated x h)
    (λ y p. then_given (IsTyped schema) (IsTyped schema) (beside_date dated a) (λ low. and_then (beside_date dated b) (λ high. stands_at at (within y low high))) (beside_typed schema dated a k)
    (λ low q. then_given (IsTyped schema) (IsTyped schema) (beside_date dated b) (λ high. stands_at at (within y low high)) (beside_typed schema dated b l)
    (λ high r. stands_given (IsTyped schema) at (within y low high) (within_typed schema y low high p q r))))

plain_typed : (schema : List Field) (at : ℕ) (f : ExprFn) (parts : List (ℕ × Piece)) → Every (PartTyped schema) parts → IfGiven (IsTyped schema) (stands_at at (of_parts f (map piece_of_part parts)))
plain_typed schema at f parts h =
    stands_given (IsTyped schema) at (of_parts f (map piece_of_part parts)) (parts_typed schema f (map piece_of_part parts) (every_map (PartTyped schema) (IsTyped schema) piece_of_part (λ part p. p) parts h))

pub function_typed : (schema : List Field) (at : ℕ) (f : ExprFn) (parts : List (ℕ × Piece)) → Every (PartTyped schema) parts → IfGiven (IsTyped schema) (function_call at f parts)
unfolding function_call
function_typed schema at Between (x ∷ a ∷ b ∷ []) h = between_typed schema at x a b h.0 h.1.0 h.1.1.0
function_typed schema at f parts h = plain_typed schema at f parts h

items_typed : (schema : List Field) (x : ℕ × Piece) (items : List (ℕ × Piece)) → PartTyped schema x → Every (PartTyped schema) items → IfGiven (Every (IsTyped schema)) (with_items x items)
unfolding with_items
items_typed schema x items h k =
    then_given (Every (IsTyped schema)) (Every (IsTyped schema)) (all_of (map (beside_date (has_date x)) items)) (λ literals. Ok (x.1 ∷ literals))
    (every_given (IsTyped schema) (map (beside_date (has_date x)) items) (every_map (PartTyped schema) (IfGiven (IsTyped schema)) (beside_date (has_date x)) (beside_typed schema (has_date x)) items k))
    (λ literals p. (h, p))

literals_typed : (schema : List Field) (at : ℕ) (x : ℕ × Piece) (items : List (ℕ × Piece)) → PartTyped schema x → Every (PartTyped schema) items → IfGiven (IsTyped schema) (among_literals at x items)
unfolding among_literals
literals_typed schema at x items h k =
    then_given (Every (IsTyped schema)) (IsTyped schema) (with_items x items) (λ ps. stands_at at (in_list ps)) (items_typed schema x items h k)
    (λ ps p. stands_given (IsTyped schema) at (in_list ps) (in_list_typed schema ps p))

among_by : (schema : List Field) (literals : Bool) (at : ℕ) (x : ℕ × Piece) (items : List (ℕ × Piece)) (f : TermFault) → PartTyped schema x → Every (PartTyped schema) items → IfGiven (IsTyped schema) (if literals then among_literals at x items else Err f)
among_by schema true at x items f h k = literals_typed schema at x items h k
among_by schema false at x items f h k = tt

pub member_typed : (schema : List Field) (at : ℕ) (x : ℕ × Piece) (items : Option (List (ℕ × Piece))) → PartTyped schema x → IfThere (Every (PartTyped schema)) items → IfGiven (IsTyped schema) (membership at x items)
unfolding membership
member_typed schema at x None h k = tt
member_typed schema at x (Some items) h k = among_by schema (list_all (λ (item : ℕ × Piece). is_literal item.1) items) at x items _ h k
