-- The types of expressions: what each operator and function takes, and what it gives.
use Rattle.std.specs.Prelude.{Bool, true, false, ◌&&◌, if◌then◌else◌, Option, Some, None, Result, Ok, Err, List, [], ◌∷◌, slice_get, fold}
use Rattle.std.specs.List.{list_all}
use Rattle.scalar_value.specs.declared.value.ColType.{ColType}
use Rattle.scalar_value.specs.declared.value.ColType.TheVariants.{Int, Dec, Chr, Date, Lgl}
use Rattle.scalar_value.specs.Order.{is_of_type}
use Rattle.row_table.specs.declared.field.Field.{Field}
use Rattle.na_expr.specs.declared.expr.TypeFault.{TypeFault}
use Rattle.na_expr.specs.declared.expr.TypeFault.TheVariants.{WrongType, WrongArguments, UnknownColumn}
use Rattle.na_expr.specs.declared.expr.ExprFn.{ExprFn}
use Rattle.na_expr.specs.declared.expr.ExprFn.TheVariants as call
use Rattle.na_expr.specs.declared.expr.Expr.{Expr}
use Rattle.na_expr.specs.declared.expr.Expr.TheOpen.{Expr-F, Col, Lit, Call}
use Rattle.na_expr.specs.declared.expr.Expr.TheFolds.{fold-Expr}

-- the type on which two types agree: equal types, and a whole number and a decimal on a decimal
abbrev pub joined : ColType → ColType → Option ColType
joined Int Int = Some Int
joined Int Dec = Some Dec
joined Int Chr = None
joined Int Date = None
joined Int Lgl = None
joined Dec Int = Some Dec
joined Dec Dec = Some Dec
joined Dec Chr = None
joined Dec Date = None
joined Dec Lgl = None
joined Chr Int = None
joined Chr Dec = None
joined Chr Chr = Some Chr
joined Chr Date = None
joined Chr Lgl = None
joined Date Int = None
joined Date Dec = None
joined Date Chr = None
joined Date Date = Some Date
joined Date Lgl = None
joined Lgl Int = None
joined Lgl Dec = None
joined Lgl Chr = None
joined Lgl Date = None
joined Lgl Lgl = Some Lgl

-- of two numbers a whole number where both are one, else a decimal
abbrev pub number_type : ColType → ColType → Option ColType
number_type Int Int = Some Int
number_type Int Dec = Some Dec
number_type Int Chr = None
number_type Int Date = None
number_type Int Lgl = None
number_type Dec Int = Some Dec
number_type Dec Dec = Some Dec
number_type Dec Chr = None
number_type Dec Date = None
number_type Dec Lgl = None
number_type Chr Int = None
number_type Chr Dec = None
number_type Chr Chr = None
number_type Chr Date = None
number_type Chr Lgl = None
number_type Date Int = None
number_type Date Dec = None
number_type Date Chr = None
number_type Date Date = None
number_type Date Lgl = None
number_type Lgl Int = None
number_type Lgl Dec = None
number_type Lgl Chr = None
number_type Lgl Date = None
number_type Lgl Lgl = None

-- a quotient is a decimal
abbrev pub quotient_type : ColType → ColType → Option ColType
quotient_type Int Int = Some Dec
quotient_type Int Dec = Some Dec
quotient_type Int Chr = None
quotient_type Int Date = None
quotient_type Int Lgl = None
quotient_type Dec Int = Some Dec
quotient_type Dec Dec = Some Dec
quotient_type Dec Chr = None
quotient_type Dec Date = None
quotient_type Dec Lgl = None
quotient_type Chr Int = None
quotient_type Chr Dec = None
quotient_type Chr Chr = None
quotient_type Chr Date = None
quotient_type Chr Lgl = None
quotient_type Date Int = None
quotient_type Date Dec = None
quotient_type Date Chr = None
quotient_type Date Date = None
quotient_type Date Lgl = None
quotient_type Lgl Int = None
quotient_type Lgl Dec = None
quotient_type Lgl Chr = None
quotient_type Lgl Date = None
quotient_type Lgl Lgl = None

-- a sum of numbers, or a day so many days later
abbrev pub sum_type : ColType → ColType → Option ColType
sum_type Int Int = Some Int
sum_type Int Dec = Some Dec
sum_type Int Chr = None
sum_type Int Date = Some Date
sum_type Int Lgl = None
sum_type Dec Int = Some Dec
sum_type Dec Dec = Some Dec
sum_type Dec Chr = None
sum_type Dec Date = None
sum_type Dec Lgl = None
sum_type Chr Int = None
sum_type Chr Dec = None
sum_type Chr Chr = None
sum_type Chr Date = None
sum_type Chr Lgl = None
sum_type Date Int = Some Date
sum_type Date Dec = None
sum_type Date Chr = None
sum_type Date Date = None
sum_type Date Lgl = None
sum_type Lgl Int = None
sum_type Lgl Dec = None
sum_type Lgl Chr = None
sum_type Lgl Date = None
sum_type Lgl Lgl = None

-- a difference of numbers, a day so many days before, or the days between two days
abbrev pub difference_type : ColType → ColType → Option ColType
difference_type Int Int = Some Int
difference_type Int Dec = Some Dec
difference_type Int Chr = None
difference_type Int Date = None
difference_type Int Lgl = None
difference_type Dec Int = Some Dec
difference_type Dec Dec = Some Dec
difference_type Dec Chr = None
difference_type Dec Date = None
difference_type Dec Lgl = None
difference_type Chr Int = None
difference_type Chr Dec = None
difference_type Chr Chr = None
difference_type Chr Date = None
difference_type Chr Lgl = None
difference_type Date Int = Some Date
difference_type Date Dec = None
difference_type Date Chr = None
difference_type Date Date = Some Int
difference_type Date Lgl = None
difference_type Lgl Int = None
difference_type Lgl Dec = None
difference_type Lgl Chr = None
difference_type Lgl Date = None
difference_type Lgl Lgl = None

-- of two truth values one
abbrev pub truths_type : ColType → ColType → Option ColType
truths_type Int Int = None
truths_type Int Dec = None
truths_type Int Chr = None
truths_type Int Date = None
truths_type Int Lgl = None
truths_type Dec Int = None
truths_type Dec Dec = None
truths_type Dec Chr = None
truths_type Dec Date = None
truths_type Dec Lgl = None
truths_type Chr Int = None
truths_type Chr Dec = None
truths_type Chr Chr = None
truths_type Chr Date = None
truths_type Chr Lgl = None
truths_type Date Int = None
truths_type Date Dec = None
truths_type Date Chr = None
truths_type Date Date = None
truths_type Date Lgl = None
truths_type Lgl Int = None
truths_type Lgl Dec = None
truths_type Lgl Chr = None
truths_type Lgl Date = None
truths_type Lgl Lgl = Some Lgl

-- a test on two texts
abbrev pub texts_type : ColType → ColType → Option ColType
texts_type Int Int = None
texts_type Int Dec = None
texts_type Int Chr = None
texts_type Int Date = None
texts_type Int Lgl = None
texts_type Dec Int = None
texts_type Dec Dec = None
texts_type Dec Chr = None
texts_type Dec Date = None
texts_type Dec Lgl = None
texts_type Chr Int = None
texts_type Chr Dec = None
texts_type Chr Chr = Some Lgl
texts_type Chr Date = None
texts_type Chr Lgl = None
texts_type Date Int = None
texts_type Date Dec = None
texts_type Date Chr = None
texts_type Date Date = None
texts_type Date Lgl = None
texts_type Lgl Int = None
texts_type Lgl Dec = None
texts_type Lgl Chr = None
texts_type Lgl Date = None
texts_type Lgl Lgl = None

-- the negative or the size of a number
abbrev pub signed_type : ColType → Option ColType
signed_type Int = Some Int
signed_type Dec = Some Dec
signed_type Chr = None
signed_type Date = None
signed_type Lgl = None

-- of a truth value one
abbrev pub truth_type : ColType → Option ColType
truth_type Int = None
truth_type Dec = None
truth_type Chr = None
truth_type Date = None
truth_type Lgl = Some Lgl

-- a test on any value
abbrev pub any_test_type : ColType → Option ColType
any_test_type Int = Some Lgl
any_test_type Dec = Some Lgl
any_test_type Chr = Some Lgl
any_test_type Date = Some Lgl
any_test_type Lgl = Some Lgl

-- the length of a text
abbrev pub length_type : ColType → Option ColType
length_type Int = None
length_type Dec = None
length_type Chr = Some Int
length_type Date = None
length_type Lgl = None

-- of a text one
abbrev pub text_type : ColType → Option ColType
text_type Int = None
text_type Dec = None
text_type Chr = Some Chr
text_type Date = None
text_type Lgl = None

-- a part of a day
abbrev pub day_part_type : ColType → Option ColType
day_part_type Int = None
day_part_type Dec = None
day_part_type Chr = None
day_part_type Date = Some Int
day_part_type Lgl = None

-- what can be made a whole number
abbrev pub integer_type : ColType → Option ColType
integer_type Int = Some Int
integer_type Dec = Some Int
integer_type Chr = None
integer_type Date = None
integer_type Lgl = Some Int

-- what can be made a decimal
abbrev pub decimal_type : ColType → Option ColType
decimal_type Int = Some Dec
decimal_type Dec = Some Dec
decimal_type Chr = None
decimal_type Date = None
decimal_type Lgl = None

-- any value has a text
abbrev pub any_text_type : ColType → Option ColType
any_text_type Int = Some Chr
any_text_type Dec = Some Chr
any_text_type Chr = Some Chr
any_text_type Date = Some Chr
any_text_type Lgl = Some Chr

abbrev pub is_kind : ColType → ColType → Bool
is_kind Int Int = true
is_kind Dec Dec = true
is_kind Chr Chr = true
is_kind Date Date = true
is_kind Lgl Lgl = true
is_kind a b = false

-- a comparison of two types that agree
abbrev pub then_test : Option ColType → Option ColType
then_test None = None
then_test (Some t) = Some Lgl

abbrev pub compared_type : ColType → ColType → Option ColType
compared_type a b = then_test (joined a b)

-- the type that a choice of two values carries, where it is the one on which they agree
abbrev pub carried_type : ColType → Option ColType → Option ColType
carried_type t None = None
carried_type t (Some u) = if is_kind t u then Some t else None

-- `if_else(c, a, b)`
abbrev pub choice_type : ColType → ColType → ColType → ColType → Option ColType
choice_type t c a b = if is_kind c Lgl then carried_type t (joined a b) else None

-- `between(x, a, b)`: x agrees with both
abbrev pub both_tests : Option ColType → Option ColType → Option ColType
both_tests None q = None
both_tests (Some t) None = None
both_tests (Some t) (Some u) = Some Lgl

abbrev pub between_type : ColType → ColType → ColType → Option ColType
between_type x a b = both_tests (joined x a) (joined x b)

abbrev pub substr_type : ColType → ColType → ColType → Option ColType
substr_type v a b = if is_kind v Chr && (is_kind a Int && is_kind b Int) then Some Chr else None

-- ---- lists of any length

-- the type on which the types so far agree with one more; there may be no type so far, or none on which they agree
abbrev pub joining : Option (Option ColType) → ColType → Option (Option ColType)
joining None t = Some (Some t)
joining (Some None) t = Some None
joining (Some (Some u)) t = Some (joined u t)

-- the type on which all types of a list agree; nothing of the empty list
abbrev pub agreed : List ColType → Option (Option ColType)
agreed ts = fold joining None ts

-- ---- each operator and function

abbrev pub or_wrong_type : Option ColType → Result ColType TypeFault
or_wrong_type None = Err WrongType
or_wrong_type (Some t) = Ok t

-- the type of a function of one value, of two and of three; another number of arguments is wrong
abbrev pub of_one : (ColType → Option ColType) → List ColType → Result ColType TypeFault
of_one f [] = Err WrongArguments
of_one f (a ∷ []) = or_wrong_type (f a)
of_one f (a ∷ b ∷ ts) = Err WrongArguments

abbrev pub of_two : (ColType → ColType → Option ColType) → List ColType → Result ColType TypeFault
of_two f [] = Err WrongArguments
of_two f (a ∷ []) = Err WrongArguments
of_two f (a ∷ b ∷ []) = or_wrong_type (f a b)
of_two f (a ∷ b ∷ c ∷ ts) = Err WrongArguments

abbrev pub of_three : (ColType → ColType → ColType → Option ColType) → List ColType → Result ColType TypeFault
of_three f [] = Err WrongArguments
of_three f (a ∷ []) = Err WrongArguments
of_three f (a ∷ b ∷ []) = Err WrongArguments
of_three f (a ∷ b ∷ c ∷ []) = or_wrong_type (f a b c)
of_three f (a ∷ b ∷ c ∷ d ∷ ts) = Err WrongArguments

-- a type by the one on which all arguments agree; at least one argument is needed
abbrev pub by_agreement : (Option ColType → Option ColType) → Option (Option ColType) → Result ColType TypeFault
by_agreement rule None = Err WrongArguments
by_agreement rule (Some t) = or_wrong_type (rule t)

-- `x %in% c(..)`: x and the literals agree
abbrev pub among_type : List ColType → Result ColType TypeFault
among_type ts = by_agreement then_test (agreed ts)

-- `coalesce(a, ..)`: all agree on the type that it carries
abbrev pub coalesce_type : ColType → List ColType → Result ColType TypeFault
coalesce_type kind ts = by_agreement (carried_type kind) (agreed ts)

-- `paste0(a, ..)`: of any types
abbrev pub paste_type : List ColType → Result ColType TypeFault
paste_type ts = by_agreement (λ t. Some Chr) (agreed ts)

-- the conditions of a `case_when`, each before its value, and its values with the default
abbrev pub conditions_of : List ColType → List ColType
conditions_of [] = []
conditions_of (d ∷ []) = []
conditions_of (c ∷ v ∷ ts) = c ∷ conditions_of ts

abbrev pub values_of : List ColType → List ColType
values_of [] = []
values_of (d ∷ []) = d ∷ []
values_of (c ∷ v ∷ ts) = v ∷ values_of ts

abbrev pub are_truths : List ColType → Bool
are_truths ts = list_all (λ t. is_kind t Lgl) ts

-- the type of a `case_when` by whether its conditions are truth values and by the type on which its values agree
abbrev pub case_outcome : ColType → Bool → Option (Option ColType) → Result ColType TypeFault
case_outcome kind truths values = if truths then by_agreement (carried_type kind) values else Err WrongType

-- `case_when(c ~ v, .., .default = d)`: conditions are truth values, and the values agree on the type that it carries
abbrev pub case_type : ColType → List ColType → Result ColType TypeFault
case_type kind [] = Err WrongArguments
case_type kind (d ∷ []) = Err WrongArguments
case_type kind (c ∷ v ∷ ts) =
    case_outcome kind (are_truths (conditions_of (c ∷ v ∷ ts))) (agreed (values_of (c ∷ v ∷ ts)))

-- what is seen of a list of conditions and values: whether its conditions are truth values, and on which type its values agree,
-- after such facts of what stands before it
abbrev pub case_seen : Bool → Option (Option ColType) → List ColType → Bool × Option (Option ColType)
case_seen truths values ts = (truths && are_truths (conditions_of ts), fold joining values (values_of ts))

-- what each operator and function takes, and what it gives
abbrev pub takes : ExprFn → List ColType → Result ColType TypeFault
takes call.Neg = of_one signed_type
takes call.Add = of_two sum_type
takes call.Sub = of_two difference_type
takes call.Mul = of_two number_type
takes call.Div = of_two quotient_type
takes call.FloorDiv = of_two number_type
takes call.Mod = of_two number_type
takes call.Eq = of_two compared_type
takes call.Ne = of_two compared_type
takes call.Lt = of_two compared_type
takes call.Le = of_two compared_type
takes call.Gt = of_two compared_type
takes call.Ge = of_two compared_type
takes call.Not = of_one truth_type
takes call.And = of_two truths_type
takes call.Or = of_two truths_type
takes call.IsIn = among_type
takes call.IsNa = of_one any_test_type
takes (call.IfElse t) = of_three (choice_type t)
takes (call.CaseWhen t) = case_type t
takes (call.Coalesce t) = coalesce_type t
takes call.Between = of_three between_type
takes call.Abs = of_one signed_type
takes call.NChar = of_one length_type
takes call.Substr = of_three substr_type
takes call.ToUpper = of_one text_type
takes call.ToLower = of_one text_type
takes call.StartsWith = of_two texts_type
takes call.EndsWith = of_two texts_type
takes call.Paste0 = paste_type
takes call.Year = of_one day_part_type
takes call.Month = of_one day_part_type
takes call.Day = of_one day_part_type
takes call.Wday = of_one day_part_type
takes call.AsInteger = of_one integer_type
takes call.AsNumeric = of_one decimal_type
takes call.AsCharacter = of_one any_text_type

-- ---- expressions

-- the types of all parts, or the first fault from the left
abbrev pub with_front : ColType → Result (List ColType) TypeFault → Result (List ColType) TypeFault
with_front t (Ok ts) = Ok (t ∷ ts)
with_front t (Err e) = Err e

abbrev pub all_of : List (Result ColType TypeFault) → Result (List ColType) TypeFault
all_of [] = Ok []
all_of (Ok t ∷ rs) = with_front t (all_of rs)
all_of (Err e ∷ rs) = Err e

-- a rule on the types of all parts, or their first fault
abbrev pub then_all : {S : Type 0} → (List ColType → S) → Result (List ColType) TypeFault → Result S TypeFault
then_all rule (Ok ts) = Ok (rule ts)
then_all rule (Err e) = Err e

-- the type of a call by the types of its parts: a fault of a part comes before its own
abbrev pub call_type : (List ColType → Result ColType TypeFault) → Result (List ColType) TypeFault → Result ColType TypeFault
call_type rule (Ok ts) = rule ts
call_type rule (Err e) = Err e

abbrev pub column_type : Option Field → Result ColType TypeFault
column_type None = Err UnknownColumn
column_type (Some f) = Ok f.kind

abbrev pub step_type : List Field → Expr-F (Result ColType TypeFault) → Result ColType TypeFault
step_type schema (Col at) = column_type (slice_get schema at)
step_type schema (Lit v t) = if is_of_type t v then Ok t else Err WrongType
step_type schema (Call f parts) = call_type (takes f) (all_of parts)

-- the type of an expression over a schema, or its first fault, inner parts before outer ones and from the left
abbrev pub typed : List Field → Expr → Result ColType TypeFault
typed schema = fold-Expr (Result ColType TypeFault) (step_type schema)
