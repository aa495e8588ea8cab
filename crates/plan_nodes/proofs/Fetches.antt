-- A fetch gathers rows whose order is kept, and looks at no more of them than it wants.
use Rattle.std.proofs.Common.{◌≡◌, ℕ, ◌+◌, ◌≤◌, Bool, true, false, List, ◌++◌, length, take, drop, Some, refl, sym, ◌∙◌, ap, arith, length-drop}
use Rattle.std.proofs.lemmas.List.{take-append-le, drop-append-le}
use Rattle.scalar_value.specs.declared.value.Value.{Value}
use Rattle.plan_machine.specs.Lists.{weigh}
use Rattle.plan_machine.specs.Meaning.{SameRows}
use Rattle.plan_nodes.specs.Kinds.{fetch_meaning}
use Rattle.plan_nodes.specs.KindRows.{fetched}
use Rattle.plan_nodes.proofs.Lawful.{LawfulMeaning}

equal-rows : {R : Type 0} (kept : Bool) (xs ys : List R) → xs ≡ ys → SameRows kept xs ys
equal-rows true xs ys same = same
equal-rows false xs ys same = λ h. ap (weigh h) same

-- rows behind those that it wants are not looked at
fetched-front : (offset count : ℕ) (front xs : List (List Value)) → offset + count ≤ length front → fetched offset count (front ++ xs) ≡ fetched offset count front
fetched-front offset count front xs enough =
    let some : offset ≤ length front = omega arith in
    let left : count ≤ length (drop offset front) = omega (arith, length-drop offset front) in
    ap (take count) (drop-append-le offset front xs some) ∙ take-append-le count (drop offset front) xs left

wanted-rows : (offset count n : ℕ) (front xs ys : List (List Value)) → Some (offset + count) ≡ Some n → n ≤ length front → fetched offset count (front ++ xs) ≡ fetched offset count (front ++ ys)
wanted-rows offset count n front xs ys wants enough =
    let e : offset + count ≡ n = cc in
    let all : offset + count ≤ length front = omega arith in
    fetched-front offset count front xs all ∙ sym (fetched-front offset count front ys all)

pub fetch-lawful : (offset count size : ℕ) (gives : Bool) → LawfulMeaning (fetch_meaning offset count size) true gives
fetch-lawful offset count size gives = record {
  part_nil = λ b. refl;
  part_append = λ b xs ys. refl;
  part_same = λ b c xs same h. refl;
  rest_same = λ tails b c xs ys same set. equal-rows gives (fetched offset count b) (fetched offset count c) (ap (fetched offset count) same);
  fetch_wants = λ n wants front xs ys zs enough. wanted-rows offset count n front xs ys wants enough;
}
