-- What the machine asks of what a node computes.
use Rattle.std.proofs.Common.{◌≡◌, ℕ, ◌≤◌, Bool, true, List, [], ◌++◌, length, Some}
use Rattle.scalar_value.specs.declared.value.Value.{Value}
use Rattle.plan_machine.specs.Meaning.{SameRows, SameSet}
use Rattle.plan_nodes.specs.Operators.{OpMeaning}
use Rattle.plan_nodes.proofs.Weights.{SameWeight}

-- What an operator computes is lawful where what it gathers is kept in order or not, and what it gives is or not.
pub record LawfulMeaning (m : OpMeaning) (gathers gives : Bool) : Type 0 where
  pub part_nil : (b : List (List Value)) → m.part b [] ≡ []
  pub part_append : (b xs ys : List (List Value)) → m.part b (xs ++ ys) ≡ m.part b xs ++ m.part b ys
  pub part_same : (b c xs : List (List Value)) → SameRows gathers b c → SameWeight (m.part b xs) (m.part c xs)
  pub rest_same : m.shape.tails ≡ true → (b c xs ys : List (List Value)) → SameRows gathers b c → SameSet xs ys → SameRows gives (m.rest b xs) (m.rest c ys)
  pub fetch_wants : (n : ℕ) → m.wanted ≡ Some n → (front xs ys zs : List (List Value)) → n ≤ length front → m.rest (front ++ xs) zs ≡ m.rest (front ++ ys) zs
