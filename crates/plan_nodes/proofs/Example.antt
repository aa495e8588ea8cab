-- A plan: the rows of two tables by their first columns, those whose flag is TRUE, and the sink.
use Rattle.std.proofs.Common.{◌≡◌, ℕ, zero, suc, ◌<◌, ◌≤◌, inl, inr, true, false, Result, ap, List, [], ◌∷◌, refl, subst, arith, lit≤, lit<}
use Rattle.std.specs.Prelude.{pos}
use Rattle.std.specs.List.{Contains}
use Rattle.scalar_value.specs.declared.value.Value.TheVariants.{Int, Lgl}
use Rattle.scalar_value.specs.declared.value.ColType.{ColType}
use Rattle.scalar_value.specs.declared.value.ColType.TheVariants as type
use Rattle.row_table.specs.declared.field.Field.{Field}
use Rattle.row_table.specs.declared.table.Mark.TheVariants.{Kept, Unordered}
use Rattle.row_table.specs.declared.join.JoinKind.TheVariants.{Full}
use Rattle.row_table.specs.Tables.{TableValue}
use Rattle.na_expr.specs.declared.expr.TypeFault.{TypeFault}
use Rattle.na_expr.specs.Types.{step_type}
use Rattle.na_expr.specs.declared.expr.Expr.{Expr}
use Rattle.na_expr.specs.declared.expr.Expr.TheOpen.{Col}
use Rattle.na_expr.specs.declared.expr.Expr.TheFolds.{fold-roll-Expr}
use Rattle.na_expr.specs.declared.expr.Expr.TheViews.{roll-Expr}
use Rattle.plan_nodes.specs.declared.node.Node.{Node}
use Rattle.plan_nodes.specs.declared.node.NodeKind.TheVariants.{Source, Filter, HashJoin, Sink}
use Rattle.plan_nodes.specs.declared.options.JoinSpec.{JoinSpec}
use Rattle.plan_nodes.specs.Kinds.{is_sink, is_condition, unnamed}
use Rattle.plan_nodes.specs.Plans.{Pace, IsPace, IsPlan, IsNodeOf, node_at, user_of}

-- a column of the name "a"
abbrev id : Field
id = record { name = 97 ∷ []; kind = type.Int }

abbrev other_id : Field
other_id = record { name = 98 ∷ []; kind = type.Int }

abbrev flag : Field
flag = record { name = 102 ∷ []; kind = type.Lgl }

abbrev pub full_join : JoinSpec
full_join = record { kind = Full; left_keys = 0 ∷ []; right_keys = 0 ∷ []; na_match = false }

abbrev pub condition : Expr
condition = roll-Expr (Col 2)

abbrev pub nodes : List Node
nodes =
    record { kind = Source (120 ∷ []); inputs = []; mark = Kept; schema = id ∷ [] }
    ∷ record { kind = Source (121 ∷ []); inputs = []; mark = Kept; schema = other_id ∷ flag ∷ [] }
    ∷ record { kind = HashJoin full_join; inputs = 1 ∷ 2 ∷ []; mark = Unordered; schema = id ∷ other_id ∷ flag ∷ [] }
    ∷ record { kind = Filter condition; inputs = 3 ∷ []; mark = Unordered; schema = id ∷ other_id ∷ flag ∷ [] }
    ∷ record { kind = Sink; inputs = 4 ∷ []; mark = Unordered; schema = id ∷ other_id ∷ flag ∷ [] }
    ∷ []

abbrev pub tables : List TableValue
tables =
    record { schema = id ∷ []; groups = []; mark = Kept; rows = (Int (pos 1) ∷ []) ∷ (Int (pos 2) ∷ []) ∷ [] }
    ∷ record { schema = other_id ∷ flag ∷ []; groups = []; mark = Kept; rows = (Int (pos 2) ∷ Lgl true ∷ []) ∷ (Int (pos 3) ∷ Lgl false ∷ []) ∷ [] }
    ∷ []

abbrev pub pace : Pace
pace = record { batch = 2; workers = 2; pause = 8; resume = 4 }

pub is-pace : IsPace pace
is-pace = record { batch = lit≤ tt; workers = lit≤ tt; resume = lit≤ tt }

-- what holds of each of the five nodes holds of all
five : (Q : ℕ → Type 0) → Q 1 → Q 2 → Q 3 → Q 4 → Q 5 → (n : ℕ) → 1 ≤ n → n ≤ 5 → Q n
five Q a b c d e zero l h = absurd (omega arith)
five Q a b c d e (suc zero) l h = a
five Q a b c d e (suc (suc zero)) l h = b
five Q a b c d e (suc (suc (suc zero))) l h = c
five Q a b c d e (suc (suc (suc (suc zero)))) l h = d
five Q a b c d e (suc (suc (suc (suc (suc zero))))) l h = e
five Q a b c d e (suc (suc (suc (suc (suc (suc n)))))) l h = absurd (omega arith)

pub in-none : (e : ℕ) → Contains [] e → ⊥
in-none e h = let a = h.1 in omega arith

pub in-one : (Q : ℕ → Type 0) (a : ℕ) → Q a → (e : ℕ) → Contains (a ∷ []) e → Q e
in-one Q a q e (zero, h, same) = subst Q same q
in-one Q a q e (suc k, h, same) = absurd (omega arith)

in-two : (Q : ℕ → Type 0) (a b : ℕ) → Q a → Q b → (e : ℕ) → Contains (a ∷ b ∷ []) e → Q e
in-two Q a b p q e (zero, h, same) = subst Q same p
in-two Q a b p q e (suc zero, h, same) = subst Q same q
in-two Q a b p q e (suc (suc k), h, same) = absurd (omega arith)

abbrev InputOf : ℕ → ℕ → Type 0
InputOf n e = (1 ≤ e) × (e < n) × (user_of nodes e ≡ n)

node-1 : IsNodeOf nodes 1 (node_at nodes 1)
node-1 = record {
  count = refl;
  inputs = λ e h. absurd (in-none e h);
  apart = refl;
  fits = refl;
  columns = λ source. absurd (cc);
  mark = inl refl;
  ordered = λ asks. absurd (cc);
  built = refl;
}

node-2 : IsNodeOf nodes 2 (node_at nodes 2)
node-2 = record {
  count = refl;
  inputs = λ e h. absurd (in-none e h);
  apart = refl;
  fits = refl;
  columns = λ source. absurd (cc);
  mark = inl refl;
  ordered = λ asks. absurd (cc);
  built = refl;
}

node-3 : IsNodeOf nodes 3 (node_at nodes 3)
node-3 = record {
  count = refl;
  inputs = in-two (InputOf 3) 1 2 (lit≤ tt, lit< tt, refl) (lit≤ tt, lit< tt, refl);
  apart = refl;
  fits = refl;
  columns = λ source. refl;
  mark = inr (inl refl);
  ordered = λ asks. absurd (cc);
  built = refl;
}

node-4 : IsNodeOf nodes 4 (node_at nodes 4)
node-4 = record {
  count = refl;
  inputs = in-one (InputOf 4) 3 (lit≤ tt, lit< tt, refl);
  apart = refl;
  fits = ap is_condition (fold-roll-Expr (Result ColType TypeFault) (step_type (unnamed (type.Int ∷ type.Int ∷ type.Lgl ∷ []))) (Col 2));
  columns = λ source. refl;
  mark = inr (inl refl);
  ordered = λ asks. absurd (cc);
  built = refl;
}

node-5 : IsNodeOf nodes 5 (node_at nodes 5)
node-5 = record {
  count = refl;
  inputs = in-one (InputOf 5) 4 (lit≤ tt, lit< tt, refl);
  apart = refl;
  fits = refl;
  columns = λ source. refl;
  mark = inr (inl refl);
  ordered = λ asks. absurd (cc);
  built = refl;
}

pub is-plan : IsPlan nodes
is-plan = record {
  placed = five (λ n. IsNodeOf nodes n (node_at nodes n)) node-1 node-2 node-3 node-4 node-5;
  some = lit≤ tt;
  last = refl;
  one_sink = λ n l h. five (λ m. m < 5 → is_sink (node_at nodes m).kind ≡ false) (λ low. refl) (λ low. refl) (λ low. refl) (λ low. refl) (λ low. absurd (omega arith)) n l (omega arith) h;
  used = λ e l h. five (λ m. m < 5 → (m < user_of nodes m) × (user_of nodes m ≤ 5)) (λ low. (lit< tt, lit≤ tt)) (λ low. (lit< tt, lit≤ tt)) (λ low. (lit< tt, lit≤ tt)) (λ low. (lit< tt, lit≤ tt)) (λ low. absurd (omega arith)) e l (omega arith) h;
}
