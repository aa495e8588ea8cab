-- What the tests' plans and tables meet.
use Rattle.std.proofs.Common.{◌≡◌, ℕ, zero, suc, ◌+◌, ◌-◌, ◌<◌, ◌≤◌, ◌^◌, inl, inr, true, false, Bool, ◌&&◌, List, [], ◌∷◌, ◌++◌, IsTrue, refl, sym, ap, subst, ◌∙◌, arith, lit≤, lit<}
use Rattle.std.proofs.lemmas.Bool.{le-leb}
use Rattle.scalar_value.specs.declared.value.Value.{Value}
use Rattle.row_table.specs.declared.field.Field.{Field}
use Rattle.row_table.specs.Tables.{fits_row, fit_rows}
use Rattle.plan_nodes.specs.declared.node.Node.{Node}
use Rattle.plan_nodes.specs.Kinds.{is_sink}
use Rattle.plan_nodes.specs.Plans.{IsPlan, IsNodeOf, node_at, user_of}
use Rattle.plan_nodes.proofs.Example.{is-plan, nodes, in-none, in-one}
use Rattle.na_expr.specs.declared.expr.Expr.{Expr}
use Rattle.na_expr.specs.declared.expr.Expr.TheVariants.{rolls-Col}
use Rattle.row_table.specs.declared.table.Mark.TheVariants.{Kept, Unordered}
use Rattle.plan_nodes.specs.declared.node.NodeKind.TheVariants.{Source, Filter, HashJoin, Sink}
use Rattle.played_runs.specs.Examples.{left_schema, right_schema, joined_schema, full_join, join_nodes, fetch_nodes}

both : (a b : Bool) → IsTrue a → IsTrue b → IsTrue (a && b)
both true b p q = q
both false b p q = absurd (cc)

left : (a b : Bool) → IsTrue (a && b) → IsTrue a
left true b h = refl
left false b h = h

right : (a b : Bool) → IsTrue (a && b) → IsTrue b
right true b h = h
right false b h = absurd (cc)

-- a row more that fits
pub fits_more : (schema : List Field) (rows : List (List Value)) (row : List Value) → IsTrue (fit_rows schema rows) → IsTrue (fits_row schema row) → IsTrue (fit_rows schema (rows ++ row ∷ []))
fits_more schema [] row h r = both (fits_row schema row) true r refl
fits_more schema (x ∷ rows) row h r =
    both (fits_row schema x) (fit_rows schema (rows ++ row ∷ [])) (left (fits_row schema x) (fit_rows schema rows) h) (fits_more schema rows row (right (fits_row schema x) (fit_rows schema rows) h) r)

-- the plan with this condition
abbrev with_condition : Expr → List Node
with_condition e =
    record { kind = Source (120 ∷ []); inputs = []; mark = Kept; schema = left_schema }
    ∷ record { kind = Source (121 ∷ []); inputs = []; mark = Kept; schema = right_schema }
    ∷ record { kind = HashJoin full_join; inputs = 1 ∷ 2 ∷ []; mark = Unordered; schema = joined_schema }
    ∷ record { kind = Filter e; inputs = 3 ∷ []; mark = Unordered; schema = joined_schema }
    ∷ record { kind = Sink; inputs = 4 ∷ []; mark = Unordered; schema = joined_schema }
    ∷ []

plan_of_example : nodes ≡ join_nodes
plan_of_example = ap with_condition (rolls-Col 2)

pub join_is_plan : (made : List Node) → made ≡ join_nodes → IsPlan made
join_is_plan made e = subst (λ ns. IsPlan ns) (plan_of_example ∙ sym e) is-plan

-- what holds of each of three nodes holds of all
three : (Q : ℕ → Type 0) → Q 1 → Q 2 → Q 3 → (n : ℕ) → 1 ≤ n → n ≤ 3 → Q n
three Q a b c zero l h = absurd (omega arith)
three Q a b c (suc zero) l h = a
three Q a b c (suc (suc zero)) l h = b
three Q a b c (suc (suc (suc zero))) l h = c
three Q a b c (suc (suc (suc (suc n)))) l h = absurd (omega arith)

module _ (offset count : ℕ) where
  abbrev ns : List Node
  ns = fetch_nodes offset count

  source_placed : IsNodeOf ns 1 (node_at ns 1)
  source_placed = record {
    count = refl;
    inputs = λ e h. absurd (in-none e h);
    apart = refl;
    fits = refl;
    columns = λ source. absurd (cc);
    mark = inl refl;
    ordered = λ asks. absurd (cc);
    built = refl;
  }

  fetch_placed : offset + count ≤ 2 ^ 64 - 1 → IsNodeOf ns 2 (node_at ns 2)
  fetch_placed within = record {
    count = refl;
    inputs = in-one (λ e. (1 ≤ e) × (e < 2) × (user_of ns e ≡ 2)) 1 (lit≤ tt, lit< tt, refl);
    apart = refl;
    fits = le-leb (offset + count) (2 ^ 64 - 1) within;
    columns = λ source. refl;
    mark = inr (inr refl);
    ordered = λ asks. refl;
    built = refl;
  }

  sink_placed : IsNodeOf ns 3 (node_at ns 3)
  sink_placed = record {
    count = refl;
    inputs = in-one (λ e. (1 ≤ e) × (e < 3) × (user_of ns e ≡ 3)) 2 (lit≤ tt, lit< tt, refl);
    apart = refl;
    fits = refl;
    columns = λ source. refl;
    mark = inr (inr refl);
    ordered = λ asks. absurd (cc);
    built = refl;
  }

  fetch_plans : offset + count ≤ 2 ^ 64 - 1 → IsPlan ns
  fetch_plans within = record {
    placed = three (λ n. IsNodeOf ns n (node_at ns n)) source_placed (fetch_placed within) sink_placed;
    some = lit≤ tt;
    last = refl;
    one_sink = λ n l h. three (λ m. m < 3 → is_sink (node_at ns m).kind ≡ false) (λ low. refl) (λ low. refl) (λ low. absurd (omega arith)) n l (omega arith) h;
    used = λ e l h. three (λ m. m < 3 → (m < user_of ns m) × (user_of ns m ≤ 3)) (λ low. (lit< tt, lit≤ tt)) (λ low. (lit< tt, lit≤ tt)) (λ low. absurd (omega arith)) e l (omega arith) h;
  }

pub fetch_is_plan : (offset count : ℕ) (made : List Node) → offset + count ≤ 2 ^ 64 - 1 → made ≡ fetch_nodes offset count → IsPlan made
fetch_is_plan offset count made within e = subst (λ ns. IsPlan ns) (sym e) (fetch_plans offset count within)
