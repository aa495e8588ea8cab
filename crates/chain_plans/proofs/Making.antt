-- The nodes of a chain, as they are made.
use Rattle.std.proofs.Common.{◌≡◌, ℕ, zero, suc, List, [], ◌∷◌, ◌++◌, length, refl, ap, ◌∙◌, arith, slice_index_or}
use Rattle.std.proofs.lemmas.List.{length-append, append_assoc}
use Rattle.row_table.specs.declared.table.Mark.{Mark}
use Rattle.chain_plans.specs.declared.nodes.Step.{Step}
use Rattle.chain_plans.specs.Chains.{nodes_behind}
use Rattle.row_table.specs.declared.field.Field.{Field}
use Rattle.plan_nodes.specs.declared.node.Node.{Node}

-- the columns of the last node
abbrev pub last_columns : List Node → List Field
last_columns [] = []
last_columns (v ∷ []) = v.schema
last_columns (v ∷ w ∷ vs) = last_columns (w ∷ vs)

pub last_of_more : (vs : List Node) (v : Node) → last_columns (vs ++ v ∷ []) ≡ v.schema
last_of_more [] v = refl
last_of_more (u ∷ []) v = refl
last_of_more (u ∷ w ∷ vs) v = last_of_more (w ∷ vs) v

-- one node more
pub step_made : (mark : Mark) (target xs ys : List Node) (s : Step) (steps : List Step) (v : Node)
    → ys ≡ xs ++ v ∷ []
    → v ≡ record { kind = s.kind; inputs = length xs ∷ []; mark = mark; schema = s.schema }
    → xs ++ nodes_behind mark (length xs) (last_columns xs) (s ∷ steps) ≡ target
    → ys ++ nodes_behind mark (length ys) (last_columns ys) steps ≡ target
step_made mark target xs ys s steps v more is whole =
    let long : length ys ≡ suc (length xs) = let a = length-append xs (v ∷ []) in ap length more ∙ omega arith in
    let last : last_columns ys ≡ s.schema = ap last_columns more ∙ (last_of_more xs v ∙ ap (λ (x : Node). x.schema) is) in
    ap (λ n. ys ++ nodes_behind mark n (last_columns ys) steps) long
    ∙ (ap (λ f. ys ++ nodes_behind mark (suc (length xs)) f steps) last
    ∙ (ap (λ zs. zs ++ nodes_behind mark (suc (length xs)) s.schema steps) more
    ∙ (append_assoc xs (v ∷ []) (nodes_behind mark (suc (length xs)) s.schema steps)
    ∙ (ap (λ x. xs ++ x ∷ nodes_behind mark (suc (length xs)) s.schema steps) is ∙ whole))))

-- what stands at the last place is the last node
pub last_at : (xs : List Node) (k : ℕ) (d : Node) → suc k ≡ length xs → (slice_index_or xs k d).schema ≡ last_columns xs
last_at [] k d e = absurd (omega arith)
last_at (v ∷ []) zero d e = refl
last_at (v ∷ []) (suc k) d e = absurd (omega arith)
last_at (v ∷ w ∷ vs) zero d e = absurd (omega arith)
last_at (v ∷ w ∷ vs) (suc k) d e = last_at (w ∷ vs) k d (omega arith)

pub none_left : {A : Type 0} (xs : List A) → length xs ≡ 0 → xs ≡ []
none_left [] e = refl
none_left (x ∷ xs) e = absurd (omega arith)
