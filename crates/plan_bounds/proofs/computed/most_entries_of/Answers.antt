use Rattle.std.proofs.Common.{rules, ◌≡◌, ◌+◌, ◌*◌, ◌^◌, ◌<◌, ◌≤◌, ℕ, suc, cond, List, [], ◌∷◌, ◌++◌, length, drop, slice_index_or, sym, ap, subst, ◌∙◌, arith}
use Rattle.std.proofs.Math.Seq.{drop-cons}
use Rattle.scalar_value.specs.declared.value.Value.{Value}
use Rattle.plan_machine.specs.Lists.{sum_to}
use Rattle.plan_nodes.specs.declared.node.Node.{Node}
use Rattle.plan_nodes.specs.Kinds.{is_source}
use Rattle.plan_bounds.specs.Bounds.{Bound, batches_bound}
use Rattle.plan_bounds.proofs.NodeByNode.{IsSoFar, begun, next-bound, one-more, sums-pass, bound-passes}
use Rattle.plan_bounds.proofs.computed.most_entries_of.Goals as goal

abbrev most_of : List Node → List (List (List Value)) → ℕ → ℕ
most_of nodes tables batch = sum_to (length nodes) (λ n. 10 * batches_bound nodes tables batch n + 8)

pub loop-node-init : goal.loop-node-init
loop-node-init c =
    subst (λ (xs : List Bound). IsSoFar c.args.nodes.now c.args.tables.now c.args.batch 0 0 0 xs)
    (sym (c.in_ok-push.ensures.items ∙ ap (λ (xs : List Bound). xs ++ (record { rows = 0; batches = 0 }) ∷ []) c.new-bounds.ensures.items))
    (begun c.args.nodes.now c.args.tables.now c.args.batch)

pub returns-in_default : goal.returns-in_default
returns-in_default c pace e =
    let inv = c.loop-node.invariant in
    let k = c.loop-node.node-index in
    let nodes = c.args.nodes.now in
    let tables = c.args.tables.now in
    let batch = c.args.batch in
    let v = c.node-item.result in
    let lt : k < length nodes = c.loop-node-test.true in
    let is : v ≡ slice_index_or nodes k v = search rules in
    let there : drop k nodes ≡ v ∷ drop (suc k) nodes = drop-cons nodes k v lt ∙ ap (λ w. w ∷ drop (suc k) nodes) (sym is) in
    let bound = next-bound nodes tables batch c.requires.sorted k c.loop-node.taken c.loop-node.entries c.loop-node.bounds.items v lt there inv c.table_bound-table.result c.deref.result.now c.table_bound-table.ensures c.deref.ensures.value in
    subst (λ (n : ℕ). 2 ^ 64 ≤ most_of nodes tables n) (sym e) (bound-passes nodes tables batch k lt (subst (λ (b : Bound). 2 ^ 64 ≤ b.batches) bound c.in_default.ensures))

pub returns-in_default-entries_with : goal.returns-in_default-entries_with
returns-in_default-entries_with c pace e =
    let inv = c.loop-node.invariant in
    let k = c.loop-node.node-index in
    let nodes = c.args.nodes.now in
    let tables = c.args.tables.now in
    let batch = c.args.batch in
    let v = c.node-item.result in
    let lt : k < length nodes = c.loop-node-test.true in
    let is : v ≡ slice_index_or nodes k v = search rules in
    let there : drop k nodes ≡ v ∷ drop (suc k) nodes = drop-cons nodes k v lt ∙ ap (λ w. w ∷ drop (suc k) nodes) (sym is) in
    let bound = next-bound nodes tables batch c.requires.sorted k c.loop-node.taken c.loop-node.entries c.loop-node.bounds.items v lt there inv c.table_bound-table.result c.deref.result.now c.table_bound-table.ensures c.deref.ensures.value in
    subst (λ (n : ℕ). 2 ^ 64 ≤ most_of nodes tables n) (sym e) (sums-pass nodes tables batch k c.loop-node.entries c.in-Some.bound lt inv.sum (c.in-Some.ensures ∙ bound) c.in_default-entries_with.ensures)

pub loop-node-preserved : goal.loop-node-preserved
loop-node-preserved c =
    let inv = c.loop-node.invariant in
    let k = c.loop-node.node-index in
    let nodes = c.args.nodes.now in
    let tables = c.args.tables.now in
    let batch = c.args.batch in
    let v = c.node-item.result in
    let lt : k < length nodes = c.loop-node-test.true in
    let is : v ≡ slice_index_or nodes k v = search rules in
    let there : drop k nodes ≡ v ∷ drop (suc k) nodes = drop-cons nodes k v lt ∙ ap (λ w. w ∷ drop (suc k) nodes) (sym is) in
    let made = c.in-Some.ensures ∙ next-bound nodes tables batch c.requires.sorted k c.loop-node.taken c.loop-node.entries c.loop-node.bounds.items v lt there inv c.table_bound-table.result c.deref.result.now c.table_bound-table.ensures c.deref.ensures.value in
    let next = one-more nodes tables batch k c.loop-node.taken c.loop-node.entries c.loop-node.bounds.items v c.in-Some.bound c.in-Some-entries_with.more there inv made c.in-Some-entries_with.ensures in
    let one : suc k ≡ k + 1 = omega arith in
    subst (λ (n : ℕ). IsSoFar nodes tables batch n c.taken_behind-taken.result c.in-Some-entries_with.more c.push-in-loop-node.new.self.items) one
    (subst (λ (n : ℕ). IsSoFar nodes tables batch (suc k) n c.in-Some-entries_with.more c.push-in-loop-node.new.self.items) (sym c.taken_behind-taken.ensures)
    (subst (λ (xs : List Bound). IsSoFar nodes tables batch (suc k) (cond (is_source v.kind) (suc c.loop-node.taken) c.loop-node.taken) c.in-Some-entries_with.more xs) (sym c.in_ok-push-2.ensures.items) next))
