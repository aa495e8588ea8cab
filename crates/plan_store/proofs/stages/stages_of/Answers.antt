use Rattle.std.proofs.Common.{rules, ◌≡◌, ◌<◌, ◌≤◌, ◌+◌, suc, cond, List, [], ◌∷◌, ◌++◌, length, drop, slice_index_or, sym, ap, subst, ◌∙◌, arith}
use Rattle.std.proofs.Math.Seq.{drop-cons}
use Rattle.std.proofs.lemmas.List.{get_or_default, length-append}
use Rattle.plan_machine.specs.Lists.{at_or}
use Rattle.plan_nodes.specs.declared.node.Node.{Node}
use Rattle.plan_nodes.specs.Plans.{tables_of}
use Rattle.plan_store.specs.declared.stage.Stage.{Stage}
use Rattle.plan_store.specs.Told.{rows_of_tables}
use Rattle.plan_store.specs.Openings.{stage_of as stage, next_table}
use Rattle.plan_store.proofs.Tables.{table_here, tables_next, taken_within}
use Rattle.plan_store.proofs.Pushed.{pushed_at}
use Rattle.plan_store.proofs.stages.stages_of.Goals as goal

pub loop-node-preserved : goal.loop-node-preserved
loop-node-preserved c =
    let inv = c.loop-node.invariant in
    let ts = rows_of_tables c.args.sources.now in
    let k = c.loop-node.node-index in
    let v = c.node-item.result in
    let lt : k < length c.args.nodes.now = c.loop-node-test.true in
    let nodes = c.args.nodes.now in
    let is : v ≡ slice_index_or nodes k v = search rules in
    let there : drop k nodes ≡ v ∷ drop (suc k) nodes = drop-cons nodes k v lt ∙ ap (λ w. w ∷ drop (suc k) nodes) (sym is) in
    let table : at_or [] k (tables_of nodes ts) ≡ next_table c.is_source-source.result (drop c.loop-node.taken ts) =
    table_here nodes ts k c.loop-node.taken v (drop (suc k) nodes) there inv.3 ∙ ap (λ b. next_table b (drop c.loop-node.taken ts)) (sym c.is_source-source.ensures) in
    let here : c.stage_of.result ≡ stage v c.args.batch (at_or [] k (tables_of nodes ts)) = c.stage_of.ensures (at_or [] k (tables_of nodes ts)) (ap (λ rs. length rs) table ∙ sym c.row_count-rows.ensures) in
    let pushed : c.push.new.self.items ≡ c.loop-node.made.items ++ c.stage_of.result ∷ [] = c.in_ok-push.ensures.items in
    let one : k + 1 ≡ suc k = omega arith in (
      (let h : length c.loop-node.made.items ≡ k = inv.0 in ap (λ (xs : List Stage). length xs) pushed ∙ (length-append c.loop-node.made.items (c.stage_of.result ∷ []) ∙ ap (λ n. n + 1) h)),
      subst (λ n. n ≤ k + 1) (sym c.taken_behind-taken.ensures) (taken_within c.is_source-source.result c.loop-node.taken k inv.1),
      (λ j d e below. subst (λ (xs : List Stage). slice_index_or xs j d ≡ stage (slice_index_or nodes j e) c.args.batch (at_or [] j (tables_of nodes ts))) (sym pushed)
          (pushed_at (λ i y. (w : Node) → y ≡ stage (slice_index_or nodes i w) c.args.batch (at_or [] i (tables_of nodes ts))) c.loop-node.made.items c.stage_of.result k inv.0
          (λ i f lower w. inv.2 i f w lower)
          (λ w. here ∙ ap (λ u. stage u c.args.batch (at_or [] k (tables_of nodes ts))) (is ∙ get_or_default nodes k v w lt)) j d below e)),
      subst (λ n. drop n (tables_of nodes ts) ≡ tables_of (drop n nodes) (drop c.taken_behind-taken.result ts)) (sym one)
          (tables_next nodes ts k c.loop-node.taken v (drop (suc k) nodes) there inv.3
          ∙ ap (λ n. tables_of (drop (suc k) nodes) (drop n ts)) (ap (λ b. cond b (suc c.loop-node.taken) c.loop-node.taken) (sym c.is_source-source.ensures) ∙ sym c.taken_behind-taken.ensures)),
    )
