use Rattle.std.proofs.Common.{rules, ◌≡◌, ◌<◌, ◌+◌, ℕ, suc, true, false, not, cond, [], ◌∷◌, ◌++◌, length, map, drop, slice_index_or, sym, ap, subst, ◌∙◌, arith}
use Rattle.std.proofs.Math.Seq.{drop-cons}
use Rattle.std.proofs.lemmas.List.{length-append, map-append, length-map}
use Rattle.std.specs.declared.alloc.Global.{Global}
use Rattle.std.specs.declared.sync.Arc.{Arc}
use Rattle.std.specs.Arc.{arc_value}
use Rattle.row_table.specs.Tables.{TableValue}
use Rattle.plan_nodes.specs.Kinds.{is_source as source}
use Rattle.plan_nodes.specs.Plans.{IsSourceTable, node_at, meaning_at, tables_of}
use Rattle.plan_nodes.specs.Operators.{Each}
use Rattle.plan_store.specs.Told.{rows_of_tables}
use Rattle.plan_store.specs.Beginning.{numbers_of}
use Rattle.plan_store.specs.Shares.{RowOpens}
use Rattle.plan_store.proofs.Pushed.{pushed_at}
use Rattle.plan_store.proofs.RowsBegin.{row_opens, each_next, other_rows, tables_left}
use Rattle.plan_store.proofs.shares.rows_of.Goals as goal

pub loop-node-preserved : goal.loop-node-preserved
loop-node-preserved g c =
    let inv = c.loop-node.invariant in
    let k = c.loop-node.node-index in
    let nodes = c.args.nodes.now in
    let ts = rows_of_tables c.args.sources.now in
    let v = c.node-item.result in
    let vs = drop (suc k) nodes in
    let lt : k < length nodes = c.loop-node-test.true in
    let is : v ≡ slice_index_or nodes k v = search rules in
    let there : drop k nodes ≡ v ∷ vs = drop-cons nodes k v lt ∙ ap (λ w. w ∷ vs) (sym is) in
    let flag : c.is_source-source.result ≡ source v.kind = c.is_source-source.ensures in
    let one : k + 1 ≡ suc k = omega arith in
    let M = g.O.Operator.meaning in
    let L = g.O.Operator.local_is in
    let H = g.O.Operator.shared_is in
    let xs = c.loop-node.sources.now in
    let ys = c.loop-node.ops.now in
    let batch = c.args.setting.batch in
    let workers = c.args.setting.workers in
    let row = c.in_ok-row_of.field-0.items in
    let here : RowOpens M L H nodes ts batch workers (suc k) row =
    row_opens M L H nodes ts batch workers k v vs xs ys row there inv.2 inv.3 inv.4 c.in_ok-row_of.ensures.size
    (λ e. c.in_ok-row_of.ensures.source (flag ∙ e)) (λ e. c.in_ok-row_of.ensures.other (flag ∙ e)) in
    let pushed : map (λ r. r.items) c.push.new.self.items ≡ map (λ r. r.items) c.loop-node.made.items ++ row ∷ [] =
    ap (λ rs. map (λ r. r.items) rs) c.in_ok-push.ensures.items ∙ map-append (λ r. r.items) c.loop-node.made.items (c.in_ok-row_of.field-0 ∷ []) in
    let long : length (map (λ r. r.items) c.loop-node.made.items) ≡ k = length-map c.loop-node.made.items (λ r. r.items) ∙ inv.0 in
    let tables = subst (λ ns. Each {A = Arc TableValue Global} {B = ℕ} (λ t n. IsSourceTable (node_at nodes n) (arc_value t)) xs (numbers_of true (suc k) ns)) there inv.3 in
    let ops = subst (λ ns. Each {A = Arc g.row.O.Denot Global} {B = ℕ} (λ op n. M (arc_value op) ≡ meaning_at nodes batch n) ys (numbers_of false (suc k) ns)) there inv.4 in (
      ap (λ rs. length rs) c.in_ok-push.ensures.items ∙ (length-append c.loop-node.made.items (c.in_ok-row_of.field-0 ∷ []) ∙ ap (λ n. n + 1) inv.0),
      λ j d below. subst (λ rs. RowOpens M L H nodes ts batch workers (suc j) (slice_index_or rs j d)) (sym pushed)
          (pushed_at (λ i r. RowOpens M L H nodes ts batch workers (suc i) r) (map (λ r. r.items) c.loop-node.made.items) row k long (λ i f lower. inv.1 i f lower) here j d below),
      subst (λ n. drop n (tables_of nodes ts) ≡ tables_of (drop n nodes) (rows_of_tables c.rest_where-sources.result.now)) (sym one)
          (tables_left nodes ts (rows_of_tables xs) k v vs there inv.2
          ∙ (ap (λ us. tables_of vs us) (other_rows (source v.kind) xs)
          ∙ ap (λ zs. tables_of vs (rows_of_tables zs)) (ap (λ b. cond b (drop 1 xs) xs) (sym flag) ∙ sym c.rest_where-sources.ensures))),
      subst (λ n. Each {A = Arc TableValue Global} {B = ℕ} (λ t m. IsSourceTable (node_at nodes m) (arc_value t)) c.rest_where-sources.result.now (numbers_of true (suc n) (drop n nodes))) (sym one)
          (subst (λ zs. Each {A = Arc TableValue Global} {B = ℕ} (λ t m. IsSourceTable (node_at nodes m) (arc_value t)) zs (numbers_of true (suc (suc k)) vs)) (ap (λ b. cond b (drop 1 xs) xs) (sym flag) ∙ sym c.rest_where-sources.ensures)
          (each_next (λ t m. IsSourceTable (node_at nodes m) (arc_value t)) (source v.kind) (suc k) (numbers_of true (suc (suc k)) vs) xs tables)),
      subst (λ n. Each {A = Arc g.row.O.Denot Global} {B = ℕ} (λ op m. M (arc_value op) ≡ meaning_at nodes batch m) c.rest_where-ops.result.now (numbers_of false (suc n) (drop n nodes))) (sym one)
          (subst (λ zs. Each {A = Arc g.row.O.Denot Global} {B = ℕ} (λ op m. M (arc_value op) ≡ meaning_at nodes batch m) zs (numbers_of false (suc (suc k)) vs)) (ap (λ b. cond (not b) (drop 1 ys) ys) (sym flag) ∙ sym c.rest_where-ops.ensures)
          (each_next (λ op m. M (arc_value op) ≡ meaning_at nodes batch m) (not (source v.kind)) (suc k) (numbers_of false (suc (suc k)) vs) ys ops)),
    )

pub returns : goal.returns
returns g c =
    let inv = c.loop-node.invariant in
    let all : length c.args.nodes.now ≡ c.loop-node.node-index = (let le = c.loop-node.auto.node-index-end in let ge = c.loop-node-test.false in omega arith) in
    record {
      size = length-map c.loop-node.made.items (λ r. r.items) ∙ (inv.0 ∙ sym all);
      each = λ k d lt. inv.1 k d (subst (λ n. k < n) all lt);
    }
