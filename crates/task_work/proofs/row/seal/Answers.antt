use Rattle.std.proofs.Common.{◌<◌, arith, [], length, refl, ◌∙◌, ap, subst}
use Rattle.std.specs.Arc.{arc_value}
use Rattle.plan_machine.specs.Batch.{gathered}
use Rattle.plan_nodes.specs.Operators.{OpMeaning, first_of, folded_of}
use Rattle.task_work.proofs.Workers.{row_parts, row_some, row_first, row_at, row_new, op_is, op_fits, op_shared, op_gave, op_count}
use Rattle.task_work.proofs.row.seal.Goals as goal

pub take_apart-requires-after_bounds : goal.take_apart-requires-after_bounds
take_apart-requires-after_bounds g c κs within = row_parts g.O.Operator.meaning g.O.Operator.local_is g.O.Operator.shared_is c.requires.0 (folded_of c.requires.0.meaning c.requires.0.inputs) c.requires.1.took c.requires.1.built [] c.args.row.items c.requires.2.1

pub index-first-requires : goal.index-first-requires
index-first-requires g c =
    let s : 0 < length c.in_ok-shares.field-0.shares.items = row_some g.O.Operator.meaning g.O.Operator.local_is g.O.Operator.shared_is c.requires.0 (folded_of c.requires.0.meaning c.requires.0.inputs) c.requires.1.took c.requires.1.built [] c.args.row.items c.requires.2.1 c.requires.2.2 c.in_ok-shares.field-0.shares.items c.in_ok-shares.ensures.0 in
    omega (arith, c.in_ok-shares.field-0.shares.ok.0)

pub seal-requires : goal.seal-requires
seal-requires g c =
    let h = row_first g.O.Operator.meaning g.O.Operator.local_is g.O.Operator.shared_is c.requires.0 (folded_of c.requires.0.meaning c.requires.0.inputs) c.requires.1.took c.requires.1.built [] c.args.row.items c.requires.2.1 c.requires.2.2 c.in_ok-shares.field-0.shares.items c.in_ok-shares.ensures.0 c.index-first.result.now c.index-first.ensures in (
      c.requires.0.inputs,
      c.requires.2.1.lists,
      op_fits g.O.Operator.meaning g.O.Operator.local_is g.O.Operator.shared_is c.requires.0 c.requires.1.built [] c.index-first.result.now h c.deref.result.now c.deref.ensures,
      row_at g.O.Operator.meaning g.O.Operator.local_is g.O.Operator.shared_is c.requires.0 (folded_of c.requires.0.meaning c.requires.0.inputs) c.requires.1.took c.requires.1.built [] c.args.row.items c.requires.2.1 (λ m. folded_of m c.requires.0.inputs) refl (g.O.Operator.meaning c.deref.result.now) (op_is g.O.Operator.meaning g.O.Operator.local_is g.O.Operator.shared_is c.requires.0 c.requires.1.built [] c.index-first.result.now h c.deref.result.now c.deref.ensures) c.in_ok-shares.field-0.locals c.in_ok-shares.ensures.1,
    )

pub count_of-count-requires-clause-folds : goal.count_of-count-requires-clause-folds
count_of-count-requires-clause-folds g c κs within =
    let h = row_first g.O.Operator.meaning g.O.Operator.local_is g.O.Operator.shared_is c.requires.0 (folded_of c.requires.0.meaning c.requires.0.inputs) c.requires.1.took c.requires.1.built [] c.args.row.items c.requires.2.1 c.requires.2.2 c.in_ok-shares.field-0.shares.items c.in_ok-shares.ensures.0 c.index-first.result.now c.index-first.ensures in
    ap (λ (m : OpMeaning). m.shape.folds) (op_is g.O.Operator.meaning g.O.Operator.local_is g.O.Operator.shared_is c.requires.0 c.requires.1.built [] c.index-first.result.now h c.deref-2.result.now c.deref-2.ensures) ∙ c.requires.2.3

pub count_of-count-requires-clause-stands : goal.count_of-count-requires-clause-stands
count_of-count-requires-clause-stands g c κs within =
    let h = row_first g.O.Operator.meaning g.O.Operator.local_is g.O.Operator.shared_is c.requires.0 (folded_of c.requires.0.meaning c.requires.0.inputs) c.requires.1.took c.requires.1.built [] c.args.row.items c.requires.2.1 c.requires.2.2 c.in_ok-shares.field-0.shares.items c.in_ok-shares.ensures.0 c.index-first.result.now c.index-first.ensures in
    let l = row_at g.O.Operator.meaning g.O.Operator.local_is g.O.Operator.shared_is c.requires.0 (folded_of c.requires.0.meaning c.requires.0.inputs) c.requires.1.took c.requires.1.built [] c.args.row.items c.requires.2.1 (λ m. folded_of m c.requires.0.inputs) refl (g.O.Operator.meaning c.deref.result.now) (op_is g.O.Operator.meaning g.O.Operator.local_is g.O.Operator.shared_is c.requires.0 c.requires.1.built [] c.index-first.result.now h c.deref.result.now c.deref.ensures) c.in_ok-shares.field-0.locals c.in_ok-shares.ensures.1 in
    let got : g.O.Operator.shared_is (g.O.Operator.meaning c.deref.result.now) c.requires.0.inputs c.in_ok-seal.field-0 (gathered c.requires.1.took) [] = subst (λ z. g.O.Operator.shared_is (g.O.Operator.meaning c.deref.result.now) c.requires.0.inputs c.in_ok-seal.field-0 (gathered z) []) c.requires.2.1.all (c.in_ok-seal.ensures (ap (λ (m : OpMeaning). m.shape.folds) (op_is g.O.Operator.meaning g.O.Operator.local_is g.O.Operator.shared_is c.requires.0 c.requires.1.built [] c.index-first.result.now h c.deref.result.now c.deref.ensures) ∙ c.requires.2.3) c.requires.0.inputs c.requires.2.1.lists (op_fits g.O.Operator.meaning g.O.Operator.local_is g.O.Operator.shared_is c.requires.0 c.requires.1.built [] c.index-first.result.now h c.deref.result.now c.deref.ensures) l) in
    let made = op_gave g.O.Operator.meaning g.O.Operator.local_is g.O.Operator.shared_is c.requires.0 c.requires.1.built [] c.index-first.result.now h c.deref.result.now c.deref.ensures (arc_value c.in_ok-made.made) c.in_ok-seal.field-0 c.in_ok-made.ensures.ok (gathered c.requires.1.took) [] got in (
      c.requires.0.inputs,
      gathered c.requires.1.took,
      op_fits g.O.Operator.meaning g.O.Operator.local_is g.O.Operator.shared_is c.requires.0 c.requires.1.built [] c.index-first.result.now h c.deref-2.result.now c.deref-2.ensures,
      op_shared g.O.Operator.meaning g.O.Operator.local_is g.O.Operator.shared_is c.requires.0 c.requires.1.built [] c.index-first.result.now h c.deref-2.result.now c.deref-2.ensures c.deref-3.result.now (arc_value c.in_ok-made.made) c.deref-3.ensures (gathered c.requires.1.took) [] made,
    )

pub returns : goal.returns
returns g c = λ v t w.
    let h = row_first g.O.Operator.meaning g.O.Operator.local_is g.O.Operator.shared_is v (folded_of v.meaning v.inputs) t.took t.built [] c.args.row.items w.1 w.2 c.in_ok-shares.field-0.shares.items c.in_ok-shares.ensures.0 c.index-first.result.now c.index-first.ensures in
    let l = row_at g.O.Operator.meaning g.O.Operator.local_is g.O.Operator.shared_is v (folded_of v.meaning v.inputs) t.took t.built [] c.args.row.items w.1 (λ m. folded_of m v.inputs) refl (g.O.Operator.meaning c.deref.result.now) (op_is g.O.Operator.meaning g.O.Operator.local_is g.O.Operator.shared_is v t.built [] c.index-first.result.now h c.deref.result.now c.deref.ensures) c.in_ok-shares.field-0.locals c.in_ok-shares.ensures.1 in
    let got : g.O.Operator.shared_is (g.O.Operator.meaning c.deref.result.now) v.inputs c.in_ok-seal.field-0 (gathered t.took) [] = subst (λ z. g.O.Operator.shared_is (g.O.Operator.meaning c.deref.result.now) v.inputs c.in_ok-seal.field-0 (gathered z) []) w.1.all (c.in_ok-seal.ensures (ap (λ (m : OpMeaning). m.shape.folds) (op_is g.O.Operator.meaning g.O.Operator.local_is g.O.Operator.shared_is v t.built [] c.index-first.result.now h c.deref.result.now c.deref.ensures) ∙ w.3) v.inputs w.1.lists (op_fits g.O.Operator.meaning g.O.Operator.local_is g.O.Operator.shared_is v t.built [] c.index-first.result.now h c.deref.result.now c.deref.ensures) l) in
    let made = op_gave g.O.Operator.meaning g.O.Operator.local_is g.O.Operator.shared_is v t.built [] c.index-first.result.now h c.deref.result.now c.deref.ensures (arc_value c.in_ok-made.made) c.in_ok-seal.field-0 c.in_ok-made.ensures.ok (gathered t.took) [] got in (
      w.0,
      row_new g.O.Operator.meaning g.O.Operator.local_is g.O.Operator.shared_is v (folded_of v.meaning v.inputs) t.took t.built [] c.args.row.items w.1 (first_of v.inputs) c.in_ok-shares.field-0.shares.items c.in_ok-shares.ensures.0 c.in_ok-row.row.items (arc_value c.in_ok-made.made) c.in_ok-row.ensures (gathered t.took) [] made,
      λ flat. op_count g.O.Operator.meaning g.O.Operator.local_is g.O.Operator.shared_is v t.built [] c.index-first.result.now h c.deref-2.result.now c.deref-2.ensures c.count_of-count.result (gathered t.took) []
          (c.count_of-count.ensures v.inputs (gathered t.took) (op_fits g.O.Operator.meaning g.O.Operator.local_is g.O.Operator.shared_is v t.built [] c.index-first.result.now h c.deref-2.result.now c.deref-2.ensures)
          (op_shared g.O.Operator.meaning g.O.Operator.local_is g.O.Operator.shared_is v t.built [] c.index-first.result.now h c.deref-2.result.now c.deref-2.ensures c.deref-3.result.now (arc_value c.in_ok-made.made) c.deref-3.ensures (gathered t.took) [] made)
          (ap (λ (m : OpMeaning). m.shape.streams) (op_is g.O.Operator.meaning g.O.Operator.local_is g.O.Operator.shared_is v t.built [] c.index-first.result.now h c.deref-2.result.now c.deref-2.ensures) ∙ flat)),
    )
