use Rattle.std.proofs.Common.{◌<◌, arith, inl, [], length, ◌∙◌, ap, subst}
use Rattle.std.specs.Arc.{arc_value}
use Rattle.plan_nodes.specs.Operators.{OpMeaning, first_of}
use Rattle.task_work.proofs.Workers.{row_parts, row_some, row_first, row_locals, row_new, op_is, op_fits, op_shared, op_held, op_gave, op_count}
use Rattle.task_work.proofs.row.close.Goals as goal

pub take_apart-requires-after_bounds : goal.take_apart-requires-after_bounds
take_apart-requires-after_bounds g c κs within = row_parts g.O.Operator.meaning g.O.Operator.local_is g.O.Operator.shared_is c.requires.0 (first_of c.requires.0.inputs) c.requires.1.took c.requires.1.built [] c.args.row.items c.requires.2.1

pub index-first-requires : goal.index-first-requires
index-first-requires g c =
    let s : 0 < length c.in_ok-shares.field-0.shares.items = row_some g.O.Operator.meaning g.O.Operator.local_is g.O.Operator.shared_is c.requires.0 (first_of c.requires.0.inputs) c.requires.1.took c.requires.1.built [] c.args.row.items c.requires.2.1 c.requires.2.2 c.in_ok-shares.field-0.shares.items c.in_ok-shares.ensures.0 in
    omega (arith, c.in_ok-shares.field-0.shares.ok.0)

pub close-requires : goal.close-requires
close-requires g c =
    let h = row_first g.O.Operator.meaning g.O.Operator.local_is g.O.Operator.shared_is c.requires.0 (first_of c.requires.0.inputs) c.requires.1.took c.requires.1.built [] c.args.row.items c.requires.2.1 c.requires.2.2 c.in_ok-shares.field-0.shares.items c.in_ok-shares.ensures.0 c.index-first.result.now c.index-first.ensures in (
      c.requires.0.inputs,
      c.requires.1.built,
      c.requires.2.1.lists,
      op_fits g.O.Operator.meaning g.O.Operator.local_is g.O.Operator.shared_is c.requires.0 c.requires.1.built [] c.index-first.result.now h c.deref.result.now c.deref.ensures,
      op_held g.O.Operator.meaning g.O.Operator.local_is g.O.Operator.shared_is c.requires.0 c.requires.1.built [] c.index-first.result.now h c.deref.result.now c.deref.ensures c.deref-2.result.now c.deref-2.ensures,
      row_locals g.O.Operator.meaning g.O.Operator.local_is g.O.Operator.shared_is c.requires.0 (first_of c.requires.0.inputs) c.requires.1.took c.requires.1.built [] c.args.row.items c.requires.2.1 (g.O.Operator.meaning c.deref.result.now) (op_is g.O.Operator.meaning g.O.Operator.local_is g.O.Operator.shared_is c.requires.0 c.requires.1.built [] c.index-first.result.now h c.deref.result.now c.deref.ensures) c.in_ok-shares.field-0.locals c.in_ok-shares.ensures.1,
    )

pub tails-count-requires : goal.tails-count-requires
tails-count-requires g c =
    let h = row_first g.O.Operator.meaning g.O.Operator.local_is g.O.Operator.shared_is c.requires.0 (first_of c.requires.0.inputs) c.requires.1.took c.requires.1.built [] c.args.row.items c.requires.2.1 c.requires.2.2 c.in_ok-shares.field-0.shares.items c.in_ok-shares.ensures.0 c.index-first.result.now c.index-first.ensures in
    let l = row_locals g.O.Operator.meaning g.O.Operator.local_is g.O.Operator.shared_is c.requires.0 (first_of c.requires.0.inputs) c.requires.1.took c.requires.1.built [] c.args.row.items c.requires.2.1 (g.O.Operator.meaning c.deref.result.now) (op_is g.O.Operator.meaning g.O.Operator.local_is g.O.Operator.shared_is c.requires.0 c.requires.1.built [] c.index-first.result.now h c.deref.result.now c.deref.ensures) c.in_ok-shares.field-0.locals c.in_ok-shares.ensures.1 in
    let got : g.O.Operator.shared_is (g.O.Operator.meaning c.deref.result.now) c.requires.0.inputs c.in_ok-close.field-0 c.requires.1.built c.requires.1.took = subst (λ z. g.O.Operator.shared_is (g.O.Operator.meaning c.deref.result.now) c.requires.0.inputs c.in_ok-close.field-0 c.requires.1.built z) c.requires.2.1.all (c.in_ok-close.ensures (ap (λ (m : OpMeaning). m.shape.streams) (op_is g.O.Operator.meaning g.O.Operator.local_is g.O.Operator.shared_is c.requires.0 c.requires.1.built [] c.index-first.result.now h c.deref.result.now c.deref.ensures) ∙ c.requires.2.3) (ap (λ (m : OpMeaning). m.shape.tails) (op_is g.O.Operator.meaning g.O.Operator.local_is g.O.Operator.shared_is c.requires.0 c.requires.1.built [] c.index-first.result.now h c.deref.result.now c.deref.ensures) ∙ c.requires.2.4) c.requires.0.inputs c.requires.1.built c.requires.2.1.lists (op_fits g.O.Operator.meaning g.O.Operator.local_is g.O.Operator.shared_is c.requires.0 c.requires.1.built [] c.index-first.result.now h c.deref.result.now c.deref.ensures) (op_held g.O.Operator.meaning g.O.Operator.local_is g.O.Operator.shared_is c.requires.0 c.requires.1.built [] c.index-first.result.now h c.deref.result.now c.deref.ensures c.deref-2.result.now c.deref-2.ensures) l) in
    let made = op_gave g.O.Operator.meaning g.O.Operator.local_is g.O.Operator.shared_is c.requires.0 c.requires.1.built [] c.index-first.result.now h c.deref.result.now c.deref.ensures (arc_value c.in_ok-made.made) c.in_ok-close.field-0 c.in_ok-made.ensures.ok c.requires.1.built c.requires.1.took got in (
      c.requires.0.inputs,
      c.requires.1.built,
      c.requires.1.took,
      op_fits g.O.Operator.meaning g.O.Operator.local_is g.O.Operator.shared_is c.requires.0 c.requires.1.built [] c.index-first.result.now h c.deref-3.result.now c.deref-3.ensures,
      op_shared g.O.Operator.meaning g.O.Operator.local_is g.O.Operator.shared_is c.requires.0 c.requires.1.built [] c.index-first.result.now h c.deref-3.result.now c.deref-3.ensures c.deref-4.result.now (arc_value c.in_ok-made.made) c.deref-4.ensures c.requires.1.built c.requires.1.took made,
    )

pub returns : goal.returns
returns g c = λ v t w.
    let h = row_first g.O.Operator.meaning g.O.Operator.local_is g.O.Operator.shared_is v (first_of v.inputs) t.took t.built [] c.args.row.items w.1 w.2 c.in_ok-shares.field-0.shares.items c.in_ok-shares.ensures.0 c.index-first.result.now c.index-first.ensures in
    let l = row_locals g.O.Operator.meaning g.O.Operator.local_is g.O.Operator.shared_is v (first_of v.inputs) t.took t.built [] c.args.row.items w.1 (g.O.Operator.meaning c.deref.result.now) (op_is g.O.Operator.meaning g.O.Operator.local_is g.O.Operator.shared_is v t.built [] c.index-first.result.now h c.deref.result.now c.deref.ensures) c.in_ok-shares.field-0.locals c.in_ok-shares.ensures.1 in
    let got : g.O.Operator.shared_is (g.O.Operator.meaning c.deref.result.now) v.inputs c.in_ok-close.field-0 t.built t.took = subst (λ z. g.O.Operator.shared_is (g.O.Operator.meaning c.deref.result.now) v.inputs c.in_ok-close.field-0 t.built z) w.1.all (c.in_ok-close.ensures (ap (λ (m : OpMeaning). m.shape.streams) (op_is g.O.Operator.meaning g.O.Operator.local_is g.O.Operator.shared_is v t.built [] c.index-first.result.now h c.deref.result.now c.deref.ensures) ∙ w.3) (ap (λ (m : OpMeaning). m.shape.tails) (op_is g.O.Operator.meaning g.O.Operator.local_is g.O.Operator.shared_is v t.built [] c.index-first.result.now h c.deref.result.now c.deref.ensures) ∙ w.4) v.inputs t.built w.1.lists (op_fits g.O.Operator.meaning g.O.Operator.local_is g.O.Operator.shared_is v t.built [] c.index-first.result.now h c.deref.result.now c.deref.ensures) (op_held g.O.Operator.meaning g.O.Operator.local_is g.O.Operator.shared_is v t.built [] c.index-first.result.now h c.deref.result.now c.deref.ensures c.deref-2.result.now c.deref-2.ensures) l) in
    let made = op_gave g.O.Operator.meaning g.O.Operator.local_is g.O.Operator.shared_is v t.built [] c.index-first.result.now h c.deref.result.now c.deref.ensures (arc_value c.in_ok-made.made) c.in_ok-close.field-0 c.in_ok-made.ensures.ok t.built t.took got in (
      w.0,
      row_new g.O.Operator.meaning g.O.Operator.local_is g.O.Operator.shared_is v (first_of v.inputs) t.took t.built [] c.args.row.items w.1 (first_of v.inputs) c.in_ok-shares.field-0.shares.items c.in_ok-shares.ensures.0 c.in_ok-row.row.items (arc_value c.in_ok-made.made) c.in_ok-row.ensures t.built t.took made,
      op_count g.O.Operator.meaning g.O.Operator.local_is g.O.Operator.shared_is v t.built [] c.index-first.result.now h c.deref-3.result.now c.deref-3.ensures c.tails-count.result t.built t.took
          (c.tails-count.ensures (inl (ap (λ (m : OpMeaning). m.shape.tails) (op_is g.O.Operator.meaning g.O.Operator.local_is g.O.Operator.shared_is v t.built [] c.index-first.result.now h c.deref-3.result.now c.deref-3.ensures) ∙ w.4)) v.inputs t.built t.took (op_fits g.O.Operator.meaning g.O.Operator.local_is g.O.Operator.shared_is v t.built [] c.index-first.result.now h c.deref-3.result.now c.deref-3.ensures)
          (op_shared g.O.Operator.meaning g.O.Operator.local_is g.O.Operator.shared_is v t.built [] c.index-first.result.now h c.deref-3.result.now c.deref-3.ensures c.deref-4.result.now (arc_value c.in_ok-made.made) c.deref-4.ensures t.built t.took made)),
    )
