use Rattle.std.proofs.Common.{◌≡◌, ℕ, [], List, false, get_or, set, sym, ◌∙◌, ap, arith, add-one}
use Rattle.std.specs.Prelude.{max}
use Rattle.csv.specs.Records.{fields_of}
use Rattle.scalar_fns.specs.Texts.{char_count}
use Rattle.table_print.specs.declared.column.Column.{Column}
use Rattle.table_print.proofs.Columns.{wider, widened_front, front-step, front-all}
use Rattle.table_print.proofs.column.widen.Goals as goal

pub loop-place-preserved : goal.loop-place-preserved
loop-place-preserved c =
    let texts = fields_of c.args.line.now in
    let k = c.loop-place.place in
    let none : Column = record { right = false; width = 0 } in
    let was = get_or c.loop-place.columns k none in
    let width : c.max-width.result ≡ max was.width (char_count (get_or texts k [])) =
    c.max-width.ensures ∙ ap (λ (n : ℕ). max was.width n) (c.chars.ensures ∙ ap char_count c.cell_at.ensures) in
    ap (λ (n : ℕ). set c.loop-place.columns k (record { right = was.right; width = n })) width
    ∙ ap (λ (cs : List Column). set cs k (wider (get_or cs k none) (get_or texts k []))) c.loop-place.invariant
    ∙ front-step c.args.columns.now texts k none c.loop-place-test.true c.requires
    ∙ ap (λ (n : ℕ). widened_front n c.args.columns.now texts) (sym (add-one k))

pub returns : goal.returns
returns c = c.loop-place.invariant ∙ front-all c.args.columns.now (fields_of c.args.line.now) c.loop-place.place (omega arith) c.requires
