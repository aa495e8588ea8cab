use Rattle.std.proofs.Common.{arith, ap, sym, ◌∙◌, ◌+◌, drop, length, ◌≡◌, Ok}
use Rattle.std.specs.List.{zip}
use Rattle.std.proofs.lemmas.Bool.{ne_eqb}
use Rattle.csv.specs.Records.{fields_of}
use Rattle.csv.proofs.RecordFacts.{field-there, text-of}
use Rattle.csv_source.specs.Typed.{row_at, value_at}
use Rattle.csv_source.proofs.Each.{after-nil, ended, goes_on, stops}
use Rattle.csv_source.proofs.Rows.{cell_none, cell_there, drop-cell_at, even_row, ragged_row, row_fits, zip-drop_all}
use Rattle.csv_source.proofs.row.read_row.Goals as goal

pub returns-then-len-columns-clause-value : goal.returns-then-len-columns-clause-value
returns-then-len-columns-clause-value c =
    let texts = fields_of c.args.fields.now in
    let columns = c.args.columns.now in
    let uneven = c.if-len-columns.true in
    let counted = c.len.ensures in
    rw c.at.ensures (ragged_row columns c.args.number texts (ne_eqb (length texts) (length columns) (λ e. omega arith)))

pub loop-place-init : goal.loop-place-init
loop-place-init c =
    let passed = c.if-len-columns.false in
    let counted = c.len.ensures in
    let even = even_row c.args.columns.now c.args.number (fields_of c.args.fields.now) (omega arith) in
    rw c.in_ok-values.ensures.items (after-nil _ ∙ sym even)

pub unreachable-requires : goal.unreachable-requires
unreachable-requires c = field-there (fields_of c.args.fields.now) c.loop-place.place (omega (arith, c.len.ensures)) (sym c.in_default.ensures.value)

pub read_value-requires : goal.read_value-requires
read_value-requires c = text-of (fields_of c.args.fields.now) c.loop-place.place c.in-Some.field.now c.requires.text (sym c.in-Some.ensures.value)

pub returns-in_default-2-clause-value : goal.returns-in_default-2-clause-value
returns-in_default-2-clause-value c =
    let cells = zip c.args.columns.now (fields_of c.args.fields.now) in
    let place = c.loop-place.place in
    let column = c.index-columns-place.result in
    let here = rw (drop-cell_at c.args.columns.now (fields_of c.args.fields.now) place column c.in-Some.field.now c.loop-place-test.true c.index-columns-place.is (sym c.in-Some.ensures.value)) at c.loop-place.invariant in
    let none = cell_none c.args.number (place + 1) column c.in-Some.field.now (sym c.in_ok-value.ensures ∙ c.in_default-2.is) in
    rw c.at-in_default-2.ensures (sym here ∙ stops (value_at c.args.number) (place + 1) (column, c.in-Some.field.now) (drop (place + 1) cells) c.loop-place.values.items _ none)

pub loop-place-preserved : goal.loop-place-preserved
loop-place-preserved c =
    let cells = zip c.args.columns.now (fields_of c.args.fields.now) in
    let place = c.loop-place.place in
    let column = c.index-columns-place.result in
    let here = rw (drop-cell_at c.args.columns.now (fields_of c.args.fields.now) place column c.in-Some.field.now c.loop-place-test.true c.index-columns-place.is (sym c.in-Some.ensures.value)) at c.loop-place.invariant in
    let there = cell_there c.args.number (place + 1) column c.in-Some.field.now c.in-Some-2.value (sym c.in_ok-value.ensures ∙ c.in-Some-2.is) in
    rw c.in_ok-push.ensures.items (goes_on (value_at c.args.number) (place + 1) (column, c.in-Some.field.now) (drop (place + 1) cells) c.loop-place.values.items c.in-Some-2.value there ∙ here)

row_is : (c : goal.After-of) → row_at c.args.columns.now c.args.number (fields_of c.args.fields.now) ≡ Ok c.loop-place.values.items
row_is c =
    let all : c.loop-place.place ≡ length c.args.columns.now = omega arith in
    let rest = ap (λ k. drop k (zip c.args.columns.now (fields_of c.args.fields.now))) all ∙ zip-drop_all c.args.columns.now (fields_of c.args.fields.now) in
    sym c.loop-place.invariant ∙ ended (value_at c.args.number) (c.loop-place.place + 1) _ c.loop-place.values.items rest

pub returns-clause-value : goal.returns-clause-value
returns-clause-value c = rw c.of.ensures (row_is c)

pub returns-clause-fits : goal.returns-clause-fits
returns-clause-fits c = rw c.of.ensures (row_fits c.args.number c.args.columns.now (fields_of c.args.fields.now) c.loop-place.values.items (row_is c))
