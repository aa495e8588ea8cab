use Rattle.std.proofs.Common.{arith, ap, sym, refl, ◌∙◌, ◌+◌, map, drop}
use Rattle.std.proofs.lemmas.List.{length_push}
use Rattle.csv.specs.Records.{fields_of}
use Rattle.csv.proofs.RecordFacts.{field-there, text-of}
use Rattle.row_table.specs.declared.field.Field.{Field}
use Rattle.csv_source.specs.Typed.{column_at, columns_of}
use Rattle.csv_source.proofs.Each.{after-nil, drop-field, goes_on, stops, take-field}
use Rattle.csv_source.proofs.Columns.{column_none, column_there, column_twice, differ-push, name-column, name-push}
use Rattle.csv_source.proofs.header.read_header.Goals as goal

pub loop-place-init : goal.loop-place-init
unfolding columns_of
loop-place-init c = rw c.in_ok-columns.ensures.items (record { value = after-nil _; count = refl; names = refl; differ = refl })

pub unreachable-requires : goal.unreachable-requires
unreachable-requires c = field-there (fields_of c.args.header.now) c.loop-place.place (omega (arith, c.len-place-end.ensures)) (sym c.in_default.ensures.value)

pub column_of-requires : goal.column_of-requires
column_of-requires c = text-of (fields_of c.args.header.now) c.loop-place.place c.in-Some.field.now c.requires.text (sym c.in-Some.ensures.value)

pub returns-in_default-2-clause-value : goal.returns-in_default-2-clause-value
returns-in_default-2-clause-value c =
    let header = fields_of c.args.header.now in
    let here = rw (drop-field header c.loop-place.place c.in-Some.field.now (sym c.in-Some.ensures.value)) at c.loop-place.invariant.value in
    let none = column_none header (c.loop-place.place + 1) c.in-Some.field.now (sym c.in_ok-column.ensures ∙ c.in_default-2.is) in
    rw c.at.ensures (sym here ∙ stops (column_at header) (c.loop-place.place + 1) c.in-Some.field.now _ _ _ none)

pub returns-then-is_named-clause-value : goal.returns-then-is_named-clause-value
returns-then-is_named-clause-value c =
    let header = fields_of c.args.header.now in
    let here = rw (drop-field header c.loop-place.place c.in-Some.field.now (sym c.in-Some.ensures.value)) at c.loop-place.invariant.value in
    let named = rw (c.as_str.ensures.value, c.as_slice.ensures.value) at (sym c.is_named.ensures ∙ c.if-is_named.true) in
    let twice = column_twice header c.loop-place.place c.in-Some.field.now c.in-Some-2.column (map (λ (f : Field). f.name) c.loop-place.columns.items) (sym c.in_ok-column.ensures ∙ c.in-Some-2.is) c.loop-place.invariant.names named in
    rw c.at-then-is_named.ensures (sym here ∙ stops (column_at header) (c.loop-place.place + 1) c.in-Some.field.now _ _ _ twice)

pub loop-place-preserved : goal.loop-place-preserved
loop-place-preserved c =
    let header = fields_of c.args.header.now in
    let place = c.loop-place.place in
    let column = c.in-Some-2.column in
    let at_place = sym c.in-Some.ensures.value in
    let given = sym c.in_ok-column.ensures ∙ c.in-Some-2.is in
    let here = rw (drop-field header place c.in-Some.field.now at_place) at c.loop-place.invariant.value in
    let other = rw (c.as_str.ensures.value, c.as_slice.ensures.value) at (sym c.is_named.ensures ∙ c.if-is_named.false) in
    let there = column_there header place c.in-Some.field.now column (map (λ (f : Field). f.name) c.loop-place.columns.items) given c.loop-place.invariant.names other in
    rw c.in_ok-push.ensures.items (record {
      value = goes_on (column_at header) (place + 1) c.in-Some.field.now (drop (place + 1) header) c.loop-place.columns.items column there ∙ here;
      count = length_push c.loop-place.columns.items column ∙ ap (λ n. n + 1) c.loop-place.invariant.count;
      names = name-push header c.loop-place.columns.items column place c.in-Some.field.now c.loop-place.invariant.names (name-column c.in-Some.field.now column given) (take-field header place c.in-Some.field.now at_place);
      differ = differ-push c.loop-place.columns.items column c.loop-place.invariant.differ other;
    })
