use Rattle.std.proofs.Common.{ap, arith, refl, ◌∙◌, []}
use Rattle.csv.specs.Machine.{next_record}
use Rattle.csv.specs.Reading.{default_config, strip_bom}
use Rattle.csv.specs.Records.{fields_of}
use Rattle.csv.specs.declared.parser.State.TheVariants as st
use Rattle.csv_source.proofs.Each.{after-nil}
use Rattle.csv_source.proofs.NextRecords.{at_start, next_behind, next_textual, none_shown, rest_records, some_shown, unmarked}
use Rattle.csv_source.proofs.Tables.{finished, fit-push, header_refused, header_there, many_columns, no_header, row_here, row_more, row_refused, rows_end}
use Rattle.csv_source.proofs.table.read_records.Goals as goal

pub returns-then-not-branch : goal.returns-then-not-branch
returns-then-not-branch c =
    let xs = strip_bom c.args.text.now in
    let shown = c.in_ok-read_next.ensures st.StartRecord xs c.reader_of-reader.ensures in
    let none = none_shown (next_record default_config st.StartRecord [] [] xs) c.read_next.new.reader c.in_ok-read_next.field-0 (fields_of c.read_next.new.fields) shown c.if-not-branch.true in
    rw c.at.ensures (no_header xs none)

pub returns-then-len-gt-COLUMN_LIMIT : goal.returns-then-len-gt-COLUMN_LIMIT
returns-then-len-gt-COLUMN_LIMIT c =
    let xs = strip_bom c.args.text.now in
    let shown = c.in_ok-read_next.ensures st.StartRecord xs c.reader_of-reader.ensures in
    let first = some_shown (next_record default_config st.StartRecord [] [] xs) c.read_next.new.reader c.in_ok-read_next.field-0 (fields_of c.read_next.new.fields) shown c.if-not-branch.false in
    let many = c.if-len-gt-COLUMN_LIMIT.true in
    let counted = c.len.ensures in
    rw c.at-then-len-gt-COLUMN_LIMIT.ensures (many_columns xs first.0 (fields_of c.read_next.new.fields) first.1 first.2 (omega arith))

pub read_header-requires-clause-text : goal.read_header-requires-clause-text
read_header-requires-clause-text c =
    let xs = strip_bom c.args.text.now in
    let shown = c.in_ok-read_next.ensures st.StartRecord xs c.reader_of-reader.ensures in
    let first = some_shown (next_record default_config st.StartRecord [] [] xs) c.read_next.new.reader c.in_ok-read_next.field-0 (fields_of c.read_next.new.fields) shown c.if-not-branch.false in
    rw first.2 (next_textual xs st.StartRecord first.0 at_start (unmarked c.args.text.now c.requires) first.1).fields

pub returns-in-Err : goal.returns-in-Err
returns-in-Err c =
    let xs = strip_bom c.args.text.now in
    let shown = c.in_ok-read_next.ensures st.StartRecord xs c.reader_of-reader.ensures in
    let first = some_shown (next_record default_config st.StartRecord [] [] xs) c.read_next.new.reader c.in_ok-read_next.field-0 (fields_of c.read_next.new.fields) shown c.if-not-branch.false in
    let counted = c.len.ensures in
    header_refused xs first.0 (fields_of c.read_next.new.fields) c.in-Err.refusal first.1 first.2 (omega arith) c.in-Err.ensures.value

pub loop-number-init : goal.loop-number-init
loop-number-init c =
    let xs = strip_bom c.args.text.now in
    let shown = c.in_ok-read_next.ensures st.StartRecord xs c.reader_of-reader.ensures in
    let first = some_shown (next_record default_config st.StartRecord [] [] xs) c.read_next.new.reader c.in_ok-read_next.field-0 (fields_of c.read_next.new.fields) shown c.if-not-branch.false in
    let counted = c.len.ensures in
    rw c.new-rows.ensures.items (record {
      few = c.in-Ok.ensures.few;
      differ = c.in-Ok.ensures.differ;
      fit = refl;
      state = first.0.1;
      left = first.0.2;
      at_left = first.3;
      between = (next_behind xs st.StartRecord first.0 at_start first.1).0;
      text = (next_textual xs st.StartRecord first.0 at_start (unmarked c.args.text.now c.requires) first.1).rest;
      value = ap (finished c.in-Ok.schema) (after-nil _) ∙ header_there xs first.0 (fields_of c.read_next.new.fields) c.in-Ok.schema first.1 first.2 (omega arith) c.in-Ok.ensures.value;
    })

pub returns-then-not-branch-2 : goal.returns-then-not-branch-2
returns-then-not-branch-2 c =
    let inv = c.loop-number.invariant in
    let shown = c.in_ok-read_next-2.ensures inv.state inv.left inv.at_left in
    let none = none_shown (next_record default_config inv.state [] [] inv.left) c.read_next-in-loop-number.new.reader c.in_ok-read_next-2.field-0 (fields_of c.read_next-in-loop-number.new.fields) shown c.if-not-branch-2.true in
    rw (c.new.ensures, c.of.ensures) (rows_end c.loop-number.schema c.loop-number.rows.items c.loop-number.number inv.state inv.left _ none inv.value)

pub read_row-requires-clause-text : goal.read_row-requires-clause-text
read_row-requires-clause-text c =
    let inv = c.loop-number.invariant in
    let shown = c.in_ok-read_next-2.ensures inv.state inv.left inv.at_left in
    let next = some_shown (next_record default_config inv.state [] [] inv.left) c.read_next-in-loop-number.new.reader c.in_ok-read_next-2.field-0 (fields_of c.read_next-in-loop-number.new.fields) shown c.if-not-branch-2.false in
    rw next.2 (next_textual inv.left inv.state next.0 inv.between inv.text next.1).fields

pub returns-in-Err-read_row : goal.returns-in-Err-read_row
returns-in-Err-read_row c =
    let inv = c.loop-number.invariant in
    let fields = fields_of c.read_next-in-loop-number.new.fields in
    let shown = c.in_ok-read_next-2.ensures inv.state inv.left inv.at_left in
    let next = some_shown (next_record default_config inv.state [] [] inv.left) c.read_next-in-loop-number.new.reader c.in_ok-read_next-2.field-0 fields shown c.if-not-branch-2.false in
    let here = row_here c.loop-number.schema c.loop-number.rows.items c.loop-number.number inv.state inv.left next.0 fields _ inv.between next.1 next.2 inv.value in
    let given = rw c.as_slice.ensures at c.in-Err-read_row.ensures.value in
    row_refused c.loop-number.schema c.loop-number.rows.items c.loop-number.number fields (rest_records next.0.1 next.0.2) c.in-Err-read_row.refusal _ given here

pub loop-number-preserved : goal.loop-number-preserved
loop-number-preserved c =
    let inv = c.loop-number.invariant in
    let fields = fields_of c.read_next-in-loop-number.new.fields in
    let shown = c.in_ok-read_next-2.ensures inv.state inv.left inv.at_left in
    let next = some_shown (next_record default_config inv.state [] [] inv.left) c.read_next-in-loop-number.new.reader c.in_ok-read_next-2.field-0 fields shown c.if-not-branch-2.false in
    let here = row_here c.loop-number.schema c.loop-number.rows.items c.loop-number.number inv.state inv.left next.0 fields _ inv.between next.1 next.2 inv.value in
    let given = rw c.as_slice.ensures at c.in-Ok-read_row.ensures.value in
    let fits = rw c.as_slice.ensures at c.in-Ok-read_row.ensures.fits in
    rw c.in_ok-push-in-Ok-read_row.ensures.items (record {
      few = inv.few;
      differ = inv.differ;
      fit = fit-push c.loop-number.schema c.loop-number.rows.items c.in-Ok-read_row.row inv.fit fits;
      state = next.0.1;
      left = next.0.2;
      at_left = next.3;
      between = (next_behind inv.left inv.state next.0 inv.between next.1).0;
      text = (next_textual inv.left inv.state next.0 inv.between inv.text next.1).rest;
      value = row_more c.loop-number.schema c.loop-number.rows.items c.loop-number.number fields (rest_records next.0.1 next.0.2) c.in-Ok-read_row.row _ given here;
    })
