use Rattle.std.proofs.Common.{◌≡◌, ◌≢◌, false, sym, ◌∙◌, ap}
use Rattle.std.specs.Prelude.{is_err}
use Rattle.std.proofs.lemmas.Str.{IsUtf8-append}
use Rattle.csv.specs.Records.{Row, fields_of}
use Rattle.csv.specs.Writing.{default_writer, row_text, writer_setup}
use Rattle.csv.specs.declared.writer.WriterBuilder.{WriterBuilder}
use Rattle.csv.specs.declared.writer.QuoteStyle.TheVariants as style
use Rattle.csv.proofs.ReadFacts.{on-ok}
use Rattle.table_print.specs.CsvText.{csv_line}
use Rattle.table_print.proofs.Lines.{grown}
use Rattle.table_print.proofs.Texts.{line-utf8}
use Rattle.table_print.proofs.csv_text.put_line.Goals as goal

pub returns : goal.returns
unfolding csv_line
returns c text has =
    let none : is_err c.write_byte_record.result ≡ false = sym c.is_err.ensures.value ∙ c.if-is_err.false in
    let plain : (writer_setup c.args.writer.now).style ≢ style.NonNumeric = rw has.setup (λ e. cc e) in
    let more = on-ok c.write_byte_record.result none c.write_byte_record.ensures.bytes has.fields has.clean plain in
    let row =
    ap (λ (cfg : WriterBuilder). row_text cfg (fields_of c.as_byte_record.result.now)) has.setup ∙ ap (λ (r : Row). row_text default_writer (fields_of r)) c.as_byte_record.ensures in
    record {
      bytes = grown _ _ text (row_text (writer_setup c.args.writer.now) (fields_of c.as_byte_record.result.now)) (csv_line (fields_of c.args.line.now)) more has.bytes row;
      setup = on-ok c.write_byte_record.result none c.write_byte_record.ensures.setup ∙ has.setup;
      fields = on-ok c.write_byte_record.result none c.write_byte_record.ensures.ended;
      clean = on-ok c.write_byte_record.result none c.write_byte_record.ensures.clean;
      utf8 = IsUtf8-append text (csv_line (fields_of c.args.line.now)) has.utf8 (line-utf8 (fields_of c.args.line.now) c.requires);
    }
