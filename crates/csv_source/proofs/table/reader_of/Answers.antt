use Rattle.std.proofs.Common.{◌∙◌, inr}
use Rattle.csv_source.proofs.table.reader_of.Goals as goal

pub returns : goal.returns
returns c =
    let made = c.from_reader.ensures in
    let flexible = c.flexible.ensures in
    let headers = c.has_headers.ensures in
    record {
      plain = rw (flexible, headers) at made.trim ∙ c.new.ensures.trim;
      ready = inr (inr (rw (flexible, headers) at made.has_headers, made.headers));
      config = rw (flexible, headers) at made.config ∙ c.new.ensures.config;
      state_is = made.state;
      source = made.source;
    }
