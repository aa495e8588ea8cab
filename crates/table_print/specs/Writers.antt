-- What a writer of lines has written.
use Rattle.std.specs.Prelude.{◌≡◌, ℕ, List, false, Some, IsUtf8, Vec}
use Rattle.std.specs.declared.alloc.Global.{Global}
use Rattle.csv.specs.declared.writer.Writer.{Writer}
use Rattle.csv.specs.Writing.{default_writer, fields_written, has_written, text_written, writer_setup}

-- A default writer over a vector at the start of a line: what it has written, with what it has yet to hand on, is this text.
pub record HasWritten (w : Writer (Vec ℕ Global)) (text : List ℕ) : Type 0 where
  pub bytes : text_written (λ v. Some v.items) w ≡ Some text
  pub setup : writer_setup w ≡ default_writer
  pub fields : fields_written w ≡ 0
  pub clean : has_written w ≡ false
  pub utf8 : IsUtf8 text
