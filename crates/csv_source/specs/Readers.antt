-- Where a reader of bytes in memory stands.
use Rattle.std.specs.Prelude.{◌≡◌, ℕ, Bool, true, false, List, [], Option, Some, None}
use Rattle.std.specs.Borrow.{Bor}
use Rattle.csv.specs.Machine.{Read, next_record}
use Rattle.csv.specs.Reading.{Ready, default_config, reader_config, reader_state, reader_trim, source_of}
use Rattle.csv.specs.declared.parser.State.{State}
use Rattle.csv.specs.declared.reader.Reader.{Reader}
use Rattle.csv.specs.declared.reader.Trim.TheVariants as trim

-- it has these bytes left, in this state of csv's machine
pub record IsAt (reader : Reader (Bor (List ℕ))) (state : State) (left : List ℕ) : Type 0 where
  pub plain : reader_trim reader ≡ trim.None
  pub ready : Ready reader
  pub config : reader_config reader ≡ default_config
  pub state_is : reader_state reader ≡ state
  pub source : source_of (λ (bytes : Bor (List ℕ)). Some bytes.now) reader ≡ Some left

-- what a read shows of the next record: that there is none, or its fields, and the reader stands behind it
abbrev pub ShowsNext : Option Read → Reader (Bor (List ℕ)) → Bool → List (List ℕ) → Type 0
ShowsNext None reader found fields = found ≡ false
ShowsNext (Some p) reader found fields = (found ≡ true) × (fields ≡ p.0) × IsAt reader p.1 p.2

-- the read of one record, from wherever the reader stands
abbrev pub ReadsNextRecord : Reader (Bor (List ℕ)) → Reader (Bor (List ℕ)) → Bool → List (List ℕ) → Type 0
ReadsNextRecord old new found fields = (state : State) (left : List ℕ) → IsAt old state left → ShowsNext (next_record default_config state [] [] left) new found fields
