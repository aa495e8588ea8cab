use Rattle.csv_source.proofs.NextRecords.{all_records}
use Rattle.csv_source.proofs.laws.records_are_all.Goals as goal

pub returns : goal.returns
returns c = all_records
