pub mod AnswerSteps
pub mod KeptTables
pub mod ReadScripts
pub mod StageRuns
pub mod TablesRead
