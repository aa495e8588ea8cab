pub mod CaseTypes
pub mod ListSteps
pub mod TypeSteps
pub mod TypedOperators
pub mod TypedValues
