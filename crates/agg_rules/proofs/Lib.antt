pub mod DifferentSteps
pub mod FirstSteps
pub mod MeanSteps
pub mod MissingSteps
pub mod SumSteps
