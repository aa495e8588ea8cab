pub mod Pieces
pub mod Conditions
pub mod Typed
pub mod Columns
pub mod Replacing
pub mod Verbs
pub mod Trees
pub mod Making
