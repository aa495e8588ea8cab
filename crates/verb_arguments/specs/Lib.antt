pub mod Arguments
pub mod Forms
pub mod VerbNames
pub mod Working
