pub mod Options
pub mod VerbLists
