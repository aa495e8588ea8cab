pub mod After
pub mod Columns
pub mod Shapes
pub mod Suits
