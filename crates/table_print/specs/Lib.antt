pub mod Cells
pub mod CsvText
pub mod Aligned
pub mod Writers
pub mod Widths
