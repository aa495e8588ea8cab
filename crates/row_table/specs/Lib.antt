pub mod Keys
pub mod SameTables
pub mod Sorting
pub mod Tables
