pub mod At
pub mod Tables
pub mod Pushed
pub mod RowsBegin
pub mod RowsPut
