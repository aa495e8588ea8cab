pub mod Fitting
