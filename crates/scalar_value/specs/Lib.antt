pub mod Decimals
pub mod Gives
pub mod Numbers
pub mod Order
pub mod OrderLaws
pub mod formers
pub mod Truths
