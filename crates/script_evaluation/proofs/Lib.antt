pub mod Kept
pub mod Refusals
pub mod Scopes
pub mod Staged
