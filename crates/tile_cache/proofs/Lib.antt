pub mod Kept
pub mod Entries
pub mod Values
mod Examples
