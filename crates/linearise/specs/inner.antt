-- Definitions for the contracts between functions of this crate.
pub mod Blacks
pub mod Rows
pub mod Scales
pub mod Held
pub mod Seen
