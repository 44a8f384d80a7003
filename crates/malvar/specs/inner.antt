-- Definitions for the contracts between functions of this crate.
pub mod Around
pub mod Rows
pub mod AroundLaws
