-- Definitions for the contracts between functions of this crate.
pub mod Faults
