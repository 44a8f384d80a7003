-- Definitions for the contracts between functions of this crate.
pub mod Registers
pub mod Short
pub mod Tables
