-- Definitions for the contracts between functions of this crate.
pub mod Area
pub mod Layout
pub mod Span
