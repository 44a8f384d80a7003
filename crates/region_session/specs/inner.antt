-- Definitions for the contracts between functions of this crate.
pub mod Layers
pub mod Parts
pub mod Soundness
