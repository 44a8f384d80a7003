-- Definitions for the contracts between functions of this crate.
pub mod Closing
pub mod Developed
pub mod Endings
pub mod Opens
pub mod Pieces
pub mod Planning
pub mod Reading
pub mod Shown
pub mod Writes
