-- Definitions for the contracts between functions of this crate.
pub mod MapRows
pub mod MendRows
pub mod Places
pub mod Indexes
