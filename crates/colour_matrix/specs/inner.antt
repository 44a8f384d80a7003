-- Definitions for the contracts between functions of this crate.
pub mod Factors
pub mod BalanceRows
pub mod MatrixRows
