pub mod Balances
pub mod Matrices
pub mod Laws
pub mod Equal
pub mod inner
