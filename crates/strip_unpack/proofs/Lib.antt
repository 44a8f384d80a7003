pub mod BytePairs
mod Examples
pub mod FileOrder
pub mod Formula
pub mod GroupRows
pub mod OneSpelling
pub mod Rows
pub mod Unpacking
