pub mod Cache
pub mod Ends
pub mod Kept
pub mod Pairs
pub mod inner
