pub mod Differences
pub mod Words
pub mod inner
