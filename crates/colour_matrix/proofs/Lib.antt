pub mod Digits
pub mod Groups
pub mod Raised
pub mod Pixels
