pub mod Entries
pub mod Header
pub mod Kinds
pub mod Numbers
pub mod Seen
pub mod Values
pub mod inner
