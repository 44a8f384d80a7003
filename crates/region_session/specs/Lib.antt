pub mod Sessions
pub mod Stacks
pub mod inner
