mod Examples
pub mod Places
pub mod TrimLemmas
pub mod Walk
