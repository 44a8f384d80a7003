pub mod DataLemmas
pub mod DecodeLemmas
mod Examples
pub mod OrderLemmas
pub mod ShortLemmas
pub mod SpellLemmas
pub mod TableLemmas
pub mod TurnLemmas
pub mod WalkLemmas
