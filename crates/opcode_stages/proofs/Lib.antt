pub mod Pitches
pub mod Columns
pub mod MappedRows
pub mod Mending
pub mod Lookups
