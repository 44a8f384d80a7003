mod Examples
pub mod FirstEntry
pub mod OpenLemmas
pub mod ValuesLemmas
