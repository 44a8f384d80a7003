pub mod ListLemmas
pub mod ValuesLemmas
