pub mod AreaLemmas
mod Examples
pub mod LayoutLemmas
pub mod OriginLemmas
pub mod RawLemmas
pub mod SpanLemmas
