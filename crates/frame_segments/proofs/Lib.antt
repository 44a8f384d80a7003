pub mod SegmentLemmas
mod Examples
pub mod Opening
