pub mod HeaderLemmas
pub mod LineLemmas
pub mod ModuloLemmas
pub mod TableLemmas
pub mod PredictionLemmas
pub mod DecodeLemmas
pub mod LongestLemmas
pub mod FreeLemmas
pub mod AnswerLemmas
pub mod OneAnswerLemmas
pub mod RebuiltLemmas
pub mod WriterLemmas
pub mod EncodeLemmas
pub mod LawLemmas
pub mod HeadLemmas
pub mod DecodedLemmas
mod Examples
