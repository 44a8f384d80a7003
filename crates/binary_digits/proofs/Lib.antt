pub mod DigitLemmas
mod Examples
