pub mod Sums
pub mod Pixels
pub mod Inside
pub mod RowSamples
pub mod BrightRed
