pub mod CellLemmas
pub mod Counting
pub mod FetchedCells
pub mod Formulas
pub mod Parts
pub mod PixelCells
