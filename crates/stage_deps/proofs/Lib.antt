pub mod Coverage
pub mod GridCells
