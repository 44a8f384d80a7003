pub mod Cut
pub mod Keeping
pub mod Lower
pub mod Stamping
pub mod Tiled
