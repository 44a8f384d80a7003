pub mod Held
pub mod Kept
pub mod Laws
pub mod Missing
pub mod Tiers
pub mod Tiling
pub mod inner
