pub mod Knots
pub mod Tones
pub mod Laws
pub mod inner
