pub mod Bases
pub mod Planes
pub mod Stages
