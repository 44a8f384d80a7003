pub mod Pattern
pub mod Demosaic
pub mod Mosaics
pub mod Laws
pub mod Equal
pub mod inner
