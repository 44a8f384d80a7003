pub mod Equal
pub mod Laws
pub mod Linear
pub mod Parameters
pub mod Settings
pub mod inner
