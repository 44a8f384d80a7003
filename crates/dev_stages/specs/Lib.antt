pub mod Changes
pub mod inner
pub mod Laws
pub mod Listed
pub mod Members
pub mod Plans
