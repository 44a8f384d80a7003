pub mod Cuts
pub mod Faults
pub mod Lists
pub mod Params
pub mod Trims
pub mod inner
