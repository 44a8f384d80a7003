pub mod BlackLevels
pub mod LinearRows
pub mod Rescaling
pub mod SameParts
pub mod UnderSettings
