pub mod Answers
pub mod FaultText
pub mod Opcodes
pub mod Quantities
pub mod Tags
pub mod Values
