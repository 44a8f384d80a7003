pub mod Padding
pub mod Tables
pub mod Roots
pub mod Lines
