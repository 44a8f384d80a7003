pub mod Fields
pub mod Files
