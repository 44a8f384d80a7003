pub mod Image
pub mod Tiff
