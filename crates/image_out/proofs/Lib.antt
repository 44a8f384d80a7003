mod Parts
pub mod Examples
pub mod ImageLaws
