pub mod Bounds
pub mod WholeViews
