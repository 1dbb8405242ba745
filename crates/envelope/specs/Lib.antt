pub mod Parts
pub mod Attributes
pub mod Rows
