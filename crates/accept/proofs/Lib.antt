pub mod Unfolded
pub mod Anchors
pub mod Rows
pub mod OfStore
pub mod Blocks
