pub mod Unfolded
pub mod Parts
pub mod Entries
pub mod Asked
pub mod Charged
