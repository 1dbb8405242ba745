pub mod Unfolded
pub mod Attributes
pub mod Opening
pub mod Charged
