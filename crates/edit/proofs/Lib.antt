pub mod Replaced
pub mod Stores
