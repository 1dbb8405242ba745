pub mod Keys
pub mod Led
pub mod Split
pub mod Repeats
