pub mod Chain
pub mod Elements
pub mod Codes
pub mod Members
pub mod Answers
