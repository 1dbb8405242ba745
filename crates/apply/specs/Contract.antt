pub mod Scratch
pub mod Effect
pub mod Edits
pub mod Entry
pub mod Update
pub mod Names
pub mod Community
