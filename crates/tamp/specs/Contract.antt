pub mod Given
pub mod Reply
