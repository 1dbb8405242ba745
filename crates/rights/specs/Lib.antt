pub mod Rights
pub mod Decision
pub mod Examples
pub mod Constraints
pub mod Attributes
pub mod Valid
pub mod Contract
