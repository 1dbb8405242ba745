pub mod Left
pub mod Demand3
pub mod Demand2
pub mod Desk
pub mod Offset
pub mod Contract
