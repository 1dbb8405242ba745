pub mod Faults
pub mod Usual
