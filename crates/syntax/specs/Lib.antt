pub mod Grammar
pub mod Asn
pub mod Types
pub mod Contract
