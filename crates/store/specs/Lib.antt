pub mod Store
pub mod Steps
pub mod Image
pub mod Signer
pub mod Listing
pub mod Records
pub mod Contract
