pub mod Signer
pub mod Judged
