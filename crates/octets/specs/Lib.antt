pub mod Status
pub mod Limits
pub mod Lists
pub mod Octets
pub mod Number
pub mod Ascii
pub mod First
