pub mod Reading
pub mod LengthOctets
