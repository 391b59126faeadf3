pub mod Bits
pub mod Digits
