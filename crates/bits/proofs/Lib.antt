pub mod Words
pub mod Places
pub mod Counts
pub mod Digits
