pub mod Held
pub mod Stepped
pub mod Promised
