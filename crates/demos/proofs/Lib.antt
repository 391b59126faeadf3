pub mod Naming
pub mod Telling
