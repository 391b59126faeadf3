pub mod Marking
pub mod Holding
pub mod Reading
