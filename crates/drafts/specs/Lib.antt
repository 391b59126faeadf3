pub mod Holding
pub mod Steps
pub mod Promise
