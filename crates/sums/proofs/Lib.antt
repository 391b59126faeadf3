pub mod Values
pub mod Moves
