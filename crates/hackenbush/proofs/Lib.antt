pub mod Flags
pub mod Flooding
pub mod Cutting
pub mod Moves
pub mod Making
