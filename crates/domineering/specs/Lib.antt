pub mod Domineering
pub mod Making
pub mod Lawful
pub mod Size
pub mod Moves
pub mod Told
