pub mod Rules
pub mod Faults
pub mod Winning
pub mod Laws
pub mod Remaining
