pub mod Faults
pub mod Holding
pub mod Kept
pub mod Settled
pub mod Printing
pub mod Writing
