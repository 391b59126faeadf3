pub mod Faults
pub mod Rows
pub mod Reading
pub mod Order
pub mod Kept
pub mod Texts
pub mod Remaining
