pub mod Holds
pub mod Tables
pub mod Memories
