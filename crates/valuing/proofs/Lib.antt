pub mod Told
pub mod Noted
pub mod Steps
pub mod Trying
pub mod Earliest
pub mod Latest
pub mod Stepped
