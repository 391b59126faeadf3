pub mod Lists
pub mod Appends
pub mod Lowest
pub mod Lawful
pub mod Order
