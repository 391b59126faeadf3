pub mod Words
pub mod Sides
pub mod Made
pub mod Next
