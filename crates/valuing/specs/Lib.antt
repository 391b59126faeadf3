pub mod Answers
pub mod Valued
pub mod Moved
pub mod Sure
pub mod Sides
pub mod Stepping
