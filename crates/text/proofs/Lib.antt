pub mod Marks
pub mod Bounds
pub mod Steps
pub mod Derived
pub mod Begins
pub mod Local
