pub mod Sets
pub mod Slots
pub mod Joins
pub mod Outcomes
pub mod Grammar
pub mod Refused
