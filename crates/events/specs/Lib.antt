pub mod Searches
pub mod Outcomes
