pub mod Searched
pub mod Filled
pub mod Latest
pub mod Back
pub mod Told
pub mod Listed
