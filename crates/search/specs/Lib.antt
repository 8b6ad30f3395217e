pub mod Openings
pub mod Sheets
pub mod Traces
pub mod Laws
