pub mod Gaps
pub mod Signatures
pub mod Bits
pub mod Runs
pub mod Words
pub mod Laws
pub mod Sheets
