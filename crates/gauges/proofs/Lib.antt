pub mod Members
pub mod Words
pub mod Events
pub mod Derived
pub mod Alike
pub mod Begins
pub mod Sheets
