pub mod Refusals
pub mod Words
pub mod Parsed
pub mod Numbers
pub mod Marks
pub mod Grammar
pub mod Places
pub mod Signed
