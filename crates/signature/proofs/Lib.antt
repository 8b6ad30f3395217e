pub mod Reading
pub mod Derived
pub mod Alike
pub mod Begins
