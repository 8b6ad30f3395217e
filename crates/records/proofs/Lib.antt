pub mod Followed
pub mod Keeping
pub mod Growing
pub mod Working
pub mod Mending
pub mod Asking
pub mod Firsts
