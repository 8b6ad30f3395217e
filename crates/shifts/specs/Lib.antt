pub mod Stands
pub mod Made
pub mod Carried
pub mod Promise
pub mod Chains
pub mod Replayed
pub mod Laws
pub mod Worked
