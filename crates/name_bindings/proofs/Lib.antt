pub mod Places
pub mod Found
pub mod Changed
pub mod FixedNames
