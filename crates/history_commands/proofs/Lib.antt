pub mod Bounded
pub mod Told
