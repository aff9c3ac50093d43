pub mod Waits
pub mod Looks
