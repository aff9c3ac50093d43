pub mod Moved
pub mod Refusals
