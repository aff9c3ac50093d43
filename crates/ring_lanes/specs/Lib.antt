pub mod Hits
pub mod Masks
