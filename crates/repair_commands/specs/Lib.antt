pub mod Wanted
pub mod Repaired
