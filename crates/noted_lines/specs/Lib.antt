pub mod Sums
pub mod Notes
pub mod Readers
