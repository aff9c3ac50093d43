pub mod Entries
pub mod Judged
pub mod Tables
pub mod Kept
pub mod Laws
