pub mod Stated
pub mod Stepped
pub mod WithRepairs
