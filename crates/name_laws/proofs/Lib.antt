pub mod Saying
pub mod Filing
