pub mod Motion
pub mod Walks
