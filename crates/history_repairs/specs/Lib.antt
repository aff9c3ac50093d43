pub mod Ranks
pub mod Repairs
pub mod Lines
pub mod Walks
