pub mod Picture
pub mod Stretches
pub mod Walks
