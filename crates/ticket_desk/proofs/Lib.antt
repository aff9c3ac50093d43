pub mod Draws
pub mod Shares
