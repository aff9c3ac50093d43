pub mod Drawn
pub mod Groups
pub mod GroupLaws
pub mod Turns
pub mod Blocks
