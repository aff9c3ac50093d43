pub mod Blocks
pub mod Drawings
pub mod Choices
