pub mod Rings
pub mod Drawn
pub mod Settings
