pub mod Ends
pub mod Closed
pub mod Blocks
pub mod Farmed
pub mod Turned
pub mod Drawn
pub mod Written
