pub mod Turns
pub mod InTurn
pub mod Rings
pub mod Refusals
