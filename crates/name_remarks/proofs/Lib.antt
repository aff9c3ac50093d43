pub mod Spelled
pub mod Ends
pub mod Taken
