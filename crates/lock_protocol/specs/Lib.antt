pub mod Names
pub mod NameReading
pub mod Tables
pub mod Asks
pub mod Views
pub mod Inputs
pub mod Readers
pub mod Answers
