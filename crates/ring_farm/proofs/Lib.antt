pub mod Pairing
pub mod Refusals
pub mod Possible
pub mod Headlines
pub mod Lawful
pub mod OneOutcome
