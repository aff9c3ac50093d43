pub mod Life
pub mod Lawful
pub mod Around
pub mod Started
pub mod Runs
pub mod OneLife
