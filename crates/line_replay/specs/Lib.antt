pub mod Machines
pub mod Following
pub mod Redone
pub mod Replays
pub mod Runs
