pub mod Fronts
pub mod Gathered
pub mod Replays
pub mod LogView
pub mod Seats
pub mod Walks
