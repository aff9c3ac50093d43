pub mod Keeping
pub mod PlacesFound
pub mod JoinedLeads
pub mod Recoveries
pub mod SegmentLines
