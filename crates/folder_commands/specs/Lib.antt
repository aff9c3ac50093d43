pub mod JoinedFolder
pub mod JoinSteps
pub mod Recovered
pub mod SegmentRecovered
