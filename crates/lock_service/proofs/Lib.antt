pub mod Unchanged
pub mod Answered
mod ToldInputs
pub mod EqualLines
pub mod EqualSegments
pub mod Rejoining
pub mod WaitingLines
pub mod WaitersBack
pub mod StateBack
pub mod StateStays
pub mod WholeTexts
pub mod WithoutRemarks
pub mod RemarksBack
pub mod SameNames
pub mod ServedLines
