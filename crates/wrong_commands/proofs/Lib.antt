pub mod Written
pub mod Reports
pub mod Checked
mod Readings
pub mod Makings
pub mod Spoiled
pub mod Permitted
pub mod Unnoted
pub mod Traced
pub mod Unchained
pub mod Gapped
pub mod Emptied
pub mod EmptyJournals
pub mod Cuts
pub mod Places
pub mod Elsewhere
pub mod OneReport
pub mod Unlocked
mod Stayed
mod Dropped
mod OtherNames
