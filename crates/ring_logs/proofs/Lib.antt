pub mod Replaying
pub mod Following
pub mod AllSurveys
pub mod Groups
