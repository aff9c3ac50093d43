pub mod Answers
pub mod Desks
pub mod LockReports
pub mod Reports
pub mod Resumed
pub mod Sealed
pub mod Trips
pub mod Codes
