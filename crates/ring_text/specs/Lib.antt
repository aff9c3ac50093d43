pub mod SavedOf
pub mod Report
pub mod Written
pub mod SavedReport
