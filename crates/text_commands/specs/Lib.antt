pub mod CheckedAll
pub mod Judged
pub mod Pictured
pub mod Reported
pub mod Upgraded
