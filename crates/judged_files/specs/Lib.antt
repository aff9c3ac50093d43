pub mod Lines
pub mod Beginnings
pub mod Judging
pub mod Causes
pub mod Laws
