pub mod Runs
pub mod Shown
pub mod Texts
pub mod Walking
