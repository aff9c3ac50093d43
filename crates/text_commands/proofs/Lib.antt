pub mod Drawings
pub mod Upgrades
pub mod JudgedFiles
