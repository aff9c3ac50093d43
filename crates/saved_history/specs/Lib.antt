pub mod Versions
pub mod Content
pub mod Spelling
pub mod Lines
pub mod Meaning
