pub mod Reading
pub mod Stepping
pub mod Ringing
pub mod Texts
pub mod Lawful
