pub mod Entries
pub mod FirstFaults
pub mod FreshRings
pub mod FreshTexts
pub mod Settling
pub mod StepLemmas
