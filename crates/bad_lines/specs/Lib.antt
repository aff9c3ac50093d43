pub mod Replays
pub mod Wrongs
pub mod BadLines
pub mod BadLineTexts
pub mod Laws
