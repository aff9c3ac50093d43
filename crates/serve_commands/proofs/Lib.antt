pub mod JournalStarts
pub mod Making
pub mod ServeRefusals
pub mod StillThere
mod Beginnings
mod Floors
mod LastingJournals
mod UnderLock
