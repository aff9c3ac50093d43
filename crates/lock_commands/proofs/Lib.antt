mod HeldLeads
pub mod FolderNames
mod HoldTexts
mod ToldLines
pub mod NamesAt
mod Summing
pub mod UnreadLists
pub mod UnreadNames
mod StartedLocks
mod ServedLocked
mod UnderLock
mod NamesUnderLock
mod NamesBegun
mod NamesLiving
mod Lent
mod Living
