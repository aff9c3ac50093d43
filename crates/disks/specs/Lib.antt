pub mod Entries
pub mod Held
pub mod Folders
pub mod Lasting
pub mod Calls
pub mod GrownFile
pub mod Left
