pub mod FoundNames
