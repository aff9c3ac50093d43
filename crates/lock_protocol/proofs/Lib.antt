pub mod ReadNames
pub mod NameTables
pub mod Asking
pub mod Fronts
pub mod Whole
