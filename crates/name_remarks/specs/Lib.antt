pub mod Remarks
pub mod Views
pub mod Readers
pub mod Bindings
