pub mod Marks
pub mod Ones
pub mod Sets
