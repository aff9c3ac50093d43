pub mod Reading
pub mod Spelling
pub mod Grammar
pub mod Texts
pub mod Writing
pub mod Exact
pub mod Limits
pub mod LongNumbers
