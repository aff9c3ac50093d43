pub mod Endless
pub mod Files
pub mod Calls
pub mod Filling
pub mod FileLaws
