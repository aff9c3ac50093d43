pub mod Spelling
pub mod Reading
pub mod ContentAfter
pub mod Recovery
pub mod Judging
pub mod Prefixes
pub mod Salvaging
