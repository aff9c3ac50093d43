pub mod Unread
pub mod Strict
pub mod Refusals
