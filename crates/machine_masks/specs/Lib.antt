pub mod Members
pub mod Privileges
