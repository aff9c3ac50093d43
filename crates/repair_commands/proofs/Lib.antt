pub mod Reporting
pub mod Noting
pub mod Refusing
