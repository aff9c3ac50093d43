pub mod Served
pub mod ServedFolder
pub mod ServeAnswer
pub mod Lasting
