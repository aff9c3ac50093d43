pub mod Waiting
pub mod Doing
pub mod Acting
pub mod Beginning
pub mod Running
pub mod Farming
